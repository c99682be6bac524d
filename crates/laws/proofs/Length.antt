-- As many records are read as are asked for, in whatever order.
use Prim.Native.Nat.{ℕ, zero, suc}
use native.Mathlib.Omega.{arith}
use mathlib.Core.Path.{◌≡◌, refl, ◌∙◌}
use mathlib.Core.List.{List, [], ◌∷◌}
use lib.ListN.{length, length-append}
use Rattle.laws.specs.Records.{record_at, records}

module _ {A : Type 0} (k : ℕ) (decode : List ℕ → A) where
  pub records_length : (n : ℕ) (l : List ℕ) → length (records k decode n l) ≡ n
  unfolding records
  records_length zero l = refl
  records_length (suc n) l = length-append (records k decode n l) (record_at k decode n l ∷ []) ∙ omega (arith, records_length n l)
