-- A run, one byte further.
use Prim.Native.Nat.{ℕ, ◌+◌}
use native.Mathlib.Numerals.{add-one}
use mathlib.Core.Path.{◌≡◌, refl, sym, ap, ◌∙◌}
use mathlib.Core.List.{List}
use lib.ListN.{get_or, set}
use Rattle.submission.specs.Runs.{run}

module _ (g : ℕ → ℕ) (at : ℕ) (bytes : List ℕ) where
  pub run_none : run g at 0 bytes ≡ bytes
  unfolding run
  run_none = refl

  pub run_turn : (n : ℕ) → run g at (n + 1) bytes ≡ set (run g at n bytes) (at + n) (g (get_or (run g at n bytes) (at + n) 0))
  unfolding run
  run_turn n = rw (add-one n)

  -- The turn of a loop that reads a byte of the run so far and stores the new one.
  pub run_store : (n j b : ℕ) (l : List ℕ) → l ≡ run g at n bytes → j ≡ at + n → b ≡ g (get_or l j 0) → set l j b ≡ run g at (n + 1) bytes
  run_store n j b l el ej eb =
      ap (set l j) eb ∙ (λ q. set (el q) (ej q) (g (get_or (el q) (ej q) 0))) ∙ sym (run_turn n)
