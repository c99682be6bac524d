-- A turn of a compaction that keeps its record, at the values that it leaves.
use Prim.Native.Nat.{ℕ, ◌+◌, ◌<◌}
use mathlib.Core.Path.{◌≡◌, sym, transport}
use mathlib.Core.Bool.{Bool, true}
use mathlib.Core.List.{List}
use Rattle.laws.specs.Records.{record_at, Written}
use Rattle.laws.proofs.Compact.{Compacting, keeps}

module _ {A : Type 0} {k : ℕ} {decode : List ℕ → A} {p : A → Bool} {n : ℕ} {l₀ : List ℕ} where
  module _ {l : List ℕ} {kept i : ℕ} (g : Compacting k decode p n l₀ l kept i) (more : i < n) {s : A} (read : s ≡ record_at k decode i l) {b : Bool} (asked : b ≡ p s) where
    pub compact_keeps : {l' : List ℕ} {kept' : ℕ} → b ≡ true → Written k decode kept s l l' → kept' ≡ kept + 1 → Compacting k decode p n l₀ l' kept' (i + 1)
    compact_keeps {l' = l'} h w e = transport (λ j. Compacting k decode p n l₀ l' (sym e j) (i + 1)) (keeps g more read asked l' h w)
