-- Compaction in place: what is kept so far is what `retain` keeps of the records read so far, and past that every number stands as it stood.
use Prim.Native.Nat.{ℕ, ◌+◌, ◌*◌, ◌≤◌, ◌<◌, zero-le}
use native.Mathlib.Omega.{arith}
use mathlib.Core.Path.{◌≡◌, refl, sym, ap, ◌∙◌, transport}
use mathlib.Core.Bool.{Bool, true, false}
use mathlib.Core.List.{List, [], ◌∷◌, ◌++◌}
use lib.ListN.{length, drop}
use Rattle.definition.specs.MemoryInit.{retain}
use Rattle.laws.specs.Records.{record_at, records, Written, Retained}
use Rattle.laws.proofs.Lists.{retain_yes, retain_no}
use Rattle.laws.proofs.Records.{retain_read, record_same, past_more, write_appends, write_spares}

-- i of the n records are read, and `kept` of them stand in front.
pub record Compacting {A : Type 0} (k : ℕ) (decode : List ℕ → A) (p : A → Bool) (n : ℕ) (l₀ l : List ℕ) (kept i : ℕ) : Type 0 where
  pub within : i ≤ n
  pub behind : kept ≤ i
  pub long : length l ≡ length l₀
  pub first : records k decode kept l ≡ retain p (records k decode i l₀)
  pub rest : drop (k * kept) l ≡ drop (k * kept) l₀

module _ {A : Type 0} {k : ℕ} {decode : List ℕ → A} {p : A → Bool} {n : ℕ} {l₀ : List ℕ} where
  pub compact_start : Compacting k decode p n l₀ l₀ 0 0
  unfolding records
  compact_start = record { within = zero-le; behind = zero-le; long = refl; first = refl; rest = refl }

  -- A turn reads the record s and asks b of it.
  module _ {l : List ℕ} {kept i : ℕ} (g : Compacting k decode p n l₀ l kept i) (more : i < n) {s : A} (read : s ≡ record_at k decode i l) {b : Bool} (asked : b ≡ p s) where
    further : retain p (records k decode (i + 1) l₀) ≡ retain p (records k decode i l₀ ++ (s ∷ []))
    further = retain_read k decode p i l₀ s (read ∙ record_same k decode i l₀ l (past_more k decode kept i l₀ l g.behind g.rest))

    pub keeps : (l' : List ℕ) → b ≡ true → Written k decode kept s l l' → Compacting k decode p n l₀ l' (kept + 1) (i + 1)
    keeps l' h w = record {
      within = omega arith;
      behind = omega (arith, g.behind);
      long = w.long ∙ g.long;
      first = write_appends k decode kept s l l' w ∙ ap (λ x. x ++ (s ∷ [])) g.first ∙ sym (further ∙ retain_yes p (records k decode i l₀) s (sym asked ∙ h));
      rest = write_spares k decode kept s l l' w (kept + 1) (omega arith) ∙ past_more k decode kept (kept + 1) l₀ l (omega arith) g.rest;
    }

    passes : b ≡ false → Compacting k decode p n l₀ l kept (i + 1)
    passes h = record {
      within = omega arith;
      behind = omega (arith, g.behind);
      long = g.long;
      first = g.first ∙ sym (further ∙ retain_no p (records k decode i l₀) s (sym asked ∙ h));
      rest = g.rest;
    }

    -- A turn that keeps nothing, at the values that it leaves; one that keeps its record is in Kept.
    pub compact_passes : {l' : List ℕ} {kept' : ℕ} → b ≡ false → l' ≡ l → kept' ≡ kept → Compacting k decode p n l₀ l' kept' (i + 1)
    compact_passes h el e = transport (λ j. Compacting k decode p n l₀ (sym el j) (sym e j) (i + 1)) (passes h)

  -- All are read: the first are what `retain` keeps, and the numbers past them stay.
  pub compact_done : {l : List ℕ} {kept i : ℕ} → Compacting k decode p n l₀ l kept i → n ≤ i → Retained k decode p n l₀ l kept
  compact_done {i = i} g d =
      let e : i ≡ n = omega (arith, g.within) in
      record { first = g.first ∙ ap (λ (j : ℕ). retain p (records k decode j l₀)) e; past = g.rest }
