-- What is counted: records that pass a test, and what plans find, plan by plan.
use Prim.Native.Nat.{ℕ, ◌+◌, ◌-◌, ◌*◌, ◌≤◌}
use native.Mathlib.Omega.{arith}
use mathlib.Core.Path.{◌≡◌, refl, sym, ap, subst, ◌∙◌}
use mathlib.Core.Bool.{Bool, true, false, ◌&&◌, and_assoc}
use mathlib.Core.List.{List, [], ◌∷◌, ◌++◌}
use mathlib.Core.Option.{some}
use lib.Dec.{leb}
use lib.ListN.{length, drop, length-append, length-map}
use Rattle.definition.specs.Sizes.{max_discards}
use Rattle.definition.specs.MemoryInit.{retain, implicit_at, matching}
use Rattle.definition.specs.declared.Surface.{Surface}
use Rattle.definition.specs.declared.Range.{Range}
use Rattle.definition.specs.declared.MemoryInitKind.{MemoryInitKind}
use Rattle.definition.specs.declared.MemoryInitKind.TheVariants.{NeedsInitializedMemory}
use Rattle.laws.specs.Records.{record_at, records}
use Rattle.laws.specs.Plans.{Plan, leaving_by, returned_by, added_by, listed_by, leaving_all, returned_all, added_all, steps_fit}
use Rattle.laws.proofs.Lists.{retain_yes, retain_no}
use Rattle.laws.proofs.Records.{retain_read}
use Rattle.memory_init.specs.Tally.{FoundBy}
use Rattle.memory_init.specs.declared.tally.Found.{Found}

-- ── records that pass a test

-- Of no records none passes.
pub count_none : {A : Type 0} (k : ℕ) (decode : List ℕ → A) (p : A → Bool) (l : List ℕ) → 0 ≡ length (retain p (records k decode 0 l))
unfolding records
count_none k decode p l = refl

-- Of i records y pass, and s is read after them.
module _ {A : Type 0} (k : ℕ) (decode : List ℕ → A) (p : A → Bool) (l : List ℕ) (y i : ℕ) (s : A) (read : s ≡ record_at k decode i l) (so_far : y ≡ length (retain p (records k decode i l))) where
  -- It passes.
  pub count_yes : (b : Bool) (y' : ℕ) → b ≡ p s → b ≡ true → y' ≡ y + 1 → y' ≡ length (retain p (records k decode (i + 1) l))
  count_yes b y' asked h e =
      omega (arith, e, so_far, ap length (retain_read k decode p i l s read ∙ retain_yes p (records k decode i l) s (sym asked ∙ h)), length-append (retain p (records k decode i l)) (s ∷ []))

  -- It does not.
  pub count_no : (b : Bool) (y' : ℕ) → b ≡ p s → b ≡ false → y' ≡ y → y' ≡ length (retain p (records k decode (i + 1) l))
  count_no b y' asked h e = e ∙ so_far ∙ ap length (sym (retain_read k decode p i l s read ∙ retain_no p (records k decode i l) s (sym asked ∙ h)))

-- ── what plans find

-- What a needing registration finds, of n discards in its range.
pub needing_finds : {k : MemoryInitKind} {r : Range} {d : List Surface} {n : ℕ} → k ≡ NeedsInitializedMemory → n ≡ length (matching r d) → n ≤ max_discards
    → FoundBy (some k) r d (record { leaving = n; returned = n; added = n + 1 })
needing_finds {r = r} {d = d} {n = n} told e most =
    subst (λ k. FoundBy (some k) r d (record { leaving = n; returned = n; added = n + 1 })) (sym told) (record {
      leaving = e;
      returned = e;
      added = omega (arith, e, length-map (matching r d) implicit_at);
      most_leaving = most;
      most_returned = most;
      most_added = omega arith;
    })

-- A plan lists at most as many as a u32 can say.
abbrev most_layers : ℕ
most_layers = 4294967295

-- What i of the plans find among the discards d: with the others it is what all find.
pub record Tallying (ps : List Plan) (d : List Surface) (i held : ℕ) (fits : Bool) (leaving returned added : ℕ) : Type 0 where
  pub every_fits : (fits && steps_fit (drop i ps) held d) ≡ steps_fit ps (length d) d
  pub all_leaving : leaving + length (leaving_all (drop i ps) d) ≡ length (leaving_all ps d)
  pub all_returned : returned + length (returned_all (drop i ps) d) ≡ length (returned_all ps d)
  pub all_added : added + length (added_all (drop i ps) d) ≡ length (added_all ps d)
  pub most_held : held ≤ max_discards + most_layers * i
  pub most_leaving : leaving ≤ max_discards * i
  pub most_returned : returned ≤ max_discards * i
  pub most_added : added ≤ (max_discards + 1) * i

-- Before the first.
pub tally_start : (ps : List Plan) (d : List Surface) (held : ℕ) → held ≡ length d → held ≤ max_discards → Tallying ps d 0 held true 0 0 0
tally_start ps d held e h = record {
  every_fits = ap (λ (q : ℕ). steps_fit ps q d) e;
  all_leaving = omega arith;
  all_returned = omega arith;
  all_added = omega arith;
  most_held = omega arith;
  most_leaving = omega arith;
  most_returned = omega arith;
  most_added = omega arith;
}

-- Entries are counted, and those that are left.
sum_turn : {A : Type 0} {l : List A} (x rest : List A) (sum k n : ℕ) → l ≡ x ++ rest → sum + length l ≡ n → k ≡ length x → (sum + k) + length rest ≡ n
sum_turn x rest sum k n e inv h = omega (arith, ap length e, length-append x rest, inv, h)

-- One plan more.
pub tally_turn : {ps : List Plan} {d : List Surface} {i held : ℕ} {fits : Bool} {leaving returned added : ℕ} → Tallying ps d i held fits leaving returned added
    → (p : Plan) → drop i ps ≡ p ∷ drop (i + 1) ps → (f : Found) → FoundBy p.kind p.range d f → (held' : ℕ) → held' ≡ held - f.leaving + length (listed_by p) → held' ≤ held + most_layers
    → Tallying ps d (i + 1) held' (fits && leb held' max_discards) (leaving + f.leaving) (returned + f.returned) (added + f.added)
tally_turn {ps = ps} {d = d} {i = i} {held = held} {fits = fits} g p head f found held' e most =
    record {
      every_fits = and_assoc fits (leb held' max_discards) (steps_fit (drop (i + 1) ps) held' d)
          ∙ ap (λ (q : ℕ). fits && (leb q max_discards && steps_fit (drop (i + 1) ps) q d)) (e ∙ ap (λ (q : ℕ). held - q + length (listed_by p)) found.leaving)
          ∙ ap (λ q. fits && steps_fit q held d) (sym head)
          ∙ g.every_fits;
      all_leaving = sum_turn (leaving_by p.kind p.range d) (leaving_all (drop (i + 1) ps) d) _ f.leaving _ (ap (λ q. leaving_all q d) head) g.all_leaving found.leaving;
      all_returned = sum_turn (returned_by p.kind p.range d) (returned_all (drop (i + 1) ps) d) _ f.returned _ (ap (λ q. returned_all q d) head) g.all_returned found.returned;
      all_added = sum_turn (added_by p.kind p.range d) (added_all (drop (i + 1) ps) d) _ f.added _ (ap (λ q. added_all q d) head) g.all_added found.added;
      most_held = omega (arith, most, g.most_held);
      most_leaving = omega (arith, g.most_leaving, found.most_leaving);
      most_returned = omega (arith, g.most_returned, found.most_returned);
      most_added = omega (arith, g.most_added, found.most_added);
    }
