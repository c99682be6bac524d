-- Laws of plans: where no surface is reached twice, what attachments do one after the other is told by the discards as they are found, so that every removal may come before every entry.
use mathlib.Core.Path.{◌≡◌, refl, sym, ap, ap₂, ◌∙◌}
use mathlib.Core.Bool.{Bool, true, false, not, ◌&&◌, cond}
use mathlib.Core.List.{List, [], ◌∷◌, ◌++◌, map, append_assoc, append-nil}
use mathlib.Core.Option.{Option, none, some}
use Prim.Native.Nat.{ℕ, zero, suc, ◌+◌, ◌-◌, ◌≤◌}
use native.Mathlib.Omega.{arith}
use lib.Dec.{leb}
use lib.ListN.{length, drop, length-append}
use borrow.Author.Tests.{leb-true}
use Rattle.definition.specs.Sizes.{max_discards, max_actions}
use Rattle.definition.specs.Surfaces.{hits, named, elem}
use Rattle.definition.specs.Verdict.{nowhere, ◌then◌, unless}
use Rattle.definition.specs.MemoryInit.{Lists, implicit_at, retain, matching, others, register_init_action, registered, discarded}
use Rattle.definition.specs.Attachments.{Attached, range_in, kind_of, discards, attach, attach_all}
use Rattle.definition.specs.Pass.{discards_fit, room_verdict}
use Rattle.definition.specs.declared.Surface.{Surface}
use Rattle.definition.specs.declared.Range.{Range}
use Rattle.definition.specs.declared.MemoryInitKind.{MemoryInitKind}
use Rattle.definition.specs.declared.MemoryInitKind.TheVariants.{ImplicitlyInitialized, NeedsInitializedMemory}
use Rattle.laws.specs.Separate.{reaches, reached, Separate}
use Rattle.laws.specs.Plans.{Plan, plan_of, action_of, leaving_by, staying_by, returned_by, added_by, listed_by, leaving_all, staying_all, returned_all, added_all, listed_all, together, held_after, steps_fit, Layered}
use Rattle.laws.proofs.Tests.{and_left, and_right, clash, or_off_left, or_off_right}
use Rattle.laws.proofs.Surfaces.{retain_none}
use Rattle.laws.proofs.Lists.{retain_append, matching_others}

-- ── entries that pass a test

-- A list without entries.
pub no_entries_lem : {A : Type 0} (l : List A) → length l ≡ 0 → l ≡ []
no_entries_lem [] h = refl
no_entries_lem (x ∷ l) h = absurd (omega (arith, h))

-- What passes a test still does where entries that fail it are taken out.
pub retain_apart : {A : Type 0} (f g : A → Bool) → ((x : A) → g x ≡ true → f x ≡ false) → (a : List A) → retain f (retain (λ x. not (g x)) a) ≡ retain f a
retain_apart f g apart [] = refl
retain_apart f g apart (x ∷ a) = go (g x) refl (retain_apart f g apart a)
  where
    go : (q : Bool) → g x ≡ q → retain f (retain (λ x. not (g x)) a) ≡ retain f a
        → retain f (cond (not (g x)) (x ∷ retain (λ x. not (g x)) a) (retain (λ x. not (g x)) a)) ≡ cond (f x) (x ∷ retain f a) (retain f a)
    go true e ih = simp (e, apart x e, ih)
    go false e ih = simp (e, ih)

-- Where no entry passes, every entry fails.
pub retain_rest : {A : Type 0} (f : A → Bool) (a : List A) → length (retain f a) ≡ 0 → retain (λ x. not (f x)) a ≡ a
retain_rest f [] h = refl
retain_rest f (x ∷ a) h = go (f x) h (retain_rest f a)
  where
    go : (q : Bool) → length (cond q (x ∷ retain f a) (retain f a)) ≡ 0 → (length (retain f a) ≡ 0 → retain (λ x. not (f x)) a ≡ a)
        → cond (not q) (x ∷ retain (λ x. not (f x)) a) (retain (λ x. not (f x)) a) ≡ x ∷ a
    go true e ih = absurd (omega (arith, e))
    go false e ih = ap (λ l. x ∷ l) (ih e)

-- ── discards that are alike for plans

-- Each plan's range has the same of both.
abbrev pub Alike : List Plan → List Surface → List Surface → Type 0
Alike [] d e = Unit {0}
Alike (p ∷ ps) d e = (matching p.range d ≡ matching p.range e) × Alike ps d e

-- Alike to one between is alike.
pub alike_trans : (ps : List Plan) (a b c : List Surface) → Alike ps a b → Alike ps b c → Alike ps a c
alike_trans [] a b c g h = tt
alike_trans (p ∷ ps) a b c g h = (g.0 ∙ h.0, alike_trans ps a b c g.1 h.1)

-- The same leaves by a plan whose range has the same.
leaving_same : (k : Option MemoryInitKind) (r : Range) (d e : List Surface) → matching r d ≡ matching r e → leaving_by k r d ≡ leaving_by k r e
leaving_same none r d e h = refl
leaving_same (some k) r d e h = h

-- The same is returned.
returned_same : (k : Option MemoryInitKind) (r : Range) (d e : List Surface) → matching r d ≡ matching r e → returned_by k r d ≡ returned_by k r e
returned_same none r d e h = refl
returned_same (some ImplicitlyInitialized) r d e h = refl
returned_same (some NeedsInitializedMemory) r d e h = h

-- The same is added.
added_same : (k : Option MemoryInitKind) (r : Range) (d e : List Surface) → matching r d ≡ matching r e → added_by k r d ≡ added_by k r e
added_same none r d e h = refl
added_same (some ImplicitlyInitialized) r d e h = refl
added_same (some NeedsInitializedMemory) r d e h = ap (λ l. action_of r NeedsInitializedMemory ∷ map implicit_at l) h

-- Of discards that are alike the same leave.
pub alike_leaving : (ps : List Plan) (d e : List Surface) → Alike ps d e → leaving_all ps d ≡ leaving_all ps e
alike_leaving [] d e h = refl
alike_leaving (p ∷ ps) d e h = ap₂ ◌++◌ (leaving_same p.kind p.range d e h.0) (alike_leaving ps d e h.1)

-- The same are returned.
pub alike_returned : (ps : List Plan) (d e : List Surface) → Alike ps d e → returned_all ps d ≡ returned_all ps e
alike_returned [] d e h = refl
alike_returned (p ∷ ps) d e h = ap₂ ◌++◌ (returned_same p.kind p.range d e h.0) (alike_returned ps d e h.1)

-- The same actions are added.
pub alike_added : (ps : List Plan) (d e : List Surface) → Alike ps d e → added_all ps d ≡ added_all ps e
alike_added [] d e h = refl
alike_added (p ∷ ps) d e h = ap₂ ◌++◌ (added_same p.kind p.range d e h.0) (alike_added ps d e h.1)

-- The steps have room alike.
pub alike_steps : (ps : List Plan) (n : ℕ) (d e : List Surface) → Alike ps d e → steps_fit ps n d ≡ steps_fit ps n e
alike_steps [] n d e h = refl
alike_steps (p ∷ ps) n d e h =
    ap (λ m. leb m max_discards && steps_fit ps m d) held ∙ ap (λ b. leb (held_after p n e) max_discards && b) (alike_steps ps (held_after p n e) d e h.1)
  where
    held : held_after p n d ≡ held_after p n e
    held = ap (λ l. n - length l + length (listed_by p)) (leaving_same p.kind p.range d e h.0)

-- ── surfaces that no attachment reaches

-- What leaves at a range that none of them meets is not theirs: to them the discards stay alike.
staying_alike : (xs : List Attached) (k : Option MemoryInitKind) (q : Range) (d : List Surface) → ((s : Surface) → hits q s ≡ true → reached s xs ≡ false)
    → Alike (map plan_of xs) (staying_by k q d) d
staying_alike [] k q d apart = tt
staying_alike (x ∷ xs) k q d apart = (same_left k, staying_alike xs k q d (λ s e. or_off_right (reaches x s) (reached s xs) (apart s e)))
  where
    same_left : (k : Option MemoryInitKind) → matching (range_in x) (staying_by k q d) ≡ matching (range_in x) d
    same_left none = refl
    same_left (some j) = retain_apart (hits (range_in x)) (hits q) (λ s e. or_off_left (reaches x s) (reached s xs) (apart s e)) d

-- A range that has none of a list takes none out of it.
none_matching : (r : Range) (e : List Surface) → ((s : Surface) → elem s e ≡ true → hits r s ≡ false) → matching r e ≡ []
none_matching r e off = no_entries_lem (matching r e) (retain_none (hits r) e off)

-- Entries that none of them reaches make no difference to them.
listed_alike : (xs : List Attached) (d e : List Surface) → ((s : Surface) → elem s e ≡ true → reached s xs ≡ false) → Alike (map plan_of xs) (d ++ e) d
listed_alike [] d e off = tt
listed_alike (x ∷ xs) d e off = (
  retain_append (hits (range_in x)) d e
      ∙ ap (λ l. matching (range_in x) d ++ l) (none_matching (range_in x) e (λ s h. or_off_left (reaches x s) (reached s xs) (off s h)))
      ∙ append-nil (matching (range_in x) d),
  listed_alike xs d e (λ s h. or_off_right (reaches x s) (reached s xs) (off s h)),
)

-- Entries that a range does not have stay, behind what stays of the rest.
staying_listed_by : (k : Option MemoryInitKind) (r : Range) (d e : List Surface) → ((s : Surface) → elem s e ≡ true → hits r s ≡ false)
    → staying_by k r (d ++ e) ≡ staying_by k r d ++ e
staying_listed_by none r d e off = refl
staying_listed_by (some k) r d e off =
    retain_append (λ s. not (hits r s)) d e ∙ ap (λ l. others r d ++ l) (retain_rest (hits r) e (retain_none (hits r) e off))

-- Entries that no attachment reaches stay so too.
pub staying_listed : (xs : List Attached) (d e : List Surface) → ((s : Surface) → elem s e ≡ true → reached s xs ≡ false)
    → staying_all (map plan_of xs) (d ++ e) ≡ staying_all (map plan_of xs) d ++ e
staying_listed [] d e off = refl
staying_listed (x ∷ xs) d e off =
    ap (staying_all (map plan_of xs)) (staying_listed_by (kind_of x) (range_in x) d e (λ s h. or_off_left (reaches x s) (reached s xs) (off s h)))
    ∙ staying_listed xs (staying_by (kind_of x) (range_in x) d) e (λ s h. or_off_right (reaches x s) (reached s xs) (off s h))

-- ── one attachment

-- The discards after a registration: those that stay.
registered_discards : (r : Range) (k : Option MemoryInitKind) (l : Lists) → (registered r k l).discards ≡ staying_by k r l.discards
unfolding register_init_action
registered_discards r none l = refl
registered_discards r (some NeedsInitializedMemory) l = refl
registered_discards r (some ImplicitlyInitialized) l = refl

-- Its actions come behind those that there are.
registered_actions : (r : Range) (k : Option MemoryInitKind) (l : Lists) → (registered r k l).actions ≡ l.actions ++ added_by k r l.discards
unfolding register_init_action
registered_actions r none l = sym (append-nil l.actions)
registered_actions r (some NeedsInitializedMemory) l = refl
registered_actions r (some ImplicitlyInitialized) l = refl

-- So do its clears.
registered_clears : (r : Range) (k : Option MemoryInitKind) (l : Lists) → (registered r k l).clears ≡ l.clears ++ returned_by k r l.discards
unfolding register_init_action
registered_clears r none l = sym (append-nil l.clears)
registered_clears r (some NeedsInitializedMemory) l = refl
registered_clears r (some ImplicitlyInitialized) l = sym (append-nil l.clears)

-- A discard comes behind those that there are.
discarded_discards : (r : Range) (b : Bool) (l : Lists) → (discarded r b l).discards ≡ l.discards ++ cond b (named r) []
discarded_discards r true l = refl
discarded_discards r false l = sym (append-nil l.discards)

-- It leaves the actions as they are.
discarded_actions : (r : Range) (b : Bool) (l : Lists) → (discarded r b l).actions ≡ l.actions
discarded_actions r true l = refl
discarded_actions r false l = refl

-- It leaves the clears as they are.
discarded_clears : (r : Range) (b : Bool) (l : Lists) → (discarded r b l).clears ≡ l.clears
discarded_clears r true l = refl
discarded_clears r false l = refl

-- The discards after an attachment: those that stay, and what it lists.
pub attach_discards : (x : Attached) (l : Lists) → (attach x l).discards ≡ staying_by (kind_of x) (range_in x) l.discards ++ listed_by (plan_of x)
attach_discards x l =
    discarded_discards (range_in x) (discards x) (registered (range_in x) (kind_of x) l) ∙ ap (λ d. d ++ listed_by (plan_of x)) (registered_discards (range_in x) (kind_of x) l)

-- The actions after it.
pub attach_actions : (x : Attached) (l : Lists) → (attach x l).actions ≡ l.actions ++ added_by (kind_of x) (range_in x) l.discards
attach_actions x l = discarded_actions (range_in x) (discards x) (registered (range_in x) (kind_of x) l) ∙ registered_actions (range_in x) (kind_of x) l

-- The clears after it.
pub attach_clears : (x : Attached) (l : Lists) → (attach x l).clears ≡ l.clears ++ returned_by (kind_of x) (range_in x) l.discards
attach_clears x l = discarded_clears (range_in x) (discards x) (registered (range_in x) (kind_of x) l) ∙ registered_clears (range_in x) (kind_of x) l

-- Every discard stays by a plan or leaves by it.
pub staying_left : (k : Option MemoryInitKind) (r : Range) (d : List Surface) → length (staying_by k r d) + length (leaving_by k r d) ≡ length d
staying_left none r d = omega arith
staying_left (some k) r d = omega (arith, matching_others r d)

-- How many discards there are after an attachment.
attach_after : (x : Attached) (l : Lists) → length (attach x l).discards ≡ held_after (plan_of x) (length l.discards) l.discards
attach_after x l =
    ap length (attach_discards x l) ∙ length-append (staying_by (kind_of x) (range_in x) l.discards) (listed_by (plan_of x))
    ∙ omega (arith, staying_left (kind_of x) (range_in x) l.discards)

-- ── the first of attachments that reach no surface twice

module _ (x : Attached) (xs : List Attached) (sep : Separate (x ∷ xs)) where
  -- What it lists no later one reaches.
  listed_off : (s : Surface) → elem s (listed_by (plan_of x)) ≡ true → reached s xs ≡ false
  listed_off s h = go (discards x) h
    where
      go : (b : Bool) → elem s (cond b (named (range_in x)) []) ≡ true → reached s xs ≡ false
      go true e = sep.0 s (sep.1 s e)
      go false e = clash {b = false} e refl

  -- To the later ones the discards are after it as they were before it.
  attach_alike : (l : Lists) → Alike (map plan_of xs) (attach x l).discards l.discards
  attach_alike l =
      let d : List Surface = staying_by (kind_of x) (range_in x) l.discards in
      rw (attach_discards x l)
      (alike_trans (map plan_of xs) (d ++ listed_by (plan_of x)) d l.discards (listed_alike xs d (listed_by (plan_of x)) listed_off)
      (staying_alike xs (kind_of x) (range_in x) l.discards sep.0))

-- ── all attachments

-- One after the other they leave what they leave together.
pub attach_together : (xs : List Attached) (l : Lists) → Separate xs → attach_all xs l ≡ together (map plan_of xs) l
attach_together [] l sep = λ i. record { discards = sym (append-nil l.discards) i; actions = sym (append-nil l.actions) i; clears = sym (append-nil l.clears) i }
attach_together (x ∷ xs) l sep = attach_together xs (attach x l) sep.2 ∙ (λ i. record { discards = all_discards i; actions = all_actions i; clears = all_clears i })
  where
    ps : List Plan
    ps = map plan_of xs

    d : List Surface
    d = staying_by (kind_of x) (range_in x) l.discards

    all_discards : staying_all ps (attach x l).discards ++ listed_all ps ≡ staying_all ps d ++ (listed_by (plan_of x) ++ listed_all ps)
    all_discards =
        ap (λ e. staying_all ps e ++ listed_all ps) (attach_discards x l)
        ∙ ap (λ e. e ++ listed_all ps) (staying_listed xs d (listed_by (plan_of x)) (listed_off x xs sep))
        ∙ append_assoc (staying_all ps d) (listed_by (plan_of x)) (listed_all ps)

    all_actions : (attach x l).actions ++ added_all ps (attach x l).discards ≡ l.actions ++ (added_by (kind_of x) (range_in x) l.discards ++ added_all ps l.discards)
    all_actions =
        ap₂ ◌++◌ (attach_actions x l) (alike_added ps (attach x l).discards l.discards (attach_alike x xs sep l))
        ∙ append_assoc l.actions (added_by (kind_of x) (range_in x) l.discards) (added_all ps l.discards)

    all_clears : (attach x l).clears ++ returned_all ps (attach x l).discards ≡ l.clears ++ (returned_by (kind_of x) (range_in x) l.discards ++ returned_all ps l.discards)
    all_clears =
        ap₂ ◌++◌ (attach_clears x l) (alike_returned ps (attach x l).discards l.discards (attach_alike x xs sep l))
        ∙ append_assoc l.clears (returned_by (kind_of x) (range_in x) l.discards) (returned_all ps l.discards)

-- 49, counted on the discards as they are found.
pub fits_counted : (xs : List Attached) (l : Lists) → Separate xs → discards_fit xs l ≡ steps_fit (map plan_of xs) (length l.discards) l.discards
fits_counted [] l sep = refl
fits_counted (x ∷ xs) l sep =
    ap (λ b. leb (length (attach x l).discards) max_discards && b)
    (fits_counted xs (attach x l) sep.2 ∙ alike_steps (map plan_of xs) (length (attach x l).discards) (attach x l).discards l.discards (attach_alike x xs sep l))
    ∙ ap (λ n. leb n max_discards && steps_fit (map plan_of xs) n l.discards) (attach_after x l)

-- 49 and 50, counted so.
pub room_counted : (xs : List Attached) (l : Lists) → Separate xs
    → room_verdict xs l
    ≡ (unless (steps_fit (map plan_of xs) (length l.discards) l.discards) 49 nowhere
    then unless (leb (length l.actions + length (added_all (map plan_of xs) l.discards)) max_actions) 50 nowhere)
unfolding room_verdict
room_counted xs l sep =
    ap₂ (λ a n. unless a 49 nowhere then unless (leb n max_actions) 50 nowhere) (fits_counted xs l sep)
    (ap (λ m. length m.actions) (attach_together xs l sep) ∙ length-append l.actions (added_all (map plan_of xs) l.discards))

-- Every discard stays by all of them or leaves, and leaves once.
pub staying_count : (xs : List Attached) (d : List Surface) → Separate xs
    → length (staying_all (map plan_of xs) d) + length (leaving_all (map plan_of xs) d) ≡ length d
staying_count [] d sep = omega arith
staying_count (x ∷ xs) d sep =
    omega (
      arith,
      length-append (leaving_by (kind_of x) (range_in x) d) (leaving_all (map plan_of xs) d),
      staying_left (kind_of x) (range_in x) d,
      staying_count xs (staying_by (kind_of x) (range_in x) d) sep.2,
      ap length (alike_leaving (map plan_of xs) (staying_by (kind_of x) (range_in x) d) d (staying_alike xs (kind_of x) (range_in x) d sep.0)),
    )

-- Where every step fits, the end fits.
pub discards_fit_lem : (xs : List Attached) (l : Lists) → discards_fit xs l ≡ true → length l.discards ≤ max_discards → length (attach_all xs l).discards ≤ max_discards
discards_fit_lem [] l h g = g
discards_fit_lem (x ∷ xs) l h g =
    discards_fit_lem xs (attach x l) (and_right (leb (length (attach x l).discards) max_discards) (discards_fit xs (attach x l)) h)
    (leb-true (length (attach x l).discards) max_discards (and_left (leb (length (attach x l).discards) max_discards) (discards_fit xs (attach x l)) h))

-- Where every step has room, so has the end.
pub steps_end : (xs : List Attached) (d : List Surface) → Separate xs → steps_fit (map plan_of xs) (length d) d ≡ true → length d ≤ max_discards
    → length (staying_all (map plan_of xs) d ++ listed_all (map plan_of xs)) ≤ max_discards
steps_end xs d sep h g =
    let l : Lists = record { discards = d; actions = []; clears = [] } in
    omega (arith, discards_fit_lem xs l (fits_counted xs l sep ∙ h) g, ap (λ m. length m.discards) (attach_together xs l sep))

-- ── where none leaves

-- Where two lists joined have no entry, the first has none.
none_first : {A : Type 0} (a b : List A) → length (a ++ b) ≡ 0 → length a ≡ 0
none_first a b h = omega (arith, length-append a b, h)

-- Nor has the second.
none_second : {A : Type 0} (a b : List A) → length (a ++ b) ≡ 0 → length b ≡ 0
none_second a b h = omega (arith, length-append a b, h)

-- Where none leaves by a plan, all stay.
none_leave_by : (k : Option MemoryInitKind) (r : Range) (d : List Surface) → length (leaving_by k r d) ≡ 0 → staying_by k r d ≡ d
none_leave_by none r d h = refl
none_leave_by (some k) r d h = retain_rest (hits r) d h

-- None is returned.
none_returned_by : (k : Option MemoryInitKind) (r : Range) (d : List Surface) → length (leaving_by k r d) ≡ 0 → returned_by k r d ≡ []
none_returned_by none r d h = refl
none_returned_by (some ImplicitlyInitialized) r d h = refl
none_returned_by (some NeedsInitializedMemory) r d h = no_entries_lem (matching r d) h

-- No implicit action is added: the plan's action is that of no discards.
none_implicit_by : (k : Option MemoryInitKind) (r : Range) (d : List Surface) → length (leaving_by k r d) ≡ 0 → added_by k r d ≡ added_by k r []
none_implicit_by none r d h = refl
none_implicit_by (some ImplicitlyInitialized) r d h = refl
none_implicit_by (some NeedsInitializedMemory) r d h = ap (λ l. action_of r NeedsInitializedMemory ∷ map implicit_at l) (no_entries_lem (matching r d) h)

-- Where none leaves by plans, all stay.
pub none_leave : (ps : List Plan) (d : List Surface) → length (leaving_all ps d) ≡ 0 → staying_all ps d ≡ d
none_leave [] d h = refl
none_leave (p ∷ ps) d h =
    ap (staying_all ps) (none_leave_by p.kind p.range d (none_first (leaving_by p.kind p.range d) (leaving_all ps d) h))
    ∙ none_leave ps d (none_second (leaving_by p.kind p.range d) (leaving_all ps d) h)

-- Where none leaves by plans, none is returned.
pub none_returned : (ps : List Plan) (d : List Surface) → length (leaving_all ps d) ≡ 0 → returned_all ps d ≡ []
none_returned [] d h = refl
none_returned (p ∷ ps) d h =
    ap₂ ◌++◌ (none_returned_by p.kind p.range d (none_first (leaving_by p.kind p.range d) (leaving_all ps d) h))
    (none_returned ps d (none_second (leaving_by p.kind p.range d) (leaving_all ps d) h))

-- Where none leaves by plans, the actions are those of no discards.
pub none_implicit : (ps : List Plan) (d : List Surface) → length (leaving_all ps d) ≡ 0 → added_all ps d ≡ added_all ps []
none_implicit [] d h = refl
none_implicit (p ∷ ps) d h =
    ap₂ ◌++◌ (none_implicit_by p.kind p.range d (none_first (leaving_by p.kind p.range d) (leaving_all ps d) h))
    (none_implicit ps d (none_second (leaving_by p.kind p.range d) (leaving_all ps d) h))

-- ── what is listed

-- A plan that discards lists what its range names.
pub listed_yes : (p : Plan) → p.discards ≡ true → listed_by p ≡ named p.range
listed_yes p h = ap (λ b. cond b (named p.range) []) h

-- Another lists none.
pub listed_no : (p : Plan) → p.discards ≡ false → listed_by p ≡ []
listed_no p h = ap (λ b. cond b (named p.range) []) h

-- Few layers of all plans are few of those that are left.
pub layered_drop : (ps : List Plan) → Layered ps → (i : ℕ) → Layered (drop i ps)
layered_drop ps h zero = h
layered_drop [] h (suc i) = tt
layered_drop (p ∷ ps) h (suc i) = layered_drop ps h.1 i

-- ── how many at most

-- What a plan returns leaves by it.
returned_most_by : (k : Option MemoryInitKind) (r : Range) (d : List Surface) → length (returned_by k r d) ≤ length (leaving_by k r d)
returned_most_by none r d = omega arith
returned_most_by (some ImplicitlyInitialized) r d = omega arith
returned_most_by (some NeedsInitializedMemory) r d = omega arith

-- What plans return leaves by them.
pub returned_most : (ps : List Plan) (d : List Surface) → length (returned_all ps d) ≤ length (leaving_all ps d)
returned_most [] d = omega arith
returned_most (p ∷ ps) d =
    omega (
      arith,
      length-append (returned_by p.kind p.range d) (returned_all ps d),
      length-append (leaving_by p.kind p.range d) (leaving_all ps d),
      returned_most_by p.kind p.range d,
      returned_most ps d,
    )

-- So a pass returns no more clears than there were discards before it.
pub clears_most : (xs : List Attached) (l : Lists) → Separate xs → length (attach_all xs l).clears ≤ length l.clears + length l.discards
clears_most xs l sep =
    omega (
      arith,
      ap (λ m. length m.clears) (attach_together xs l sep),
      length-append l.clears (returned_all (map plan_of xs) l.discards),
      returned_most (map plan_of xs) l.discards,
      staying_count xs l.discards sep,
    )
