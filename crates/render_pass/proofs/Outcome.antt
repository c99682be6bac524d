-- The outcome of a check, by what refuses the pass: its row, operations and views, then the room of the lists, or nothing.
use Prim.Native.Nat.{ℕ, ◌+◌, ◌≤◌, ◌<◌}
use Rattle.std.specs.Prelude.{Ok, Err}
use Rattle.std.proofs.lemmas.Bool.{le-leb, lt-leb}
use native.Mathlib.Omega.{arith}
use mathlib.Core.Path.{◌≡◌, refl, sym, ap, subst, ◌∙◌}
use mathlib.Core.Bool.{Bool, true, false, cond}
use mathlib.Core.List.{List, [], ◌∷◌, ◌++◌, map}
use lib.Dec.{leb}
use lib.ListN.{length, length-append}
use borrow.Author.Tests.{leb-true}
use Rattle.definition.specs.Sizes.{max_slots, max_discards, max_actions, max_clears}
use Rattle.definition.specs.Session.{Pass, Session}
use Rattle.definition.specs.Verdict.{nowhere, is_accepted, ◌then◌, unless}
use Rattle.definition.specs.Readable.{textures_valid, views_valid, pass_valid}
use Rattle.definition.specs.Check.{check}
use Rattle.definition.specs.MemoryInit.{Lists}
use Rattle.definition.specs.Attachments.{Attached, range_in, depth_stencil_part, slot_parts, attach_all, attachments}
use Rattle.definition.specs.Pass.{room_verdict, new_pass, pass_verdict, accepted_pass, refused_pass, outcome, check_pass}
use Rattle.definition.specs.declared.refusals.Refusal.TheVariants.{TooManyDiscards, TooManyActions}
use Rattle.definition.specs.declared.Verdict.{Verdict}
use Rattle.definition.specs.declared.Progress.{Progress}
use Rattle.laws.specs.Separate.{Separate}
use Rattle.laws.specs.Plans.{Plan, plan_of, leaving_all, staying_all, added_all, listed_all, steps_fit, together, Layered}
use Rattle.laws.proofs.Readable.{few_layers}
use Rattle.laws.proofs.Tests.{clash, cond_on, cond_off}
use Rattle.laws.proofs.Verdicts.{then_left, then_right, then_stop, then_go, unless_on}
use Rattle.laws.proofs.Plans.{attach_together, room_counted, staying_count, steps_end, returned_most}
use Rattle.noninterference.proofs.Passes.{All}
use Rattle.noninterference.proofs.Accepted.{Ranged, pass_ranged}
use Rattle.session_validation.proofs.Valid.{valid_pass}
use Rattle.lists.specs.Lent.{Fits}
use Rattle.memory_init.specs.declared.Planned.{Planned}
use Rattle.memory_init.specs.declared.tally.Tally.{Tally}
use Rattle.memory_init.specs.Plans.{plans_in}
use Rattle.memory_init.specs.Tally.{TallyOf}
use Rattle.render_pass.specs.Outcome.{room_by, RoomOf}

-- ── the attachments

-- A pass that is not refused can be read.
pub few_colors : (S : Session) (p : Pass) → is_accepted (check S p).verdict ≡ true → p.colors ≤ max_slots
unfolding check
few_colors S p h = go (pass_valid S p) refl
  where
    go : (b : Bool) → pass_valid S p ≡ b → p.colors ≤ max_slots
    go true e = (valid_pass S p e).colors
    go false e = let no : is_accepted (check S p).verdict ≡ false = simp e in clash h no

-- The depth-stencil part and the slots are the pass's attachments.
pub all_attached : (S : Session) (p : Pass) (n : ℕ) → n ≡ p.colors → depth_stencil_part S p ++ slot_parts S p n ≡ attachments S p
unfolding attachments
all_attached S p n e = ap (λ (q : ℕ). depth_stencil_part S p ++ slot_parts S p q) e

-- So the plans that are lent are those of the pass's attachments.
pub lent_plans : (S : Session) (p : Pass) {n : ℕ} {all lent : List Planned} → n ≡ p.colors → lent ≡ all → plans_in all ≡ map plan_of (depth_stencil_part S p ++ slot_parts S p n)
    → plans_in lent ≡ map plan_of (attachments S p)
lent_plans S p {n = n} e same told = ap plans_in same ∙ told ∙ ap (map plan_of) (all_attached S p n e)

-- Each attachment's range lies inside its texture, which has few layers.
ranged_layers : (S : Session) → textures_valid S ≡ true → (xs : List Attached) → All (Ranged S) xs → Layered (map plan_of xs)
ranged_layers S h [] a = tt
ranged_layers S h (x ∷ xs) a = (omega (arith, a.0.range.layers, few_layers S h (range_in x).texture a.0.range.texture), ranged_layers S h xs a.1)

-- So that the layers of an accepted pass are few.
pub few_layered : (S : Session) (p : Pass) → textures_valid S ≡ true → views_valid S ≡ true → is_accepted (check S p).verdict ≡ true
    → (ps : List Plan) → ps ≡ map plan_of (attachments S p) → Layered ps
few_layered S p textures views h ps are = subst Layered (sym are) (ranged_layers S textures (attachments S p) (pass_ranged S views p h))

-- ── 49 and 50

-- What a pass finds, and how many actions there are.
module _ (t : Tally) (a : ℕ) where
  -- A step has no room.
  pub steps_full : t.fits ≡ false → RoomOf t a (Err TooManyDiscards)
  unfolding room_by ◌then◌ unless
  steps_full h = (simp h, simp h)

  -- Every step has room, and the actions have none.
  pub actions_full : t.fits ≡ true → max_actions < a + t.added → RoomOf t a (Err TooManyActions)
  unfolding room_by ◌then◌ unless
  actions_full h more = let full = lt-leb (a + t.added) max_actions more in (simp (h, full), simp (h, full))

  -- There is room.
  pub all_fits : t.fits ≡ true → a + t.added ≤ max_actions → RoomOf t a (Ok tt)
  unfolding room_by ◌then◌ unless
  all_fits h few = simp (h, le-leb (a + t.added) max_actions few)

-- Plans that meet no surface twice, and what they find among the discards of l.
module _ (xs : List Attached) (ps : List Plan) (t : Tally) (l : Lists) (are : ps ≡ map plan_of xs) (apart : Separate xs) (counted : TallyOf ps l.discards t) where
  -- What is told by the tally is the definition's verdict.
  pub room_told : (a : ℕ) → a ≡ length l.actions → room_by t a ≡ room_verdict xs l
  unfolding room_by
  room_told a e = (λ i. unless ((counted.fits ∙ ap (λ q. steps_fit q (length l.discards) l.discards) are) i) 49 nowhere
      then unless (leb (e i + (counted.added ∙ ap (λ q. length (added_all q l.discards)) are) i) max_actions) 50 nowhere) ∙ sym (room_counted xs l apart)

  -- Where there is room, the lists fit that the plans leave.
  module _ (a : ℕ) (e : a ≡ length l.actions) (accepted : is_accepted (room_by t a) ≡ true) (few : length l.discards ≤ max_discards) where
    steps : steps_fit (map plan_of xs) (length l.discards) l.discards ≡ true
    unfolding room_by
    steps = sym (counted.fits ∙ ap (λ q. steps_fit q (length l.discards) l.discards) are) ∙ unless_on t.fits 49 nowhere refl (then_left _ _ accepted)

    pub few_actions : a + t.added ≤ max_actions
    unfolding room_by
    few_actions = leb-true (a + t.added) max_actions (unless_on (leb (a + t.added) max_actions) 50 nowhere refl (then_right _ _ accepted))

    pub few_discards : length (staying_all ps l.discards ++ listed_all ps) ≤ max_discards
    few_discards = subst (λ q. length (staying_all q l.discards ++ listed_all q) ≤ max_discards) (sym are) (steps_end xs l.discards apart steps few)

    pub few_returned : t.returned ≤ max_clears
    few_returned = omega (arith, counted.returned, returned_most ps l.discards, ap (λ q. length (leaving_all q l.discards)) are, staying_count xs l.discards apart)

    pub together_fits : Fits (together ps (new_pass l))
    together_fits = record {
      discards = few_discards;
      actions = omega (arith, few_actions, counted.added, length-append l.actions (added_all ps l.discards));
      clears = omega (arith, few_returned, counted.returned);
    }

  -- What they leave is what the attachments leave.
  pub left_together : together ps (new_pass l) ≡ attach_all xs (new_pass l)
  left_together = ap (λ q. together q (new_pass l)) are ∙ sym (attach_together xs (new_pass l) apart)

-- ── the outcome

outcome_refused : (S : Session) (j : Progress) (xs : List Attached) (l : Lists) (v : Verdict) → pass_verdict j xs l ≡ v → is_accepted v ≡ false → outcome S j xs l ≡ refused_pass v l
unfolding outcome
outcome_refused S j xs l v e h =
    ap (λ q. cond (is_accepted q) (accepted_pass S j.seen xs l) (refused_pass q l)) e ∙ cond_off (is_accepted v) (accepted_pass S j.seen xs l) (refused_pass v l) h

outcome_accepted : (S : Session) (j : Progress) (xs : List Attached) (l : Lists) (v : Verdict) → pass_verdict j xs l ≡ v → is_accepted v ≡ true → outcome S j xs l ≡ accepted_pass S j.seen xs l
unfolding outcome
outcome_accepted S j xs l v e h =
    ap (λ q. cond (is_accepted q) (accepted_pass S j.seen xs l) (refused_pass q l)) e ∙ cond_on (is_accepted v) (accepted_pass S j.seen xs l) (refused_pass v l) h

module _ (S : Session) (p : Pass) (l : Lists) where
  -- 5, 10 to 48 and 51.
  pub refused_by_start : is_accepted (check S p).verdict ≡ false → check_pass S p l ≡ refused_pass (check S p).verdict l
  unfolding check_pass
  refused_by_start h = outcome_refused S (check S p) (attachments S p) l (check S p).verdict (then_stop _ _ h) h

  -- 49 and 50.
  pub refused_by_room : (v : Verdict) → is_accepted (check S p).verdict ≡ true → v ≡ room_verdict (attachments S p) (new_pass l) → is_accepted v ≡ false → check_pass S p l ≡ refused_pass v l
  unfolding check_pass
  refused_by_room v f e h = outcome_refused S (check S p) (attachments S p) l v (then_go _ _ f ∙ sym e) h

  -- Neither.
  pub accepted_pass_lem : (v : Verdict) → is_accepted (check S p).verdict ≡ true → v ≡ room_verdict (attachments S p) (new_pass l) → is_accepted v ≡ true
      → check_pass S p l ≡ accepted_pass S (check S p).seen (attachments S p) l
  unfolding check_pass
  accepted_pass_lem v f e h = outcome_accepted S (check S p) (attachments S p) l v (then_go _ _ f ∙ sym e) h
