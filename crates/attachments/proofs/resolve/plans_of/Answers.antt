-- The invariant: the plans are those before the loop, then those of the attachments of the first k slots.
use mathlib.Core.Path.{◌≡◌, refl, sym, ap, subst, ◌∙◌}
use mathlib.Core.Bool.{not, ◌&&◌}
use native.Mathlib.Omega.{arith}
use Prim.Native.Nat.{◌+◌, ◌<◌}
use mathlib.Core.List.{append-nil}
use Rattle.definition.specs.Sizes.{max_attachments}
use Rattle.definition.specs.Session.{is_none, slice_range}
use Rattle.definition.specs.Attachments.{depth_stencil_part, slot_parts, color_of, resolve_to}
use Rattle.laws.specs.Plans.{plan_of}
use Rattle.session.specs.Rows.{pass_in, session_in}
use Rattle.memory_init.specs.Plans.{plan_in}
use Rattle.attachments.specs.Attached.{PartOf}
use Rattle.attachments.proofs.Effects.{without_plan}
use Rattle.attachments.proofs.Resolving.{PutColor, PutTarget, put, kept, put_count, first_present, first_absent, slot_turn}
use Rattle.attachments.proofs.resolve.plans_of.Goals as goal
use Rattle.attachments.proofs.resolve.plans_of.Goals.{in-Some, in_default, then-occupied, else-occupied, then-resolves, else-resolves}

-- The colour of a slot that is not empty.
colored : (c : goal.Joined-resolves)
    → PutColor plan_in plan_of (session_in c.args.pass.now) ((pass_in c.args.pass.now).slot c.loop-k.k) c.loop-k.planned c.loop-k.count c.if-occupied.planned c.if-occupied.count
colored c =
    let row = c.slot_without_clear-c.ensures in
    let S = session_in c.args.pass.now in
    let slot = (pass_in c.args.pass.now).slot c.loop-k.k in
    let told = sym (ap (λ q. not (is_none q.view)) row) ∙ sym c.occupied.ensures in
    elim c.if-occupied.branch [
      | then-occupied w ↦ put _ (told ∙ w.if-occupied.true) (w.color_planned.ensures ∙ ap (λ q. plan_of (color_of S q)) row ∙ without_plan S slot) w.planned-is w.count-is
      | else-occupied w ↦ kept (told ∙ w.if-occupied.false) w.planned-is w.count-is
    ]

-- Its resolve target, where it has one.
resolved : (c : goal.Joined-resolves)
    → PutTarget plan_in plan_of (session_in c.args.pass.now) ((pass_in c.args.pass.now).slot c.loop-k.k) c.if-occupied.planned c.if-occupied.count c.if-resolves.planned c.if-resolves.count
resolved c =
    let row = c.slot_without_clear-c.ensures in
    let S = session_in c.args.pass.now in
    let told = sym (ap (λ q. not (is_none q.view) && not (is_none q.resolve)) row) ∙ sym c.resolves.ensures in
    elim c.if-resolves.branch [
      | then-resolves w ↦ put _ (told ∙ w.if-resolves.true) (w.resolve_planned.ensures ∙ ap (λ q. plan_of (resolve_to q.resolve (slice_range (S.view q.resolve) 0))) row) w.planned-is w.count-is
      | else-resolves w ↦ kept (told ∙ w.if-resolves.false) w.planned-is w.count-is
    ]

-- There is a place for each.
place : (c : goal.Joined-resolves) → c.loop-k.count + 1 < max_attachments
place c = omega (arith, c.loop-k.invariant.1, c.loop-k.invariant.2, c.requires.few_slots)

pub loop-k-init : goal.loop-k-init
unfolding slot_parts
loop-k-init c = (
  λ start xs f. simp append-nil f,
  elim c.match-d.branch [ in-Some w ↦ omega (arith, w.count-is) | in_default w ↦ omega (arith, w.count-is) ],
  omega arith,
)

pub loop-k-preserved : goal.loop-k-preserved
loop-k-preserved c = (
  λ start xs f. slot_turn plan_in plan_of _ _ c.loop-k.k xs (place c) (colored c) (resolved c) (c.loop-k.invariant.0 start xs f),
  c.loop-k.invariant.1,
  omega (arith, put_count plan_in plan_of (colored c), put_count plan_in plan_of (resolved c), c.loop-k.invariant.2),
)

pub returns : goal.returns
returns c =
    let S = session_in c.args.pass.now in
    let p = pass_in c.args.pass.now in
    let e : c.loop-k.k ≡ c.args.n = omega arith in
    let f = c.loop-k.invariant.0 _ _ (elim c.match-d.branch [
      | in-Some w ↦ first_present plan_in plan_of S {d = w.in-Some.d} w.in-Some.d.planned (λ x a. a.planned) (depth_stencil_part S p) (subst (λ d. PartOf S d (depth_stencil_part S p)) w.in-Some.is c.requires.part_of) w.planned-is w.count-is refl
      | in_default w ↦ first_absent plan_in plan_of S (depth_stencil_part S p) (subst (λ d. PartOf S d (depth_stencil_part S p)) w.in_default.is c.requires.part_of) w.planned-is w.count-is refl
    ]) in
    record { plans = simp e at f.entries; whole = f.long }
