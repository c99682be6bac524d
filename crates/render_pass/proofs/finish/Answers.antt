-- By what refuses the pass: the room of the lists, or nothing.
use mathlib.Core.Path.{◌≡◌, ap, ◌∙◌}
use mathlib.Core.List.{map}
use native.Mathlib.Omega.{arith}
use Rattle.definition.specs.Verdict.{is_accepted}
use Rattle.definition.specs.Attachments.{attachments}
use Rattle.definition.specs.Pass.{attachment_reply}
use Rattle.laws.specs.Plans.{plan_of}
use Rattle.session.specs.Rows.{pass_in, session_in}
use Rattle.lists.specs.Lists.{count_in}
use Rattle.lists.specs.Lent.{ListBytes, bytes}
use Rattle.memory_init.specs.Plans.{plans_in}
use Rattle.attachments.specs.Resolved.{listed}
use Rattle.render_pass.specs.Outcome.{room_by}
use Rattle.render_pass.proofs.Outcome.{few_colors, all_attached, lent_plans}
use Rattle.render_pass.proofs.Checked.{held, actions_in_lem, no_room, recordable, returned_few, recorded}
use Rattle.render_pass.proofs.finish.Goals as goal
use Rattle.render_pass.proofs.finish.Goals.{After-room_verdict}

-- The lists as they are lent.
abbrev lent : After-room_verdict → ListBytes
lent c = bytes c.args.discards.now c.args.actions.now c.args.clears.now

-- The plans that are tallied are those of the pass's attachments.
planned : (c : After-room_verdict) → plans_in c.as_slice-plans.result.now ≡ map plan_of (attachments (session_in c.args.pass.now) (pass_in c.args.pass.now))
planned c = lent_plans _ _ c.colors-n.ensures c.as_slice-plans.ensures.all c.plans_of-resolved.ensures.plans

-- The room is told by the actions that are lent.
told : (c : After-room_verdict) → room_by c.tally_pass-t.result c.count.result ≡ room_by c.tally_pass-t.result (count_in c.args.actions.now)
told c = ap (room_by c.tally_pass-t.result) c.count.ensures

pub plans_of-resolved-requires-clause-few_slots : goal.plans_of-resolved-requires-clause-few_slots
plans_of-resolved-requires-clause-few_slots c = omega (arith, c.colors-n.ensures, few_colors _ _ c.requires.judged.0)

pub tally_pass-t-requires-clause-discards_in_room : goal.tally_pass-t-requires-clause-discards_in_room
tally_pass-t-requires-clause-discards_in_room c =
    let a = c.args in
    held _ (pass_in a.pass.now) (bytes a.discards.now a.actions.now a.clears.now) c.requires.checkable

pub room_verdict-requires-clause-few_actions : goal.room_verdict-requires-clause-few_actions
room_verdict-requires-clause-few_actions c =
    let a = c.args in
    omega (arith, c.requires.checkable.fits.actions, c.count.ensures, actions_in_lem _ (pass_in a.pass.now) (bytes a.discards.now a.actions.now a.clears.now) c.requires.checkable)

pub returns-in-Err : goal.returns-in-Err
returns-in-Err c =
    let at = (goal.at.returns-in-Err c).After-room_verdict in
    let refused = c.refused_at.ensures ∙ c.in-Err.ensures.0 in
    no_room _ _ (lent at) c.requires.checkable c.requires.judged.0 _ _ _ (planned at) c.tally_pass-t.ensures (refused ∙ told at) _ (ap is_accepted refused ∙ c.in-Err.ensures.1) c.refusal.ensures

pub record_pass-requires : goal.record_pass-requires
record_pass-requires c =
    let at = (goal.at.record_pass-requires c).After-room_verdict in
    recordable _ _ (lent at) c.requires.checkable c.requires.judged.0 _ _ _ (planned at) c.tally_pass-t.ensures (told at) c.in_default.ensures

pub replies_of-replies-requires-clause-few_slots : goal.replies_of-replies-requires-clause-few_slots
replies_of-replies-requires-clause-few_slots c = omega (arith, c.colors-n.ensures, few_colors _ _ c.requires.judged.0)

-- The clears are few, so that their number fits a u32.
pub overflow_cast-result : goal.overflow_cast-result
overflow_cast-result c =
    let at = (goal.at.overflow_cast-result c).After-room_verdict in
    omega (arith, returned_few _ _ (lent at) c.requires.checkable c.requires.judged.0 _ _ _ (planned at) c.tally_pass-t.ensures (told at) c.in_default.ensures)

pub returns : goal.returns
returns c =
    let at = (goal.at.returns c).After-room_verdict in
    let S = session_in c.args.pass.now in
    let replied = c.replies_of-replies.ensures ∙ ap (λ xs. listed (map (attachment_reply S) xs)) (all_attached S _ _ c.colors-n.ensures) in
    recorded _ _ (lent at) c.requires.checkable c.requires.judged.0 _ _ _ (planned at) c.tally_pass-t.ensures (told at) c.in_default.ensures
    _ _ _ _ _ c.requires.judged.1 c.depth_stencil_part-d.ensures c.record_pass.ensures replied
    (simp (c.flag-2.ensures, c.flag.ensures, c.is_depth_read_only.ensures, c.is_stencil_read_only.ensures, c.divergent.ensures))
