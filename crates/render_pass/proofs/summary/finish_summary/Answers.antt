-- By what refuses the pass: the room of the lists, or nothing.
use mathlib.Core.Path.{◌≡◌, refl, ap, ◌∙◌}
use mathlib.Core.List.{map}
use native.Mathlib.Omega.{arith}
use borrow.Author.Rules.{rules}
use Rattle.definition.specs.Verdict.{is_accepted}
use Rattle.definition.specs.Attachments.{attachments}
use Rattle.laws.specs.Plans.{plan_of}
use Rattle.session.specs.Rows.{pass_in, session_in}
use Rattle.memory_init.specs.Plans.{plans_in}
use Rattle.render_pass.proofs.Outcome.{few_colors, lent_plans}
use Rattle.render_pass.proofs.Summarized.{no_room, lendable, recorded}
use Rattle.render_pass.proofs.summary.finish_summary.Goals as goal
use Rattle.render_pass.proofs.summary.finish_summary.Goals.{After-room_verdict}

-- The plans that are tallied are those of the pass's attachments.
planned : (c : After-room_verdict) → plans_in c.as_slice-plans.result.now ≡ map plan_of (attachments (session_in c.args.pass.now) (pass_in c.args.pass.now))
planned c = lent_plans _ _ c.colors.ensures c.as_slice-plans.ensures.all c.plans_of-resolved.ensures.plans

pub plans_of-resolved-requires-clause-few_slots : goal.plans_of-resolved-requires-clause-few_slots
plans_of-resolved-requires-clause-few_slots c = omega (arith, c.colors.ensures, few_colors _ _ c.requires.judged.0)

pub returns-in-Err : goal.returns-in-Err
returns-in-Err c =
    let told = c.refused_at.ensures ∙ c.in-Err.ensures.0 in
    no_room _ _ _ _ c.requires.summarizable c.requires.judged.0 _ _ _ (planned (goal.at.returns-in-Err c).After-room_verdict) c.tally_pass-t.ensures told _
    (ap is_accepted told ∙ c.in-Err.ensures.1) c.refused_summary.ensures

pub record_discards-requires : goal.record_discards-requires
record_discards-requires c =
    lendable _ _ _ _ c.requires.summarizable c.requires.judged.0 _ _ _ (planned (goal.at.record_discards-requires c).After-room_verdict) c.tally_pass-t.ensures refl c.in_default.ensures

pub returns : goal.returns
returns c =
    recorded _ _ _ _ c.requires.summarizable c.requires.judged.0 _ _ _ (planned (goal.at.returns c).After-room_verdict) c.tally_pass-t.ensures refl c.in_default.ensures
    _ _ _ c.requires.judged.1 (search rules) c.record_discards.ensures (simp c.accepted.ensures)
