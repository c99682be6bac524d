-- The invariant: what the plans that are left add, behind what the list has so far, is what all add behind what it had.
use Rattle.std.proofs.Common.{arith}
use Rattle.lists.specs.Lists.{first_surfaces}
use Rattle.memory_init.proofs.Entries.{appending_count, added, plan_room, plan_turn}
use Rattle.recording.proofs.record_actions.Goals as goal

pub push_actions-end-requires-clause-actions_inside : goal.push_actions-end-requires-clause-actions_inside
push_actions-end-requires-clause-actions_inside c =
    let d = first_surfaces c.args.n c.args.discards.now in
    plan_room (added d) c.args.plans.now c.loop-p.p-index c.loop-p.invariant _ _ (omega arith) (omega (arith, c.requires.room.bytes))

pub loop-p-preserved : goal.loop-p-preserved
loop-p-preserved c =
    let d = first_surfaces c.args.n c.args.discards.now in
    plan_turn (added d) c.args.plans.now c.loop-p.p-index c.loop-p.invariant _ (omega arith) c.push_actions-end.ensures

pub set_count-requires : goal.set_count-requires
set_count-requires c = (omega arith, omega (arith, appending_count c.loop-p.invariant))
