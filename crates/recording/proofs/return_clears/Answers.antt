-- The invariant: what the plans that are left return, behind what the list has so far, is what all return.
use Rattle.std.proofs.Common.{arith}
use Rattle.lists.specs.Lists.{first_surfaces}
use Rattle.memory_init.proofs.Entries.{appending_count, returned, plan_room, plan_turn, plan_done, replace_becomes}
use Rattle.recording.proofs.return_clears.Goals as goal

pub return_by-end-requires-clause-clears_inside : goal.return_by-end-requires-clause-clears_inside
return_by-end-requires-clause-clears_inside c =
    let d = first_surfaces c.args.n c.args.discards.now in
    plan_room (returned d) c.args.plans.now c.loop-p.p-index c.loop-p.invariant _ _ (omega arith) (omega (arith, c.requires.room.bytes))

pub loop-p-preserved : goal.loop-p-preserved
loop-p-preserved c =
    let d = first_surfaces c.args.n c.args.discards.now in
    plan_turn (returned d) c.args.plans.now c.loop-p.p-index c.loop-p.invariant _ (omega arith) c.return_by-end.ensures

pub set_count-requires : goal.set_count-requires
set_count-requires c = (omega arith, omega (arith, appending_count c.loop-p.invariant))

pub returns : goal.returns
returns c =
    let d = first_surfaces c.args.n c.args.discards.now in
    replace_becomes c.args.clears.now (plan_done (returned d) c.args.plans.now c.loop-p.p-index c.loop-p.invariant (omega arith)) c.set_count.ensures
