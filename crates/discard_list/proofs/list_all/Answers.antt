-- The invariant: what the plans that are left list, behind what stands there so far, is what all list behind the first n.
use Rattle.std.proofs.Common.{arith, subst}
use Rattle.laws.specs.Plans.{Layered}
use Rattle.laws.proofs.Plans.{layered_drop}
use Rattle.memory_init.specs.Plans.{plans_in}
use Rattle.memory_init.proofs.Turns.{plans_turn}
use Rattle.memory_init.proofs.Entries.{plan_room, plan_turn}
use Rattle.discard_list.proofs.Discards.{listed}
use Rattle.discard_list.proofs.list_all.Goals as goal

pub list_by-end-requires : goal.list_by-end-requires
list_by-end-requires c =
    let ps = c.args.plans.now in
    record {
      layers_bound = (subst Layered (plans_turn ps _ c.loop-p.p-index (omega arith)) (layered_drop (plans_in ps) c.requires.layered c.loop-p.p-index)).0;
      listed_inside = plan_room listed ps c.loop-p.p-index c.loop-p.invariant _ _ (omega arith) (omega (arith, c.requires.listed_inside));
    }

pub loop-p-preserved : goal.loop-p-preserved
loop-p-preserved c = plan_turn listed c.args.plans.now c.loop-p.p-index c.loop-p.invariant _ (omega arith) c.list_by-end.ensures
