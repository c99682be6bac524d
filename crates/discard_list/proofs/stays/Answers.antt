-- By the plans that are left a discard stays as by all of them.
use Rattle.std.proofs.Common.{arith}
use Rattle.discard_list.proofs.Discards.{stays_further, stays_not}
use Rattle.discard_list.proofs.stays.Goals as goal

pub returns-then-not-stays_by : goal.returns-then-not-stays_by
returns-then-not-stays_by c = stays_not c.args.plans.now _ _ _ (omega arith) c.loop-p.invariant _ c.stays_by.ensures c.if-not-stays_by.true

pub loop-p-preserved : goal.loop-p-preserved
loop-p-preserved c = stays_further c.args.plans.now _ _ _ (omega arith) c.loop-p.invariant _ c.stays_by.ensures c.if-not-stays_by.false
