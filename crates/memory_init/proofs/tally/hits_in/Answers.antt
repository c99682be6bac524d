-- The count so far is that of the records so far.
use Rattle.std.proofs.Common.{arith}
use Rattle.definition.specs.Sizes.{surface_bytes}
use Rattle.lists.specs.Lists.{surface_of}
use Rattle.memory_init.proofs.Counting.{count_none, count_yes, count_no}
use Rattle.memory_init.proofs.tally.hits_in.Goals as goal
use Rattle.memory_init.proofs.tally.hits_in.Goals.{then-hits, else-hits}

pub loop-i-init : goal.loop-i-init
loop-i-init c = (count_none _ _ _ _, omega arith)

pub loop-i-preserved : goal.loop-i-preserved
loop-i-preserved c =
    let read = c.surface_at.ensures in
    elim c.if-hits.branch [
      | then-hits w ↦ (count_yes surface_bytes surface_of _ _ _ _ _ read c.loop-i.invariant.0 _ _ c.hits.ensures w.if-hits.true w.y-is, omega arith)
      | else-hits w ↦ (count_no surface_bytes surface_of _ _ _ _ _ read c.loop-i.invariant.0 _ _ c.hits.ensures w.if-hits.false w.y-is, omega arith)
    ]
