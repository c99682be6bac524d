-- Compaction in place, with the test that the discard stays by all plans.
use Rattle.std.proofs.Common.{arith, ap, drop}
use Rattle.definition.specs.Sizes.{count_bytes}
use Rattle.laws.proofs.Compact.{compact_start, compact_passes}
use Rattle.laws.proofs.Kept.{compact_keeps}
use Rattle.memory_init.specs.Plans.{plans_in}
use Rattle.memory_init.proofs.Entries.{written_as}
use Rattle.discard_list.proofs.Discards.{compact_stays}
use Rattle.discard_list.proofs.retain_all.Goals as goal
use Rattle.discard_list.proofs.retain_all.Goals.{then-stays, else-stays}

pub loop-i-init : goal.loop-i-init
loop-i-init c = compact_start

pub loop-i-preserved : goal.loop-i-preserved
loop-i-preserved c =
    let so_far = c.loop-i.invariant in
    let more = c.loop-i-test.true in
    let read = c.surface_at-s.ensures in
    let asked = c.stays.ensures in
    elim c.if-stays.branch [
      | then-stays w ↦ compact_keeps so_far more read asked w.if-stays.true (written_as w.discards-is w.put_surface.ensures) w.kept-is
      | else-stays w ↦ compact_passes so_far more read asked w.if-stays.false (ap (drop count_bytes) w.discards-is) w.kept-is
    ]

pub returns : goal.returns
returns c = compact_stays (plans_in c.args.plans.now) c.loop-i.invariant (omega arith)
