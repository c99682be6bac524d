-- Each discard that the range hits is appended to the clears as it is.
use Rattle.std.proofs.Common.{arith, ap, drop}
use Rattle.definition.specs.Sizes.{count_bytes}
use Rattle.laws.proofs.Extend.{extend_start, extend_room, extend_adds, extend_skips}
use Rattle.memory_init.proofs.Entries.{written_as}
use Rattle.recording.proofs.return_matching.Goals as goal
use Rattle.recording.proofs.return_matching.Goals.{then-hits, else-hits}

pub loop-i-init : goal.loop-i-init
loop-i-init c = extend_start

-- A discard that the range hits has its place.
pub put_surface-requires : goal.put_surface-requires
put_surface-requires c = omega (arith, extend_room c.loop-i.invariant c.loop-i-test.true c.surface_at-s.ensures c.hits.ensures c.if-hits.true)

pub overflow_add-end : goal.overflow_add-end
overflow_add-end c = omega (arith, extend_room c.loop-i.invariant c.loop-i-test.true c.surface_at-s.ensures c.hits.ensures c.if-hits.true)

pub loop-i-preserved : goal.loop-i-preserved
loop-i-preserved c =
    let so_far = c.loop-i.invariant in
    let more = c.loop-i-test.true in
    let read = c.surface_at-s.ensures in
    let asked = c.hits.ensures in
    elim c.if-hits.branch [
      | then-hits w ↦ extend_adds so_far more read asked w.if-hits.true (λ fits. written_as w.clears-is w.put_surface.ensures) w.end-is
      | else-hits w ↦ extend_skips so_far more read asked w.if-hits.false (ap (drop count_bytes) w.clears-is) w.end-is
    ]
