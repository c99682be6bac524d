-- Each discard that the range hits gives the implicit action of its surface.
use Rattle.std.proofs.Common.{arith, ap, subst, drop}
use Rattle.definition.specs.Sizes.{action_bytes, count_bytes}
use Rattle.definition.specs.declared.MemoryInitKind.TheVariants.{ImplicitlyInitialized}
use Rattle.laws.specs.Plans.{action_of}
use Rattle.laws.specs.Records.{Written}
use Rattle.laws.proofs.Extend.{extend_start, extend_room, extend_adds, extend_skips}
use Rattle.lists.specs.Lists.{action_of_bytes}
use Rattle.memory_init.proofs.Entries.{written_as}
use Rattle.recording.proofs.push_implicit_actions.Goals as goal
use Rattle.recording.proofs.push_implicit_actions.Goals.{then-hits, else-hits}

pub loop-i-init : goal.loop-i-init
loop-i-init c = extend_start

-- A discard that the range hits has its place.
pub put_action-requires : goal.put_action-requires
put_action-requires c = omega (arith, extend_room c.loop-i.invariant c.loop-i-test.true c.surface_at-s.ensures c.hits.ensures c.if-hits.true)

pub overflow_add-end : goal.overflow_add-end
overflow_add-end c = omega (arith, extend_room c.loop-i.invariant c.loop-i-test.true c.surface_at-s.ensures c.hits.ensures c.if-hits.true)

pub loop-i-preserved : goal.loop-i-preserved
loop-i-preserved c =
    let so_far = c.loop-i.invariant in
    let more = c.loop-i-test.true in
    let read = c.surface_at-s.ensures in
    let asked = c.hits.ensures in
    elim c.if-hits.branch [
      | then-hits w ↦ extend_adds so_far more read asked w.if-hits.true
          (λ fits. written_as w.actions-is (subst (λ r. Written action_bytes action_of_bytes c.loop-i.end (action_of r ImplicitlyInitialized) (drop count_bytes c.loop-i.actions) (drop count_bytes w.put_action.new.b)) w.only_range.ensures w.put_action.ensures)) w.end-is
      | else-hits w ↦ extend_skips so_far more read asked w.if-hits.false (ap (drop count_bytes) w.actions-is) w.end-is
    ]
