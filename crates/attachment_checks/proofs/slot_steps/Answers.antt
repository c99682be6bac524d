-- The invariant: after slot k, the definition's steps of the first k slots.
use mathlib.Core.Path.{sym}
use Rattle.laws.proofs.Folds.{steps_none, steps_turn}
use Rattle.attachment_checks.proofs.slot_steps.Goals as goal

pub loop-k-init : goal.loop-k-init
loop-k-init c = sym (steps_none _ _ _ _)

pub loop-k-preserved : goal.loop-k-preserved
loop-k-preserved c = simp (c.next_slot-b.ensures, c.loop-k.invariant, steps_turn)
