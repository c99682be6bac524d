-- The invariant: before turn j, whether the range meets what the slots before j take.
use mathlib.Core.Path.{sym}
use Rattle.definition.specs.Surfaces.{layers_of}
use Rattle.laws.proofs.Overlap.{meets_nil, meets_append}
use Rattle.laws.proofs.Folds.{taken_none, taken_turn}
use Rattle.view_checks.proofs.overlap.slots_meet.Goals as goal

pub loop-j-init : goal.loop-j-init
loop-j-init c = simp taken_none (sym (meets_nil (layers_of c.args.a)))

pub loop-j-preserved : goal.loop-j-preserved
loop-j-preserved c =
    simp (c.slot_meets-met.ensures, c.slot_without_clear.ensures, c.loop-j.invariant, taken_turn) (sym (meets_append (layers_of c.args.a) _ _))
