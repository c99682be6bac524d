-- The invariant: before turn j, whether the range meets what the slots before j take.
use mathlib.Core.Path.{◌≡◌}
use Rattle.definition.specs.Surfaces.{layers_of, meets}
use Rattle.view_checks.specs.Taken.{taken_in}
use Rattle.view_checks.proofs.overlap.slots_meet.Given as goal

abbrev pub invariant-loop-j : goal.invariant-loop-j
invariant-loop-j l = l.met ≡ meets (layers_of l.a) (taken_in l.pass l.j)
