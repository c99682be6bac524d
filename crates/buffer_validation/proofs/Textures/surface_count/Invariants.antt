-- The invariant: the sum is the number of surfaces of the textures before k.
use mathlib.Core.Path.{◌≡◌}
use Rattle.definition.specs.Session.{session, surfaces_before}
use Rattle.buffer_validation.proofs.Textures.surface_count.Given as goal

abbrev pub invariant-loop-k : goal.invariant-loop-k
invariant-loop-k l = l.sum ≡ surfaces_before (session l.self.bytes.now) l.k
