-- The invariant: each of the first k rows can be read, and the sum is the number of their surfaces.
use Rattle.definition.specs.Session.{session}
use Rattle.session_validation.proofs.Textures.{Read}
use Rattle.session_validation.proofs.textures_valid.Given as goal

abbrev pub invariant-loop-k : goal.invariant-loop-k
invariant-loop-k l = Read (session l.s) l.k l.sum
