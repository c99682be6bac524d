-- The invariant: the first k view rows decide the answer, since each of the others can be read. One that cannot be read decides it.
use mathlib.Core.Path.{◌≡◌}
use Rattle.definition.specs.Session.{session}
use Rattle.definition.specs.Readable.{first_views_valid}
use Rattle.session_validation.proofs.first_views_valid.Given as goal

abbrev pub invariant-loop-k : goal.invariant-loop-k
invariant-loop-k l = first_views_valid (session l.s) l.n ≡ first_views_valid (session l.s) l.k
