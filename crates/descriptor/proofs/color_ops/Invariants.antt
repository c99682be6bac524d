-- The invariant: what is judged so far is the definition of the first k slots.
use mathlib.Core.Path.{◌≡◌}
use Rattle.definition.specs.Check.{color_ops}
use Rattle.session.specs.Rows.{pass_in, session_in}
use Rattle.descriptor.proofs.color_ops.Given as goal

abbrev pub invariant-loop-k : goal.invariant-loop-k
invariant-loop-k l = l.judged ≡ color_ops (session_in l.pass) (pass_in l.pass) l.k
