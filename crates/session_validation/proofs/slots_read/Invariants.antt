-- The invariant: the first k slots are judged.
use mathlib.Core.Path.{◌≡◌}
use Rattle.definition.specs.Readable.{slots_read}
use Rattle.session.specs.Rows.{pass_in, session_in}
use Rattle.session_validation.proofs.slots_read.Given as goal

abbrev pub invariant-loop-k : goal.invariant-loop-k
invariant-loop-k l = l.all ≡ slots_read (session_in l.pass) (pass_in l.pass) l.k
