-- The invariant: after slot k, the definition's steps of the first k slots.
use mathlib.Core.Path.{◌≡◌}
use Rattle.session.specs.Rows.{pass_in, session_in}
use Rattle.definition.specs.Check.{slot_steps}
use Rattle.attachment_checks.proofs.slot_steps.Given as goal

abbrev pub invariant-loop-k : goal.invariant-loop-k
invariant-loop-k l = l.b ≡ slot_steps (session_in l.pass) (pass_in l.pass) l.fit l.initial.b l.k
