-- The invariant: after slot k, the definition's sum of the first k slots, which has at most 19 bytes a slot.
use mathlib.Core.Path.{◌≡◌}
use Prim.Native.Nat.{◌*◌, ◌≤◌}
use Rattle.session.specs.Rows.{pass_in, session_in}
use Rattle.definition.specs.Check.{sample_bytes}
use Rattle.attachment_checks.proofs.sample_bytes.Given as goal

abbrev pub invariant-loop-k : goal.invariant-loop-k
invariant-loop-k l = (l.bytes ≡ sample_bytes (session_in l.pass) (pass_in l.pass) l.k) × (l.bytes ≤ 19 * l.k)
