-- The test so far and the test of the bytes that are left.
use mathlib.Core.Path.{◌≡◌}
use Prim.Native.Nat.{◌-◌}
use mathlib.Core.Bool.{◌&&◌}
use lib.ListN.{drop}
use Rattle.definition.specs.Calls.{bytes_valid}
use Rattle.buffer_validation.proofs.bytes_valid.Given as goal

abbrev pub invariant-loop-i : goal.invariant-loop-i
invariant-loop-i l = bytes_valid l.n l.status ≡ (l.ok && bytes_valid (l.n - l.i) (drop l.i l.status))
