-- The test so far and the test of the bytes that are left.
use Rattle.buffer_validation.proofs.Turns.{bytes_further}
use native.Mathlib.Omega.{arith}
use Rattle.buffer_validation.proofs.bytes_valid.Goals as goal

pub loop-i-preserved : goal.loop-i-preserved
loop-i-preserved c = bytes_further c.args.status.now c.args.n c.loop-i.i c.loop-i.ok (omega arith) c.requires c.loop-i.invariant
