-- A magnitude above the infinity's is the NaN's; any other pattern is its float's own.
use lib.Ieee
use lib.Ieee.{binary64}
use Rattle.encoding.proofs.Nan.{above, within}
use Rattle.encoding.proofs.f64_of_bits.Goals as goal

pub returns-then-magnitude-gt9218868437227405312 : goal.returns-then-magnitude-gt9218868437227405312
unfolding Ieee.of_bits
returns-then-magnitude-gt9218868437227405312 c = above binary64 c.args.n c.if-magnitude-gt9218868437227405312.true

pub float_from_bits-result : goal.float_from_bits-result
float_from_bits-result c = within binary64 c.args.n c.if-magnitude-gt9218868437227405312.false
