-- A magnitude above the infinity's is the NaN's; any other pattern is its float's own.
use lib.Ieee
use lib.Ieee.{binary32}
use Rattle.encoding.proofs.Nan.{above, within}
use Rattle.encoding.proofs.f32_of_bits.Goals as goal

pub returns-then-magnitude-gt2139095040 : goal.returns-then-magnitude-gt2139095040
unfolding Ieee.of_bits
returns-then-magnitude-gt2139095040 c = above binary32 c.args.n c.if-magnitude-gt2139095040.true

pub float_from_bits-result : goal.float_from_bits-result
float_from_bits-result c = within binary32 c.args.n c.if-magnitude-gt2139095040.false
