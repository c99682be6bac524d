-- A shift that leaves nothing from mip 32 on is the definition's quotient.
use native.Mathlib.Omega.{arith}
use Rattle.encoding.proofs.Bits.{shifted_all}
use Rattle.definition.specs.Formats.{mip_size}
use Rattle.formats.proofs.mip_size.Goals as goal

pub returns : goal.returns
unfolding mip_size
returns c = let a = c.args in omega (arith, c.max.ensures, c.unbounded_shr.ensures, shifted_all a.size a.mip c.ranges.size.fits)
