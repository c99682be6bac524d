-- The NaN has the canonical pattern.
use mathlib.Core.Path.{ap, sym, ◌∙◌}
use lib.Ieee
use lib.Ieee.{binary32}
use Rattle.encoding.proofs.Nan.{nan_of}
use Rattle.encoding.proofs.bits_of_f32.Goals as goal

pub returns-then-is_nan : goal.returns-then-is_nan
unfolding Ieee.to_bits
returns-then-is_nan c = ap (Ieee.to_bits binary32) (nan_of c.args.x (sym c.is_nan.ensures.value ∙ c.if-is_nan.true))
