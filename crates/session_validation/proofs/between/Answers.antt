-- The code's test is the definition's own.
use mathlib.Core.Path.{refl}
use Rattle.definition.specs.Readable.{between}
use Rattle.session_validation.proofs.between.Goals as goal

pub returns : goal.returns
unfolding between
returns c = refl
