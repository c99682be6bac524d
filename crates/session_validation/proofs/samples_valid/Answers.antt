-- A number of samples has its bit, and no other has.
use mathlib.Core.Path.{◌∙◌}
use Rattle.session_validation.proofs.Fields.{samples_told}
use Rattle.session_validation.proofs.samples_valid.Goals as goal

pub returns : goal.returns
returns c = c.has_bit.ensures ∙ samples_told _
