-- The code's test of six bits is the definition's test of each.
use Rattle.session_validation.proofs.Usage.{usage_is}
use Rattle.session_validation.proofs.usage_among.Goals as goal

pub returns : goal.returns
returns c = usage_is _ _
