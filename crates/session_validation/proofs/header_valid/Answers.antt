-- What the calls promise, put together as the definition puts it together.
use Rattle.definition.specs.Session.{session}
use Rattle.definition.specs.Readable.{header_valid}
use Rattle.session_validation.proofs.header_valid.Goals as goal

pub returns : goal.returns
unfolding session header_valid
returns c = cc
