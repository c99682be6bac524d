-- What the calls promise, put together as the definition puts it together.
use Rattle.definition.specs.Session.{session}
use Rattle.definition.specs.Readable.{length_valid}
use Rattle.session_validation.proofs.length_valid.Goals as goal

pub returns : goal.returns
unfolding session length_valid
returns c = simp c.u32_at.ensures
