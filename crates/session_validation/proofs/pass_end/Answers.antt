-- What the calls promise, put together as the definition puts it together.
use Rattle.definition.specs.Session.{session}
use Rattle.session_validation.proofs.pass_end.Goals as goal

pub returns : goal.returns
unfolding session
returns c = simp (c.pass_count.ensures, c.pass_start.ensures.0)
