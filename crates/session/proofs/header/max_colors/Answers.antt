-- The field is the definition's u32 at that place.
use Rattle.definition.specs.Session.{session}
use Rattle.session.proofs.header.max_colors.Goals as goal

pub returns : goal.returns
unfolding session
returns c = c.u32_at.ensures
