-- The row stands after the session's own textures, and the format at its place there.
use Rattle.definition.specs.Session.{session}
use Rattle.session.proofs.view_format.Goals as goal

pub returns : goal.returns
unfolding session
returns c = simp (c.u32_at.ensures, c.view_at.ensures.0, c.texture_count.ensures)
