-- The row stands after the session's own textures, and each field at its place there.
use Rattle.definition.specs.Session.{session}
use Rattle.session.proofs.view.Goals as goal

pub returns : goal.returns
unfolding session
returns c =
    simp (c.view_of.ensures, c.u32_at.ensures, c.eight_at.ensures, c.view_at-at.ensures.0, c.texture_count.ensures)
