-- Each field is the definition's number at its place in the row.
use Rattle.definition.specs.Session.{session}
use Rattle.session.proofs.texture_inside.Goals as goal

pub returns : goal.returns
unfolding session
returns c = simp (c.texture_of.ensures, c.eight_inside.ensures)
