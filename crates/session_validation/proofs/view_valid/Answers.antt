-- A texture that is not there decides the answer; else its row does.
use borrow.Author.Tests.{lt-ltb, le-ltb}
use Rattle.definition.specs.Readable.{view_valid}
use Rattle.session_validation.proofs.view_valid.Goals as goal

pub returns-then-v-textures : goal.returns-then-v-textures
unfolding view_valid
returns-then-v-textures c = simp (simp c.requires.0 at (le-ltb _ _ c.if-v-textures.true))

pub returns : goal.returns
unfolding view_valid
returns c =
    simp (c.view_in_texture.ensures, c.texture_inside.ensures, simp c.requires.0 at (lt-ltb _ _ c.if-v-textures.false))
