-- Tests of rows that the code makes together: a texture's format with its dimension, and a view's range with what it may have.
use Rattle.std.specs.Prelude.{Bool, ◌&&◌, ◌||◌, cond, ℕ, eqb}
use Rattle.definition.specs.Formats.{is_color, is_format}
use Rattle.definition.specs.Session.{array_layers}
use Rattle.definition.specs.Readable.{between, dimension_fits}
use Rattle.definition.specs.declared.Texture.{Texture}

-- The tests of a texture's format and dimension.
unfoldable pub format_valid : ℕ → ℕ → Bool
format_valid f d = is_format f && between 1 3 d && (is_color f || eqb d 2)

-- The layers that a view of dimension v may have: none where the dimension does not go with the texture's.
unfoldable pub layers_for : ℕ → Texture → ℕ
layers_for v t = cond (dimension_fits v t.dimension) (array_layers t) 0
