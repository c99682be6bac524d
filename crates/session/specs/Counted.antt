-- Surfaces counted no further than one past the most that a session has, so that the count fits for any bytes.
-- In a session that is not refused nothing is cut off (proofs/Counted).
use Rattle.std.specs.Prelude.{ℕ, suc, min}
use Rattle.definition.specs.Sizes.{max_surfaces}
use Rattle.definition.specs.Session.{Session, surfaces_before}

-- The surfaces of the first n textures.
unfoldable pub surfaces_up_to : Session → ℕ → ℕ
surfaces_up_to S n = min (suc max_surfaces) (surfaces_before S n)
