-- The four numbers are read where the record has them.
use mathlib.Core.Path.{◌∙◌}
use Rattle.definition.specs.Surfaces.{surface_at}
use Rattle.lists.proofs.Bytes.{surface_read}
use Rattle.lists.proofs.surface_at.Goals as goal

pub returns : goal.returns
returns c = (λ q. surface_at (c.u32_inside.ensures q) (c.u32_inside-2.ensures q) (c.u32_inside-3.ensures q) (c.u32_inside-4.ensures q)) ∙ surface_read _ _
