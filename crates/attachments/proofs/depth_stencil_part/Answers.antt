-- By whether the view is none.
use mathlib.Core.Path.{sym, ap, ◌∙◌}
use Rattle.attachments.proofs.DepthStencil.{part_absent, part_present}
use Rattle.attachments.proofs.depth_stencil_part.Goals as goal

pub returns-then-is_none : goal.returns-then-is_none
returns-then-is_none c = part_absent _ _ _ c.depth_stencil-k.ensures (sym c.is_none.ensures ∙ c.if-is_none.true)

pub returns : goal.returns
returns c = (
  _,
  part_present _ _ _ _ _ _ c.depth_stencil-k.ensures (sym c.is_none.ensures ∙ c.if-is_none.false) (ap (λ v. v.format) c.view-format.ensures) c.depth_ops.ensures c.stencil_ops.ensures,
  c.depth_stencil_of.ensures,
)
