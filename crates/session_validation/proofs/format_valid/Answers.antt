-- A colour format goes with every dimension, a depth-stencil format with one.
use mathlib.Core.Path.{sym, ap, ◌∙◌}
use mathlib.Core.Bool.{◌&&◌}
use lib.Dec.{eqb}
use Rattle.session_validation.proofs.Fields.{format_color, format_depth}
use Rattle.session_validation.proofs.format_valid.Goals as goal

pub returns-then-is_color : goal.returns-then-is_color
returns-then-is_color c = c.between.ensures ∙ format_color _ _ (sym c.is_color.ensures ∙ c.if-is_color.true)

pub returns : goal.returns
returns c = ap (λ b. b && eqb c.args.dimension 2) c.is_depth_stencil.ensures ∙ format_depth _ _ (sym c.is_color.ensures ∙ c.if-is_color.false)
