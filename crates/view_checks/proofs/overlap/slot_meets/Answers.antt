-- A range meets what a slot takes where it meets the resolve target or the colour view, and a view takes what its shape takes.
use mathlib.Core.Path.{sym, ap, ◌∙◌}
use Rattle.definition.specs.Surfaces.{layers_of}
use Rattle.definition.specs.Views.{takes}
use Rattle.session.proofs.Rows.{shape_takes}
use Rattle.laws.proofs.Overlap.{meets_nil, meets_append}
use Rattle.view_checks.proofs.overlap.slot_meets.Goals as goal

pub returns-then-is_none : goal.returns-then-is_none
returns-then-is_none c =
    simp (sym c.is_none.ensures ∙ c.if-is_none.true)
    (sym (meets_nil (layers_of c.args.a)))

pub returns-then-is_none-2 : goal.returns-then-is_none-2
unfolding takes
returns-then-is_none-2 c =
    simp (
      c.layers_meet-color.ensures,
      ap layers_of c.slice_range.ensures ∙ shape_takes _ _ _ _ _ c.view_shape.ensures c.requires,
      sym c.is_none.ensures ∙ c.if-is_none.false,
      sym c.is_none-2.ensures ∙ c.if-is_none-2.true,
    )

pub returns : goal.returns
unfolding takes
returns c =
    simp (
      c.layers_meet.ensures,
      ap layers_of c.slice_range-2.ensures ∙ shape_takes _ _ _ _ _ c.view_shape-2.ensures c.requires,
      c.layers_meet-color.ensures,
      ap layers_of c.slice_range.ensures ∙ shape_takes _ _ _ _ _ c.view_shape.ensures c.requires,
      sym c.is_none.ensures ∙ c.if-is_none.false,
      sym c.is_none-2.ensures ∙ c.if-is_none-2.false,
    )
    (sym (meets_append (layers_of c.args.a) _ _))
