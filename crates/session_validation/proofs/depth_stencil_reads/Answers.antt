-- The rest of an empty part is not read; else what the calls promise, put together as the definition puts it together.
use mathlib.Core.Path.{sym, ◌∙◌}
use Rattle.definition.specs.Readable.{depth_stencil_reads}
use Rattle.session_validation.proofs.depth_stencil_reads.Goals as goal

pub returns-then-is_none : goal.returns-then-is_none
unfolding depth_stencil_reads
returns-then-is_none c = simp (simp c.depth_stencil-v.ensures at (sym c.is_none.ensures ∙ c.if-is_none.true))

pub returns : goal.returns
unfolding depth_stencil_reads
returns c =
    let none = c in
    let row = none in
    simp (
      c.channel_reads-2.ensures,
      c.stencil.ensures,
      c.channel_reads.ensures,
      c.depth.ensures,
      c.view_count.ensures,
      row.depth_stencil-v.ensures,
      simp row.depth_stencil-v.ensures at (sym none.is_none.ensures ∙ c.if-is_none.false),
    )
