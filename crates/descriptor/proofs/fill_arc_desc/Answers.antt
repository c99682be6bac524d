-- A pass of too many colours is refused as 10; any other by its colours, then its depth-stencil.
use native.Mathlib.Omega.{arith}
use borrow.Author.Tests.{lt-leb, le-leb}
use Rattle.definition.specs.Check.{ops_verdict}
use Rattle.definition.specs.Verdict.{◌then◌, unless}
use Rattle.descriptor.proofs.fill_arc_desc.Goals as goal

pub returns-then-n-max_colors : goal.returns-then-n-max_colors
unfolding ops_verdict ◌then◌ unless
returns-then-n-max_colors c =
    let many = lt-leb c.colors-n.result c.max_colors.result (omega arith) in
    simp (c.refused_at.ensures, simp (c.colors-n.ensures, c.max_colors.ensures) at many)

pub returns : goal.returns
unfolding ops_verdict ◌then◌ unless
returns c =
    let few = le-leb c.colors-n.result c.max_colors.result (omega arith) in
    simp (c.then.ensures, c.depth_stencil_ops.ensures, c.color_ops.ensures, c.colors-n.ensures, simp (c.colors-n.ensures, c.max_colors.ensures) at few)
