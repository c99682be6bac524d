-- A colour count above the most is refused first; else the three tests are the definition's.
use Rattle.definition.specs.Readable.{pass_valid}
use borrow.Author.Tests.{le-leb, lt-leb}
use Rattle.session_validation.proofs.pass_valid.Goals as goal

pub returns-then-n-gt-MAX_SLOTS : goal.returns-then-n-gt-MAX_SLOTS
unfolding pass_valid
returns-then-n-gt-MAX_SLOTS c = simp (simp c.colors-n.ensures at (lt-leb _ _ c.if-n-gt-MAX_SLOTS.true))

pub returns : goal.returns
unfolding pass_valid
returns c =
    simp (c.slots_read.ensures, c.depth_stencil_reads.ensures, c.ends.ensures, c.colors-n.ensures, simp c.colors-n.ensures at (le-leb _ _ c.if-n-gt-MAX_SLOTS.false))
