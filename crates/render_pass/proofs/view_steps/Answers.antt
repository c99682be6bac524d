-- The walk over at most eight slots is the definition's, and the mask's verdict stands after it.
use Rattle.definition.specs.Check.{view_steps, mask_step}
use native.Mathlib.Nat.{min-eq_left}
use Rattle.render_pass.proofs.view_steps.Goals as goal

pub returns : goal.returns
unfolding view_steps mask_step
returns c =
    simp (c.then.ensures, c.mask_verdict.ensures, c.mask.ensures, c.slot_steps-walked.ensures, c.depth_stencil_step.ensures, c.bytes_fit-fit.ensures, c.colors-n.ensures, min-eq_left c.requires)
