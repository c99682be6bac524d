-- By whether the row can be read, then by whether the operations are accepted.
use mathlib.Core.Path.{sym, ◌∙◌}
use Rattle.definition.specs.Check.{check}
use Rattle.session_validation.proofs.Valid.{valid_pass}
use Rattle.render_pass.proofs.start.Goals as goal

pub returns-then-not-pass_valid : goal.returns-then-not-pass_valid
unfolding check
returns-then-not-pass_valid c = simp (c.none_seen.ensures, c.refused_at.ensures, c.pass_valid.ensures, sym c.pass_valid.ensures ∙ c.if-not-pass_valid.true)

pub returns-then-not-is_accepted : goal.returns-then-not-is_accepted
unfolding check
returns-then-not-is_accepted c =
    simp (c.none_seen-then-not-is_accepted.ensures, c.is_accepted.ensures, c.fill_arc_desc-ops.ensures, c.pass_valid.ensures, sym c.pass_valid.ensures ∙ c.if-not-pass_valid.false, simp c.fill_arc_desc-ops.ensures at (sym c.is_accepted.ensures ∙ c.if-not-is_accepted.true))

pub view_steps-requires : goal.view_steps-requires
view_steps-requires c =
    (valid_pass _ _ (sym c.pass_valid.ensures ∙ c.if-not-pass_valid.false)).colors

pub returns : goal.returns
unfolding check
returns c =
    simp (c.view_steps.ensures, c.is_accepted.ensures, c.fill_arc_desc-ops.ensures, c.pass_valid.ensures, sym c.pass_valid.ensures ∙ c.if-not-pass_valid.false, simp c.fill_arc_desc-ops.ensures at (sym c.is_accepted.ensures ∙ c.if-not-is_accepted.false))
