-- A session that is refused, a surface that it does not have, or the surface's place.
use mathlib.Core.Path.{sym, ◌∙◌}
use borrow.Author.Tests.{eq-eqb}
use Rattle.std.proofs.lemmas.Result.{err_from_is_err_and}
use Rattle.definition.specs.Session.{session}
use Rattle.laws.proofs.Surfaces.{surface_inside}
use Rattle.session_validation.proofs.Valid.{valid_of}
use Rattle.buffer_validation.proofs.Fits.{rows_inside, few_surfaces}
use Rattle.desk.specs.Index.{status_index}
use Rattle.desk.proofs.Calls.{refused_test}
use Rattle.desk.proofs.status_index.Goals as goal

pub returns-in_err-validate_session : goal.returns-in_err-validate_session
unfolding status_index
returns-in_err-validate_session c =
    let told = c.in_err-validate_session in
    let p = err_from_is_err_and c.from_residual.result c.from_residual.ensures.1 in
    rw (p.1, p.2) (simp (refused_test _ _ told.ensures.number, told.ensures.number))

pub surface_valid-requires : goal.surface_valid-requires
surface_valid-requires c = rows_inside _ (valid_of _ (sym c.in_ok-validate_session.ensures.number))

pub returns-then-not-surface_valid : goal.returns-then-not-surface_valid
unfolding status_index
returns-then-not-surface_valid c =
    simp (eq-eqb _ 0 (sym c.in_ok-validate_session.ensures.number), sym c.surface_valid.ensures ∙ c.if-not-surface_valid.true)

pub index_of-requires : goal.index_of-requires
index_of-requires c =
    let s = c.args.session.now in
    (surface_inside (session s) _ (sym c.surface_valid.ensures ∙ c.if-not-surface_valid.false), few_surfaces s (valid_of s (sym c.in_ok-validate_session.ensures.number)))

pub returns : goal.returns
unfolding status_index
returns c =
    simp (eq-eqb _ 0 (sym c.in_ok-validate_session.ensures.number), sym c.surface_valid.ensures ∙ c.if-not-surface_valid.false, c.index_of.ensures)
