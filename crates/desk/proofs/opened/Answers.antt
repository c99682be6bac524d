-- Each way out is one clause of the refusal's definition.
use mathlib.Core.Path.{sym, ◌∙◌}
use borrow.Author.Tests.{eq-eqb}
use Rattle.std.proofs.lemmas.Result.{err_from_is_err_and}
use Rattle.desk.specs.Entry.{entry_refusal}
use Rattle.desk.proofs.Calls.{refused_test}
use Rattle.desk.proofs.opened.Goals as goal

pub returns-then-is_short : goal.returns-then-is_short
unfolding entry_refusal
returns-then-is_short c = simp (sym c.is_short.ensures ∙ c.if-is_short.true)

pub returns-in_err-readable : goal.returns-in_err-readable
unfolding entry_refusal
returns-in_err-readable c =
    let told = c.in_err-readable in
    let p = err_from_is_err_and c.from_residual.result c.from_residual.ensures.1 in
    rw (p.1, p.2) (simp (sym c.is_short.ensures ∙ c.if-is_short.false, refused_test _ _ told.ensures.number, told.ensures.number))

pub returns-then-not-is_valid : goal.returns-then-not-is_valid
unfolding entry_refusal
returns-then-not-is_valid c =
    simp (sym c.is_short.ensures ∙ c.if-is_short.false, eq-eqb _ 0 (sym c.in_ok-readable.ensures.number), sym (simp c.in_ok-readable.ensures.same at c.is_valid.ensures) ∙ c.if-not-is_valid.true)

pub returns : goal.returns
unfolding entry_refusal
returns c =
    simp (sym c.is_short.ensures ∙ c.if-is_short.false, eq-eqb _ 0 (sym c.in_ok-readable.ensures.number), sym (simp c.in_ok-readable.ensures.same at c.is_valid.ensures) ∙ c.if-not-is_valid.false)
