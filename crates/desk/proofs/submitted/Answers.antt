-- A call that is refused, or the submission and the counts set after it.
use mathlib.Core.Path.{sym}
use native.Mathlib.Omega.{arith}
use borrow.Author.Rules.{rules}
use Rattle.std.proofs.lemmas.Result.{err_from_is_err_and}
use Rattle.buffer_validation.proofs.Lent.{long_of}
use Rattle.desk.proofs.Calls.{not_refused}
use Rattle.session_validation.proofs.Refusal.{refused}
use Rattle.desk.proofs.Sent.{sent_refused, sent_submits, sent_all}
use Rattle.desk.proofs.submitted.Goals as goal

pub returns-in_err-opened : goal.returns-in_err-opened
returns-in_err-opened c =
    let told = c.in_err-opened in
    let p = err_from_is_err_and c.from_residual.result c.from_residual.ensures.1 in
    rw (p.1, p.2) (sent_refused _ _ _ (refused _ _ told.ensures) told.ensures)

pub submit-requires : goal.submit-requires
submit-requires c =
    let ready = not_refused _ _ (sym c.in_ok-opened.ensures) in
    sent_submits _ _ _ _ _ ready.0 ready.1

pub set_count-requires : goal.set_count-requires
set_count-requires c = (omega (arith, long_of _ (not_refused _ _ (sym c.in_ok-opened.ensures)).0.long), omega arith)

pub set_count-requires-2 : goal.set_count-requires-2
set_count-requires-2 c = (omega (arith, long_of _ (not_refused _ _ (sym c.in_ok-opened.ensures)).0.long), omega arith)

pub returns : goal.returns
returns c =
    let ready = not_refused _ _ (sym c.in_ok-opened.ensures) in
    sent_all _ _ _ _ _ ready.0 ready.1 _ _ _ c.set_count.ensures c.set_count-2.ensures c.submit.ensures
    (search rules) (search rules) (search rules)
