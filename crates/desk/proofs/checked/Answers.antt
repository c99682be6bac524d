-- A call that is refused, a pass that the session does not have, or the pass's check.
use mathlib.Core.Path.{refl, sym, ap}
use native.Mathlib.Omega.{arith}
use Rattle.std.proofs.lemmas.Result.{err_from_is_err_and}
use Rattle.buffer_validation.specs.Buffers.{buffers}
use Rattle.desk.specs.Reply.{refused_reply}
use Rattle.desk.proofs.Calls.{not_refused}
use Rattle.session_validation.proofs.Refusal.{refused}
use Rattle.desk.proofs.Passed.{passed_refused, passed_none, passed_checked, valid_checkable}
use Rattle.desk.proofs.checked.Goals as goal

pub returns-in_err-opened : goal.returns-in_err-opened
returns-in_err-opened c =
    let told = c.in_err-opened in
    let p = err_from_is_err_and c.from_residual.result c.from_residual.ensures.1 in
    rw (p.1, p.2) (passed_refused _ _ _ _ (refused _ _ told.ensures) (ap refused_reply told.ensures))

pub returns-then-i-pass_count : goal.returns-then-i-pass_count
returns-then-i-pass_count c =
    let ready = not_refused _ _ (sym c.in_ok-opened.ensures) in
    passed_none _ _ _ _ ready.0 ready.1 (omega (arith, c.if-i-pass_count.true, c.pass_count.ensures)) refl

pub check_pass-requires : goal.check_pass-requires
check_pass-requires c =
    let a = c.args in
    let ready = not_refused _ _ (sym c.in_ok-opened.ensures) in
    rw c.pass_row.ensures.session (valid_checkable _ (buffers a.discards.now a.actions.now a.clears.now a.status.now) ready.0 ready.1)

pub returns : goal.returns
returns c =
    let ready = not_refused _ _ (sym c.in_ok-opened.ensures) in
    passed_checked _ _ _ _ _ ready.0 ready.1 (omega (arith, c.if-i-pass_count.false, c.pass_count.ensures))
    (simp (c.pass_row.ensures.session, c.pass_row.ensures.pass) at c.check_pass.ensures)
    (record { discards = c.check_pass.auto.discards; actions = c.check_pass.auto.actions; clears = c.check_pass.auto.clears })
