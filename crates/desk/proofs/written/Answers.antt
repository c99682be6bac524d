-- The rows of a session that is read.
use mathlib.Core.Path.{sym}
use native.Mathlib.Omega.{arith}
use Rattle.desk.proofs.Whole.{whole_read}
use Rattle.desk.proofs.written.Goals as goal

pub returns : goal.returns
returns c =
    let read = c.in_ok-validate_session.ensures in
    let rows = simp read.same at c.session_rows.ensures in
    whole_read _ _ _ (omega (arith, c.if-rows-lt-ROWS_BYTES.false)) (sym read.number) rows.written rows.behind
