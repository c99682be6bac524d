-- The invariant: the rows so far stand in the bytes, and with those to come they are what `deskcheck` says.
use mathlib.Core.Path.{◌≡◌}
use mathlib.Core.List.{◌++◌}
use Prim.Native.Nat.{◌*◌}
use lib.ListN.{length, drop}
use Rattle.definition.specs.Sizes.{row_bytes}
use Rattle.definition.specs.Session.{session}
use Rattle.definition.specs.Program.{deskcheck}
use Rattle.whole_session.specs.Rows.{rows_in}
use Rattle.whole_session.proofs.session_rows.Given as goal

abbrev pub invariant-loop-row : goal.invariant-loop-row
invariant-loop-row l = (l.yielded ++ l.row-iterator ≡ deskcheck l.s.bytes.now) × (l.at ≡ row_bytes * length l.yielded) × (rows_in l.rows (length l.yielded) ≡ l.yielded)
    × (drop (row_bytes * (session l.s.bytes.now).pass_count) l.rows ≡ drop (row_bytes * (session l.s.bytes.now).pass_count) l.initial.rows)
    × (length l.rows ≡ length l.initial.rows)
