-- The invariant: a line of each row so far is written, and with those to come the rows are what `deskcheck` says.
use mathlib.Core.Path.{◌≡◌}
use mathlib.Core.List.{◌++◌}
use Prim.Native.Nat.{◌+◌, ◌*◌, ◌≤◌}
use lib.ListN.{length}
use Rattle.definition.specs.Program.{deskcheck}
use Rattle.report.specs.Text.{line_bytes, lines_text}
use Rattle.report.specs.Appended.{Appended}
use Rattle.report.proofs.push_lines.Given as goal

abbrev pub invariant-loop-row : goal.invariant-loop-row
invariant-loop-row l = record {
  so_far : l.yielded ++ l.row-iterator ≡ deskcheck l.s.bytes.now;
  written : Appended l.initial.text (lines_text l.yielded) l.text;
  room : l.text.end ≤ l.initial.text.end + line_bytes * length l.yielded;
}
