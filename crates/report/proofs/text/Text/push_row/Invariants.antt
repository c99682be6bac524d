-- The invariant: the first number and so many of the others are written.
use mathlib.Core.List.{◌∷◌}
use Prim.Native.Nat.{◌+◌, ◌*◌, ◌≤◌}
use lib.ListN.{get_or, take}
use Rattle.report.specs.Text.{number_bytes, joined}
use Rattle.report.specs.Appended.{Appended}
use Rattle.report.proofs.text.Text.push_row.Given as goal

abbrev pub invariant-loop-n : goal.invariant-loop-n
invariant-loop-n l = record {
  written : Appended l.fn.self (joined (get_or l.numbers 0 0 ∷ take l.n-index l.n-items)) l.self;
  room : l.self.end + 1 ≤ l.fn.self.end + number_bytes * (l.n-index + 1);
}
