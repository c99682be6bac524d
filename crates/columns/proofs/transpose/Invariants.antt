-- j columns stand at the front, and what is behind them is as it was.
use Rattle.std.proofs.Common.{◌≡◌, ◌*◌, take, drop}
use Rattle.columns.specs.Columns.{columns}
use Rattle.columns.proofs.transpose.Given as goal

abbrev pub invariant-loop-j : goal.invariant-loop-j
invariant-loop-j l = record {
  in_front : take (l.r * l.j) l.out ≡ columns l.r l.c l.src l.j;
  behind : drop (l.r * l.j) l.out ≡ drop (l.r * l.j) l.initial.out;
}
