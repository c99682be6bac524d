-- i bytes of the column are written.
use Rattle.std.proofs.Common.{◌≡◌, take}
use Rattle.columns.specs.Columns.{column}
use Rattle.columns.proofs.put_column.Given as goal

abbrev pub invariant-loop-i : goal.invariant-loop-i
invariant-loop-i l = take l.i l.column ≡ column l.c l.src l.j l.i
