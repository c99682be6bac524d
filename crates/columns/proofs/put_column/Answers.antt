-- A byte more is written.
use Rattle.std.proofs.Common.{refl, arith}
use Rattle.columns.specs.Columns.{column}
use Rattle.columns.proofs.Columns.{column_put}
use Rattle.columns.proofs.put_column.Goals as goal

pub loop-i-init : goal.loop-i-init
unfolding column
loop-i-init c = refl

pub loop-i-preserved : goal.loop-i-preserved
loop-i-preserved c =
    let a = c.args in
    let l = c.loop-i in
    rw c.byte_at.ensures (column_put a.c a.src.now a.j l.i l.column (omega arith) l.invariant)
