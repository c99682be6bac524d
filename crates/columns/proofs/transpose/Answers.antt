-- A column more in front, and what is behind it is as it was.
use Rattle.std.proofs.Common.{ℕ, ◌≡◌, ◌+◌, ◌-◌, ◌*◌, ◌≤◌, length, refl, ap, ◌∙◌, take, drop, arith}
use native.Mathlib.Nat.{mul-zero}
use lib.ListN.{length-drop}
use lib.Seq.{length-take-le}
use Rattle.columns.specs.Columns.{column, columns}
use Rattle.columns.proofs.Columns.{column_room, columns_put, columns_stay}
use Rattle.columns.proofs.transpose.Goals as goal

pub loop-j-init : goal.loop-j-init
unfolding columns
loop-j-init c = record { in_front = ap (λ (k : ℕ). take k c.args.out.now) (mul-zero c.args.r); behind = refl }

pub loop-j-preserved : goal.loop-j-preserved
loop-j-preserved c =
    let a = c.args in
    let l = c.loop-j in
    let at = a.r * l.j in
    let room : at + a.r ≤ length l.out = column_room a.r a.c l.j (length l.out) (omega arith) (omega arith) in
    let one : at + a.r - at ≡ a.r = omega arith in
    let long : length (take a.r (drop at l.out)) ≡ a.r = length-take-le a.r (drop at l.out) (omega (arith, length-drop at l.out, room)) in
    let written = (simp one at c.put_column.ensures) ∙ ap (column a.c a.src.now l.j) long in
    rw one record {
      in_front = columns_put a.r a.c a.src.now l.j l.out a.out.now c.put_column.new.column room written l.invariant.behind l.invariant.in_front;
      behind = columns_stay a.r a.c a.src.now l.j l.out a.out.now c.put_column.new.column room written l.invariant.behind;
    }
