-- A turn takes a record out and, where it stays, puts it to the front.
use Rattle.std.proofs.Common.{length, ◌≤◌, sym, ◌∙◌, arith}
use Rattle.laws.proofs.Compact.{compact_start}
use Rattle.texture_surface_discards.proofs.Compaction.{kept_on, left_out, retained}
use Rattle.texture_surface_discards.proofs.deskcheck_retain.Goals as goal
use Rattle.texture_surface_discards.proofs.deskcheck_retain.Goals.{then-stays, else-stays}

pub loop-i-init : goal.loop-i-init
loop-i-init c = compact_start

pub loop-i-preserved : goal.loop-i-preserved
loop-i-preserved c =
    let a = c.args in
    let l = c.loop-i in
    let enough : a.n ≤ length a.discards.now = omega (arith, c.if-discards-n.false) in
    elim c.if-stays.branch [
      | then-stays w ↦ rw (w.discards-is, w.kept-is) (kept_on a.range a.n a.discards.now l.discards l.kept l.i l.auto.discards enough l.invariant c.loop-i-test.true (sym c.stays.ensures ∙ w.if-stays.true))
      | else-stays w ↦ rw (w.discards-is, w.kept-is) (left_out a.range a.n a.discards.now l.discards l.kept l.i l.auto.discards enough l.invariant c.loop-i-test.true (sym c.stays.ensures ∙ w.if-stays.false))
    ]

pub returns : goal.returns
returns c =
    let a = c.args in
    let l = c.loop-i in
    retained a.range a.n a.discards.now l.discards l.kept l.i l.auto.discards (omega (arith, c.if-discards-n.false)) l.invariant (omega (arith, c.loop-i-test.false))
