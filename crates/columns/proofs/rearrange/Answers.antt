-- Decided first, written last.
use Rattle.std.proofs.Common.{sym, length, arith}
use Rattle.columns.proofs.Refusals.{number_fits, way_bytes, way_small}
use Rattle.columns.proofs.rearrange.Goals as goal

pub transpose-requires-clause-room : goal.transpose-requires-clause-room
transpose-requires-clause-room c =
    let a = c.args in
    let fit = number_fits a.passes (length a.part.now) (length a.target.now) (sym c.in_ok-check_lengths.ensures) in
    simp (c.shape-rows.ensures) (omega (arith, fit.1, fit.2, way_bytes a.way a.passes))

pub transpose-requires-clause-few : goal.transpose-requires-clause-few
transpose-requires-clause-few c =
    let a = c.args in
    let fit = number_fits a.passes (length a.part.now) (length a.target.now) (sym c.in_ok-check_lengths.ensures) in
    simp (c.shape-rows.ensures) (way_small a.way a.passes fit.0)

pub returns : goal.returns
returns c =
    let a = c.args in
    let accepted = sym c.in_ok-check_lengths.ensures in
    let fit = number_fits a.passes (length a.part.now) (length a.target.now) accepted in
    record {
      refusal = sym accepted;
      target = simp (c.shape-rows.ensures, way_bytes a.way a.passes, sym fit.1) at c.transpose.ensures;
    }
