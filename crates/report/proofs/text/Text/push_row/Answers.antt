-- The invariant: the first number and so many of the others are written.
use mathlib.Core.Path.{ap, ◌∙◌}
use mathlib.Core.List.{◌∷◌}
use native.Mathlib.Omega.{arith}
use lib.ListN.{get_or, drop, length-drop}
use lib.Seq.{take_all}
use Rattle.report.specs.Text.{joined}
use Rattle.report.proofs.Lines.{joined_more, joined_whole}
use Rattle.report.proofs.Appended.{appended_as, appended_then}
use Rattle.report.proofs.text.Text.push_row.Goals as goal

pub loop-n-init : goal.loop-n-init
unfolding joined
loop-n-init c = record { written = c.push_decimal.ensures.appended; room = omega arith }

pub loop-n-preserved : goal.loop-n-preserved
loop-n-preserved c =
    let l = c.loop-n in
    record {
      written = appended_as (joined_more _ _ l.n-index c.loop-n-test.true) (appended_then l.invariant.written c.push_next.ensures.appended);
      room = omega arith;
    }

pub returns-clause-appended : goal.returns-clause-appended
returns-clause-appended c =
    let l = c.loop-n in
    let numbers = c.args.numbers.now in
    appended_as (ap (λ xs. joined (get_or numbers 0 0 ∷ xs)) (take_all l.n-index _ (omega arith) ∙ take_all 8 (drop 1 numbers) (omega (arith, length-drop 1 numbers))) ∙ joined_whole numbers (omega arith)) l.invariant.written
