-- The row of the next pass is the first of what is to come.
use mathlib.Core.Path.{sym, ◌∙◌}
use native.Mathlib.Omega.{arith}
use borrow.Author.Rules.{rules}
use Rattle.whole_session.proofs.Rows.{lines_next}
use Rattle.whole_session.proofs.WalkIterator.next.Goals as goal

pub returns-clause-steps : goal.returns-clause-steps
returns-clause-steps c = sym c.self.view_is ∙ lines_next _ _ _ _ (omega arith) c.next_row-row.ensures.row

pub returns-clause-goes : goal.returns-clause-goes
returns-clause-goes c =
    let steps = sym c.self.view_is ∙ lines_next _ _ _ _ (omega arith) c.next_row-row.ensures.row in
    search (rules, steps)
