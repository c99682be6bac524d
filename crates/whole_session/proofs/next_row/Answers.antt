-- What is said of the pass is its row; at a buffer's end the discards and the actions are submitted.
use mathlib.Core.Path.{sym, ◌∙◌}
use borrow.Author.Rules.{rules}
use Rattle.laws.proofs.Readable.{tested}
use Rattle.whole_session.proofs.Rows.{row_told, next_on, next_ended}
use Rattle.whole_session.proofs.next_row.Goals as goal

pub summarize-said-requires : goal.summarize-said-requires
summarize-said-requires c =
    let read = tested _ c.args.s.readable in
    rw c.pass_row-pass.ensures.session
    (record { textures = read.textures; views = read.views; held = c.requires.reached.held; actions = c.requires.reached.few })

pub returns-then-ends_buffer : goal.returns-then-ends_buffer
returns-then-ends_buffer c =
    let row = c.pass_row-pass.ensures in
    let said = simp (row.session, row.pass) at c.summarize-said.ensures in
    record {
      row = row_told _ _ _ _ _ c.requires.reached _ _ said _ c.count.ensures;
      next = next_ended _ _ _ _ _ c.requires.reached _ _ said _ (simp row.pass at (sym c.ends_buffer.ensures ∙ c.if-ends_buffer.true)) (search rules) c.set_count.ensures;
    }

pub returns-else-ends_buffer : goal.returns-else-ends_buffer
returns-else-ends_buffer c =
    let row = c.pass_row-pass.ensures in
    let said = simp (row.session, row.pass) at c.summarize-said.ensures in
    record {
      row = row_told _ _ _ _ _ c.requires.reached _ _ said _ c.count.ensures;
      next = next_on _ _ _ _ _ c.requires.reached _ _ said (simp row.pass at (sym c.ends_buffer.ensures ∙ c.if-ends_buffer.false));
    }
