-- By whether the pass is withheld; if not, one part after the other.
use mathlib.Core.Path.{sym, ◌∙◌}
use Rattle.laws.proofs.Tests.{cond_on}
use Rattle.answer_words.specs.Places.{next_reply}
use Rattle.answer_words.proofs.places.reply.Goals as goal

pub returns-then-is_withheld : goal.returns-then-is_withheld
unfolding next_reply
returns-then-is_withheld c = c.word.ensures ∙ sym (cond_on _ _ _ (sym c.is_withheld.ensures ∙ c.if-is_withheld.true))

pub returns : goal.returns
unfolding next_reply
returns c =
    let off = sym c.is_withheld.ensures ∙ c.if-is_withheld.false in
    simp (off, c.numbers.ensures, c.numbers_of-2.ensures, c.numbers-cleared.ensures, c.numbers_of.ensures, c.rest-after.ensures, c.line-by_reply.ensures, c.numbers-by_row.ensures, c.word-start.ensures, c.u32_at-held.ensures)
