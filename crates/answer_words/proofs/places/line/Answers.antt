-- A line has nine words.
use mathlib.Core.Path.{refl, ap, ◌∙◌}
use Rattle.answer_words.specs.Words.{next_words, line_words}
use Rattle.answer_words.proofs.PlaceLaws.{past_next}
use Rattle.answer_words.proofs.places.line.Goals as goal

pub returns : goal.returns
unfolding line_words
returns c =
    let next = c.line-next.ensures ∙ ap (λ b. next_words b (line_words c.args.k c.args.r.now c.args.discards)) c.left.ensures in
    rw c.past.ensures (rw c.is_some.ensures (past_next c.args.list.now c.args.p _ 9 c.line-next.result refl next))
