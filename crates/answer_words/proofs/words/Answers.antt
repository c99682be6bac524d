-- Word after word.
use Rattle.std.proofs.Common.{refl, sym, ◌+◌, ◌∙◌}
use Rattle.answer_words.specs.Words.{next_words}
use Rattle.answer_words.proofs.Laws.{word_turn, words_stop}
use Rattle.answer_words.proofs.words.Goals as goal

pub loop-w-init : goal.loop-w-init
unfolding next_words
loop-w-init c = refl

pub loop-w-preserved : goal.loop-w-preserved
loop-w-preserved c =
    let l = c.loop-w in
    c.in_ok-rest.ensures ∙ sym (word_turn c.args.list.now c.args.expected.now l.w-index 0 l.rest.now c.loop-w-test.true l.invariant)

pub returns-in_err-rest : goal.returns-in_err-rest
returns-in_err-rest c =
    let l = c.loop-w in
    let b = c.args.list.now in
    let ws = c.args.expected.now in
    rw c.from_residual.ensures (sym (words_stop b ws (l.w-index + 1) (word_turn b ws l.w-index 0 l.rest.now c.loop-w-test.true l.invariant ∙ sym c.in_err-rest.ensures)))
