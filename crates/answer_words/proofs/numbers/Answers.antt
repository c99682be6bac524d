-- Number after number.
use Rattle.std.proofs.Common.{refl, sym, ◌+◌, ◌∙◌, arith}
use Rattle.whole_session.specs.Numbers.{numbers_at}
use Rattle.answer_words.specs.Words.{next_words}
use Rattle.answer_words.proofs.Laws.{number_turn, numbers_stop}
use Rattle.answer_words.proofs.numbers.Goals as goal

pub loop-i-init : goal.loop-i-init
unfolding next_words numbers_at
loop-i-init c = refl

pub loop-i-preserved : goal.loop-i-preserved
loop-i-preserved c =
    let a = c.args in
    let l = c.loop-i in
    (rw c.u32_at.ensures at c.in_ok-rest.ensures) ∙ sym (number_turn a.list.now a.b.now a.from l.i l.rest.now l.invariant)

pub returns-in_err-rest : goal.returns-in_err-rest
returns-in_err-rest c =
    let a = c.args in
    let l = c.loop-i in
    rw c.from_residual.ensures (sym (numbers_stop a.list.now a.b.now a.from (l.i + 1) a.n (omega arith)
    (number_turn a.list.now a.b.now a.from l.i l.rest.now l.invariant ∙ sym (rw c.u32_at.ensures at c.in_err-rest.ensures))))
