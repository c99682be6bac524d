-- Attachment after attachment.
use Rattle.std.proofs.Common.{refl, sym, ◌+◌, ◌∙◌}
use Rattle.answer_words.specs.Words.{next_words, attachments_words}
use Rattle.answer_words.proofs.Laws.{attachment_turn, attachments_stop}
use Rattle.answer_words.proofs.attachments.Goals as goal

pub loop-a-init : goal.loop-a-init
unfolding next_words attachments_words
loop-a-init c = refl

pub loop-a-preserved : goal.loop-a-preserved
loop-a-preserved c =
    let l = c.loop-a in
    c.in_ok-rest.ensures ∙ sym (attachment_turn c.args.list.now c.args.records.now l.a-index _ l.rest.now c.loop-a-test.true l.invariant)

pub returns-in_err-rest : goal.returns-in_err-rest
returns-in_err-rest c =
    let l = c.loop-a in
    let b = c.args.list.now in
    let records = c.args.records.now in
    rw c.from_residual.ensures (sym (attachments_stop b records (l.a-index + 1) (attachment_turn b records l.a-index _ l.rest.now c.loop-a-test.true l.invariant ∙ sym c.in_err-rest.ensures)))
