-- The words in front of the attachments, and the attachments that the count names.
use Rattle.std.proofs.Common.{◌≡◌, List, ℕ, [], ◌∷◌, take, sym, ap, ◌∙◌}
use Rattle.std.proofs.lemmas.List.{take_min}
use Rattle.definition.specs.declared.Attachment.{Attachment}
use Rattle.render_pass.specs.declared.Reply.{Reply}
use Rattle.answer_words.specs.Words.{next_words, rest_words, attachments_words}
use Rattle.answer_words.proofs.Laws.{words_cut, words_more}
use Rattle.answer_words.proofs.rest.Goals as goal

abbrev front : Reply → List ℕ
front r = r.depth_read_only ∷ r.stencil_read_only ∷ r.divergent ∷ r.count ∷ []

pub returns-in_err-list : goal.returns-in_err-list
unfolding rest_words
returns-in_err-list c = rw c.from_residual.ensures (sym (words_cut c.args.list.now (front c.args.r.now) _ (sym c.in_err-list.ensures)))

pub returns : goal.returns
unfolding rest_words
returns c =
    let r = c.args.r.now in
    let records = c.in_ok-list.list.now in
    let named : take c.min-count.result r.attachments ≡ take r.count r.attachments = rw c.min-count.ensures (take_min r.count r.attachments) in
    c.attachments.ensures
    ∙ ap (λ (l : List Attachment). next_words records (attachments_words l)) named
    ∙ sym (words_more c.args.list.now (front r) _ records c.in_ok-list.ensures)
