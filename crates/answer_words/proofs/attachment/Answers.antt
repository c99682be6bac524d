-- The words in front of the colour, the colour, and the words behind it.
use Rattle.std.proofs.Common.{List, ℕ, [], ◌∷◌, sym, ◌∙◌}
use Rattle.definition.specs.declared.Attachment.{Attachment}
use Rattle.answer_words.specs.Words.{color_words, attachment_words}
use Rattle.answer_words.proofs.Laws.{words_cut, words_more}
use Rattle.answer_words.proofs.attachment.Goals as goal

abbrev front : Attachment → List ℕ
front a = a.view ∷ a.usage ∷ a.ops ∷ a.stencil_ops ∷ []

pub returns-in_err-rest : goal.returns-in_err-rest
unfolding attachment_words
returns-in_err-rest c = rw c.from_residual.ensures (sym (words_cut c.args.list.now (front c.args.a) _ (sym c.in_err-rest.ensures)))

pub returns-in_err-rest-2 : goal.returns-in_err-rest-2
unfolding attachment_words
returns-in_err-rest-2 c =
    let a = c.args.a in
    let rest = c.in_ok-rest.rest.now in
    rw c.from_residual-in_err-rest-2.ensures
    (sym (words_more c.args.list.now (front a) _ rest c.in_ok-rest.ensures ∙ words_cut rest (color_words a.color) _ (sym c.in_err-rest-2.ensures)))

pub returns : goal.returns
unfolding attachment_words
returns c =
    let a = c.args.a in
    let rest = c.in_ok-rest.rest.now in
    c.words-2.ensures
    ∙ rw c.bits_of_f32.ensures (sym (words_more c.args.list.now (front a) _ rest c.in_ok-rest.ensures ∙ words_more rest (color_words a.color) _ c.in_ok-rest-2.rest.now c.in_ok-rest-2.ensures))
