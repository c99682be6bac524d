-- The attachments so far are followed by what is left.
use Rattle.std.proofs.Common.{◌≡◌, Some, take}
use Rattle.answer_words.specs.Words.{next_words, attachments_words}
use Rattle.answer_words.proofs.attachments.Given as goal

abbrev pub invariant-loop-a : goal.invariant-loop-a
invariant-loop-a l = Some l.rest ≡ next_words l.list (attachments_words (take l.a-index l.records))
