-- The words so far are followed by what is left.
use Rattle.std.proofs.Common.{◌≡◌, Some, take}
use Rattle.answer_words.specs.Words.{next_words}
use Rattle.answer_words.proofs.words.Given as goal

abbrev pub invariant-loop-w : goal.invariant-loop-w
invariant-loop-w l = Some l.rest ≡ next_words l.list (take l.w-index l.expected)
