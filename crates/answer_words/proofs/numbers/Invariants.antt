-- The first i numbers are followed by what is left.
use Rattle.std.proofs.Common.{◌≡◌, Some}
use Rattle.whole_session.specs.Numbers.{numbers_at}
use Rattle.answer_words.specs.Words.{next_words}
use Rattle.answer_words.proofs.numbers.Given as goal

abbrev pub invariant-loop-i : goal.invariant-loop-i
invariant-loop-i l = Some l.rest ≡ next_words l.list (numbers_at l.b l.from l.i)
