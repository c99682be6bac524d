-- The first i numbers are the words so far.
use Rattle.std.proofs.Common.{◌≡◌}
use Rattle.whole_session.specs.Numbers.{numbers_at}
use Rattle.answer_words.specs.Places.{next_words}
use Rattle.answer_words.proofs.places.numbers.Given as goal

abbrev pub invariant-loop-i : goal.invariant-loop-i
invariant-loop-i l = l.q ≡ next_words l.list l.fn.p (numbers_at l.b l.from l.i)
