-- Number after number.
use mathlib.Core.Path.{refl}
use native.Mathlib.Numerals.{add-one}
use Rattle.whole_session.specs.Numbers.{numbers_at}
use Rattle.answer_words.specs.Places.{next_words}
use Rattle.answer_words.proofs.PlaceLaws.{words_append}
use Rattle.answer_words.proofs.places.numbers.Goals as goal

pub loop-i-init : goal.loop-i-init
unfolding next_words numbers_at
loop-i-init c = refl

pub loop-i-preserved : goal.loop-i-preserved
unfolding next_words numbers_at
loop-i-preserved c = rw add-one (simp (words_append, c.word-q.ensures, c.u32_at.ensures, c.loop-i.invariant))
