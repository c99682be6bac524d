-- By whether the list has four bytes more.
use mathlib.Core.Path.{sym}
use native.Mathlib.Omega.{arith}
use Rattle.answer_words.proofs.PlaceLaws.{word_there, word_past}
use Rattle.answer_words.proofs.places.word.Goals as goal

pub returns-then-saturating_sub-lt-WORD_BYTES : goal.returns-then-saturating_sub-lt-WORD_BYTES
returns-then-saturating_sub-lt-WORD_BYTES c = sym (word_past _ _ _ (omega arith))

pub returns : goal.returns
returns c = rw c.u32_at.ensures (sym (word_there _ _ _ (omega arith)))
