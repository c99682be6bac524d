-- The invariant: the first i numbers are written.
use mathlib.Core.Path.{◌≡◌}
use lib.ListN.{length}
use Rattle.whole_session.specs.Numbers.{put_numbers}
use Rattle.whole_session.proofs.words.write_numbers.Given as goal

abbrev pub invariant-loop-i : goal.invariant-loop-i
invariant-loop-i l = (l.b ≡ put_numbers l.initial.b l.at l.xs l.i) × (length l.b ≡ length l.initial.b)
