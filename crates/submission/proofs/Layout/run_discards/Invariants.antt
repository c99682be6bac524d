-- The bytes so far are swept by the discards so far.
use mathlib.Core.Path.{◌≡◌}
use Rattle.definition.specs.Session.{session, surfaces_of}
use Rattle.laws.specs.Submission.{sweep, empty_at}
use Rattle.lists.specs.Lists.{first_surfaces}
use Rattle.submission.proofs.Layout.run_discards.Given as goal

abbrev pub invariant-loop-i : goal.invariant-loop-i
invariant-loop-i l = l.status ≡ sweep (empty_at (first_surfaces l.i l.b)) (surfaces_of (session l.self.bytes.now)) l.initial.status
