-- The bytes so far are swept by the actions so far.
use mathlib.Core.Path.{◌≡◌}
use Rattle.definition.specs.Session.{session, surfaces_of}
use Rattle.laws.specs.Submission.{sweep_acts}
use Rattle.lists.specs.Lists.{first_actions}
use Rattle.submission.proofs.Layout.run_actions.Given as goal

abbrev pub invariant-loop-i : goal.invariant-loop-i
invariant-loop-i l = l.status ≡ sweep_acts (first_actions l.i l.b) (surfaces_of (session l.self.bytes.now)) l.initial.status
