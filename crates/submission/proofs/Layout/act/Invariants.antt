-- The bytes so far are swept by the mips so far.
use mathlib.Core.Path.{◌≡◌}
use Rattle.definition.specs.Session.{session, surfaces_of}
use Rattle.laws.specs.Plans.{action_of}
use Rattle.laws.specs.Submission.{sweep, act_at}
use Rattle.submission.specs.Runs.{first_mips}
use Rattle.submission.proofs.Layout.act.Given as goal

abbrev pub invariant-loop-m : goal.invariant-loop-m
invariant-loop-m l = l.status ≡ sweep (act_at (action_of (first_mips l.range l.m) l.kind)) (surfaces_of (session l.self.bytes.now)) l.initial.status
