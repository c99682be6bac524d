-- Safe: every record has a byte or more, so that there are no more sessions than bytes.
use Rattle.std.proofs.Common.{◌+◌, ◌≤◌, length}
use Rattle.replay.proofs.replay.Given as goal

abbrev pub invariant-loop-rest : goal.invariant-loop-rest
invariant-loop-rest l = (l.tally.sessions + length l.rest ≤ length l.list) × (l.tally.agree ≤ l.tally.sessions)

abbrev pub decreases-loop-rest : goal.decreases-loop-rest
decreases-loop-rest l = length l.rest
