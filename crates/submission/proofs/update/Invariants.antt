-- The bytes so far are the run so far, of every function that gives what a call gives.
use mathlib.Core.Path.{◌≡◌}
use Prim.Native.Nat.{ℕ}
use Rattle.submission.specs.Runs.{run}
use Rattle.submission.proofs.update.Given as goal

abbrev pub invariant-loop-k : goal.invariant-loop-k
invariant-loop-k g l = (h : ℕ → ℕ) → ((b c : ℕ) → goal.F-post g l.f b c → c ≡ h b) → l.status ≡ run h l.at l.k l.initial.status
