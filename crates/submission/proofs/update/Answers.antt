-- A byte more.
use mathlib.Core.Path.{refl, sym}
use Rattle.submission.proofs.Runs.{run_none, run_store}
use Rattle.submission.proofs.update.Goals as goal

pub loop-k-init : goal.loop-k-init
loop-k-init g c = λ h _. sym (run_none h c.args.at _)

pub loop-k-preserved : goal.loop-k-preserved
loop-k-preserved g c =
    λ h same. run_store h c.args.at c.args.status.now c.loop-k.k _ _ c.loop-k.status (c.loop-k.invariant h same) refl (same _ _ c.f.ensures)
