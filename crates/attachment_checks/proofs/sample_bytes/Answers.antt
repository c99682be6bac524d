-- The invariant: after slot k, the definition's sum of the first k slots, which has at most 19 bytes a slot.
use mathlib.Core.Path.{sym}
use native.Mathlib.Omega.{arith}
use Rattle.laws.proofs.Folds.{sample_none, sample_turn}
use Rattle.attachment_checks.proofs.sample_bytes.Goals as goal

pub loop-k-init : goal.loop-k-init
loop-k-init c = (sym (sample_none _ _), omega arith)

pub loop-k-preserved : goal.loop-k-preserved
loop-k-preserved c = (simp (c.with_slot-bytes.ensures.0, c.loop-k.invariant.0, sample_turn), omega (arith, c.with_slot-bytes.ensures.1))
