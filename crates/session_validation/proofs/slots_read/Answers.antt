-- The invariant: the first k slots are judged.
use mathlib.Core.Path.{refl}
use native.Mathlib.Numerals.{add-one}
use Rattle.definition.specs.Readable.{slots_read}
use Rattle.session.proofs.Rows.{without_reads}
use Rattle.session_validation.proofs.slots_read.Goals as goal

pub loop-k-init : goal.loop-k-init
unfolding slots_read
loop-k-init c = refl

pub loop-k-preserved : goal.loop-k-preserved
unfolding slots_read
loop-k-preserved c = rw add-one (simp (c.slot_reads-all.ensures, c.slot_without_clear.ensures, without_reads, c.loop-k.invariant))
