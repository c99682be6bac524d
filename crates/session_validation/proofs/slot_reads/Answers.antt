-- What the calls promise, put together as the definition puts it together.
use Rattle.definition.specs.Readable.{slot_reads}
use Rattle.session_validation.proofs.slot_reads.Goals as goal

pub returns : goal.returns
unfolding slot_reads
returns c = cc
