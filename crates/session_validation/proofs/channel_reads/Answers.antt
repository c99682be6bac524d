-- The code's test is the definition's own.
use mathlib.Core.Path.{refl}
use Rattle.definition.specs.Readable.{channel_reads}
use Rattle.session_validation.proofs.channel_reads.Goals as goal

pub returns : goal.returns
unfolding channel_reads
returns c = refl
