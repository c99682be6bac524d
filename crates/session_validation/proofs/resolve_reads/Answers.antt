-- What the calls promise, put together as the definition puts it together.
use Rattle.definition.specs.Readable.{resolve_reads}
use Rattle.session_validation.proofs.resolve_reads.Goals as goal

pub returns : goal.returns
unfolding resolve_reads
returns c = simp (c.view_count.ensures, c.is_none.ensures)
