-- Each list has as many records as its count says.
use Rattle.definition.specs.Calls.{counts_valid}
use Rattle.lists.proofs.Lists.{list_length}
use Rattle.buffer_validation.proofs.LentBuffers.counts_valid.Goals as goal

pub returns : goal.returns
unfolding counts_valid
returns c = simp (c.count.ensures, c.count-2.ensures, c.count-3.ensures, list_length)
