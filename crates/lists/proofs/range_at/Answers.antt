-- The numbers of the range are read where the record has them.
use mathlib.Core.Path.{ap}
use Rattle.lists.proofs.Bytes.{action_read}
use Rattle.lists.proofs.range_at.Goals as goal

pub returns : goal.returns
returns c = cc (ap (λ x. x.range) (action_read c.args.b.now c.args.i))
