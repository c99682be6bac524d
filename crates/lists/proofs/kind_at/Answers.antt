-- The kind's number is read where the record has it.
use mathlib.Core.Path.{ap}
use Rattle.lists.proofs.Bytes.{action_read}
use Rattle.lists.proofs.kind_at.Goals as goal

pub returns : goal.returns
returns c = cc (ap (λ x. x.kind) (action_read c.args.b.now c.args.i))
