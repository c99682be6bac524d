-- Four stores in a row are those of the number's bytes.
use Rattle.encoding.proofs.Writing.{four_stores}
use Rattle.encoding.proofs.put_u32_inside.Goals as goal

pub returns-clause-written : goal.returns-clause-written
returns-clause-written c = four_stores c.to_le_bytes.result c.args.s.now c.args.at c.args.n c.to_le_bytes.ensures
