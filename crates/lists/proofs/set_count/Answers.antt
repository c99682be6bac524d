-- The count stands in the first four bytes.
use Rattle.lists.proofs.Bytes.{counted}
use Rattle.lists.proofs.set_count.Goals as goal

pub returns : goal.returns
returns c = counted _ _ _ c.requires.0 c.requires.1 c.put_u32_inside.ensures.written
