-- Room is tested as the definition tests it; inside, the bytes are written.
use mathlib.Core.Path.{◌∙◌}
use native.Mathlib.Omega.{arith}
use Rattle.encoding.proofs.Writing.{put_four, put_nowhere}
use Rattle.encoding.proofs.put_u32.Goals as goal

pub returns-then-at-size : goal.returns-then-at-size
returns-then-at-size c = let a = c.args in c.put_u32_inside.ensures.written ∙ put_four a.s.now a.at a.n (omega arith)

pub returns-else-size-ge4 : goal.returns-else-size-ge4
returns-else-size-ge4 c = let a = c.args in put_nowhere 4 a.s.now a.at a.n (omega arith)
