-- The bytes are copied into the middle of the buffer.
use mathlib.Core.Path.{refl}
use native.Mathlib.Omega.{arith}
use Rattle.report.proofs.Put.{put_middle, put_length}
use Rattle.report.proofs.text.Text.push.Goals as goal

pub returns : goal.returns
returns c =
    let a = c.args in
    let put = put_middle a.self.now.buffer.now a.bytes.now c.copy_from_slice.new.self a.self.now.end (omega arith) c.copy_from_slice.ensures.after in
    record { put = put; same_length = put_length put; same_reference = refl }
