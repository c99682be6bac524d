-- What is written stands behind what was written before.
use Rattle.std.proofs.Common.{subst, arith}
use Rattle.std.specs.Io.KnownBytes.{Appends}
use Rattle.std.proofs.KnownBytes.{Appends-trans}
use Rattle.streams.proofs.Pieces.{front_and_part}
use Rattle.streams.proofs.write_bytes.Goals as goal

pub loop-done-preserved : goal.loop-done-preserved
loop-done-preserved g c =
    let put = c.in_ok-more.ensures in
    record {
      room = omega arith;
      written =
          subst (Appends _ _) (front_and_part c.loop-done.done c.in_ok-more.more _ c.args.bytes.now put.bound)
          (Appends-trans _ _ _ _ _ c.loop-done.invariant.written put.bytes);
    }
