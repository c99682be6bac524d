-- What is read stands behind what was read before.
use Rattle.std.proofs.Common.{subst, arith}
use Rattle.std.specs.Io.KnownBytes.{Consumes}
use Rattle.std.proofs.KnownBytes.{Consumes-trans}
use Rattle.streams.proofs.Pieces.{front_and_next}
use Rattle.streams.proofs.read_head.Goals as goal

pub loop-at-preserved : goal.loop-at-preserved
loop-at-preserved g c =
    let read = c.in_ok-more.ensures in
    record {
      room = omega arith;
      same = omega arith;
      read =
          subst (Consumes _ _) (front_and_next _ c.in_ok-more.more c.loop-at.buf _ read.front) (Consumes-trans _ _ _ _ _ c.loop-at.invariant.read read.ok);
    }
