-- What is read stands behind what was read before.
use Rattle.std.proofs.Common.{◌++◌, take, arith, length-append}
use Rattle.std.proofs.KnownBytes.{Consumes-trans}
use Rattle.streams.proofs.read_rest.Goals as goal

pub loop-space-preserved : goal.loop-space-preserved
loop-space-preserved g c =
    let (bs, counted, read) = c.loop-space.invariant.read in
    let next = take c.in_ok-more.more c.read.new.buf in
    record {
      grown = omega arith;
      read = (bs ++ next, omega (arith, counted, length-append bs next, c.in_ok-more.ensures.bound.1), Consumes-trans _ _ _ bs next read c.in_ok-more.ensures.bytes.0);
    }
