-- A mip more.
use Rattle.definition.specs.Session.{session}
use Rattle.submission.proofs.Sweeps.{mips_none, mips_further}
use Rattle.submission.proofs.Layout.act.Goals as goal

pub loop-m-init : goal.loop-m-init
loop-m-init c = mips_none (session c.args.self.now.bytes.now) c.args.range c.requires.range c.args.kind c.args.status.now

pub loop-m-preserved : goal.loop-m-preserved
loop-m-preserved c =
    mips_further (session c.args.self.now.bytes.now) c.args.range c.requires.range c.args.kind c.loop-m.m c.args.status.now c.loop-m.status _ c.loop-m.invariant c.act_mip.ensures
