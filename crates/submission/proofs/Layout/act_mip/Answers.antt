-- The layers of the mip are a run of bytes from the first one's place on.
use native.Mathlib.Omega.{arith}
use mathlib.Core.Path.{refl, ◌∙◌}
use borrow.Author.Rules.{rules}
use Rattle.definition.specs.Session.{session}
use Rattle.definition.specs.Status.{act_byte}
use Rattle.submission.proofs.Sweeps.{first_inside, mip_fits, run_fits, mip_sweeps}
use Rattle.submission.proofs.Layout.act_mip.Goals as goal

pub overflow_add-range : goal.overflow_add-range
overflow_add-range c = omega (arith, mip_fits (session c.args.self.now.bytes.now) c.args.range c.requires.range c.args.m c.requires.mip, c.args.self.now.few)

pub index-first-requires : goal.index-first-requires
index-first-requires c = first_inside (session c.args.self.now.bytes.now) c.args.range c.requires.range c.args.m c.requires.mip

pub update-requires-clause-room : goal.update-requires-clause-room
update-requires-clause-room c =
    omega (arith, c.index-first.ensures, run_fits (session c.args.self.now.bytes.now) c.args.range c.requires.range c.args.m c.requires.mip, c.requires.status)

pub returns : goal.returns
returns c =
    c.update.ensures (act_byte c.args.kind) (λ b x p. search rules)
    ∙ mip_sweeps (session c.args.self.now.bytes.now) c.args.range c.requires.range c.args.kind c.args.m _ _ c.args.status.now c.requires.mip c.requires.status c.index-first.ensures refl
