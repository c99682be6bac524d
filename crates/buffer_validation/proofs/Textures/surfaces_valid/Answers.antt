-- A surface that is not in range decides the answer.
use mathlib.Core.Path.{sym, ◌∙◌}
use native.Mathlib.Omega.{arith}
use Rattle.definition.specs.Session.{session}
use Rattle.buffer_validation.proofs.Turns.{surfaces_none, surfaces_go, surfaces_stop}
use Rattle.buffer_validation.proofs.Textures.surfaces_valid.Goals as goal

pub loop-i-init : goal.loop-i-init
loop-i-init c = surfaces_none (session c.args.self.now.bytes.now) c.args.b.now

pub returns-then-not-has : goal.returns-then-not-has
returns-then-not-has c =
    let refused = simp c.surface_at.ensures at (sym c.has.ensures ∙ c.if-not-has.true) in
    sym (surfaces_stop (session c.args.self.now.bytes.now) c.args.b.now c.loop-i.i _ (omega (arith, c.count-i-end.ensures)) refused)

pub loop-i-preserved : goal.loop-i-preserved
loop-i-preserved c =
    let valid = simp c.surface_at.ensures at (sym c.has.ensures ∙ c.if-not-has.false) in
    surfaces_go (session c.args.self.now.bytes.now) c.args.b.now c.loop-i.i c.loop-i.invariant valid
