-- A range that is not in range decides the answer.
use mathlib.Core.Path.{sym, ◌∙◌}
use native.Mathlib.Omega.{arith}
use Rattle.definition.specs.Session.{session}
use Rattle.buffer_validation.proofs.Turns.{actions_go, actions_stop}
use Rattle.buffer_validation.proofs.Textures.actions_valid.Goals as goal

pub returns-then-not-has_range : goal.returns-then-not-has_range
returns-then-not-has_range c =
    let refused = simp c.range_at.ensures at (sym c.has_range.ensures ∙ c.if-not-has_range.true) in
    sym (actions_stop (session c.args.self.now.bytes.now) c.args.b.now c.loop-i.i _ (omega (arith, c.count-n.ensures)) refused)

pub loop-i-preserved : goal.loop-i-preserved
loop-i-preserved c =
    let valid = simp c.range_at.ensures at (sym c.has_range.ensures ∙ c.if-not-has_range.false) in
    actions_go (session c.args.self.now.bytes.now) c.args.b.now c.loop-i.i c.loop-i.invariant valid
