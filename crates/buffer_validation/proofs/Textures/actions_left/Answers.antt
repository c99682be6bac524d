-- A range that is of a texture that is not 3D, and in range, is in range.
use mathlib.Core.Path.{sym, ◌∙◌}
use native.Mathlib.Omega.{arith}
use Rattle.definition.specs.Session.{session}
use Rattle.laws.proofs.Tests.{and_right}
use Rattle.buffer_validation.specs.Ranges.{is_flat}
use Rattle.buffer_validation.proofs.Turns.{actions_start, actions_fewer}
use Rattle.buffer_validation.proofs.Textures.actions_left.Goals as goal

pub loop-left-init : goal.loop-left-init
loop-left-init c = (actions_start (session c.args.self.now.bytes.now) c.args.b.now c.count-n.result, omega arith)

pub loop-left-preserved : goal.loop-left-preserved
loop-left-preserved c =
    let S = session c.args.self.now.bytes.now in
    let passed = sym c.has_flat.ensures ∙ c.if-not-has_flat.false in
    let valid = simp c.range_at.ensures at (and_right (is_flat S c.range_at.result) _ passed) in
    (actions_fewer S c.args.b.now c.count-n.result c.loop-left.left (omega arith) c.loop-left.invariant.1 c.loop-left.invariant.0 valid, omega arith)
