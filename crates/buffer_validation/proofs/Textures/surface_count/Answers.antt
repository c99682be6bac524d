-- The session has no more surfaces than it may, so that no sum is too large.
use mathlib.Core.Path.{sym, ap}
use Prim.Native.Nat.{◌+◌}
use native.Mathlib.Omega.{arith}
use Rattle.definition.specs.Session.{session, surfaces_in}
use Rattle.laws.proofs.Folds.{before_none, before_turn, before_grows}
use Rattle.buffer_validation.proofs.Textures.surface_count.Goals as goal

pub loop-k-init : goal.loop-k-init
loop-k-init c = sym (before_none _)

pub overflow_add-sum : goal.overflow_add-sum
overflow_add-sum c =
    let S = session c.args.self.now.bytes.now in
    let e = sym (before_turn S c.loop-k.k) in
    omega (arith, c.surfaces_in-sum.ensures.0, ap surfaces_in c.texture_inside.ensures, c.loop-k.invariant, e, before_grows S (c.loop-k.k + 1) S.texture_count (omega (arith, c.args.self.now.counted)), c.requires)

pub loop-k-preserved : goal.loop-k-preserved
loop-k-preserved c = simp (c.surfaces_in-sum.ensures.0, c.texture_inside.ensures, c.loop-k.invariant, before_turn)
