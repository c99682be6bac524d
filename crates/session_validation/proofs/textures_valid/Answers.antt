-- The invariant: each of the first k rows can be read, and the sum is the number of their surfaces.
use mathlib.Core.Path.{◌≡◌}
use native.Mathlib.Omega.{arith}
use Rattle.session_validation.proofs.Textures.{read_none, read_turn, row_refused, read_all}
use Rattle.session_validation.proofs.textures_valid.Goals as goal

pub loop-k-init : goal.loop-k-init
loop-k-init c = read_none _

pub returns-then-not-texture_valid : goal.returns-then-not-texture_valid
returns-then-not-texture_valid c =
    let h = simp c.requires.0 at c.loop-k-test.true in
    row_refused _ c.loop-k.k c.texture_inside-t.ensures c.texture_valid.ensures h c.if-not-texture_valid.true

pub overflow_add-sum : goal.overflow_add-sum
overflow_add-sum c =
    omega (arith, (read_turn _ c.loop-k.k c.texture_inside-t.ensures c.texture_valid.ensures c.loop-k.invariant c.if-not-texture_valid.false c.surfaces_in-sum.ensures.0).few)

pub loop-k-preserved : goal.loop-k-preserved
loop-k-preserved c =
    read_turn _ c.loop-k.k c.texture_inside-t.ensures c.texture_valid.ensures c.loop-k.invariant c.if-not-texture_valid.false c.surfaces_in-sum.ensures.0

pub returns : goal.returns
returns c =
    let e : c.loop-k.k ≡ c.args.n = omega arith in
    read_all _ _ (simp (e, c.requires.0) at c.loop-k.invariant)
