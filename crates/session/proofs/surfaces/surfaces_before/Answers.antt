-- The invariant: the sum is the count of the first k textures, stopped at one past the most surfaces.
use Rattle.std.proofs.Common.{refl, add-one, arith}
use Rattle.definition.specs.Session.{surfaces_before}
use Rattle.session.specs.Counted.{surfaces_up_to}
use Rattle.session.proofs.Counted.{up_to_suc}
use Rattle.session.proofs.surfaces.surfaces_before.Goals as goal

pub loop-k-init : goal.loop-k-init
unfolding surfaces_up_to surfaces_before
loop-k-init c = (refl, omega arith)

pub loop-k-preserved : goal.loop-k-preserved
loop-k-preserved c =
    (rw add-one (simp (c.min-sum.ensures, c.surfaces_in.ensures.0, c.texture.ensures, c.loop-k.invariant.0, up_to_suc)), omega arith)
