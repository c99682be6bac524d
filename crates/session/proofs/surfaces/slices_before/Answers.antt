-- The invariant: the sum is that of the mips before this one. What is left behind mip 32 is one slice each.
use Rattle.std.proofs.Common.{◌≡◌, ◌+◌, ◌-◌, refl, ap, ◌∙◌, add-one, arith}
use Rattle.definition.specs.Session.{mips_before}
use Rattle.session.proofs.Counted.{slices_suc, slices_all}
use Rattle.session.proofs.surfaces.slices_before.Goals as goal

pub loop-mip-init : goal.loop-mip-init
unfolding mips_before
loop-mip-init c = (refl, omega arith)

pub loop-mip-preserved : goal.loop-mip-preserved
loop-mip-preserved c = (
  rw (add-one c.loop-mip.mip) (simp (c.loop-mip.invariant.0, c.slices_in.ensures) (slices_suc c.args.t c.loop-mip.mip c.requires)),
  omega arith,
)

pub returns : goal.returns
returns c =
    let a = c.args in
    let e : c.loop-mip.mip ≡ c.min-halved.result = omega arith in (
      ap (λ q. q + (a.n - c.min-halved.result)) (c.loop-mip.invariant.0 ∙ ap (mips_before a.t) e)
          ∙ slices_all a.t a.n c.min-halved.result c.requires (omega arith) c.min-halved.ensures,
      omega arith,
    )
