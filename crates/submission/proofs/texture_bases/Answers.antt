-- The entries so far, and the sum of the textures so far.
use native.Mathlib.Omega.{arith}
use mathlib.Core.Path.{◌≡◌, sym, ap, ◌∙◌}
use Prim.Native.Nat.{◌+◌, ◌<◌}
use Rattle.definition.specs.Session.{session, surfaces_in, surfaces_before}
use Rattle.laws.proofs.Folds.{before_none, before_turn}
use Rattle.submission.proofs.Bases.{entry_further, sum_fits}
use Rattle.submission.proofs.texture_bases.Goals as goal

-- The surfaces of the texture.
added : (c : goal.After-surfaces_in) → c.surfaces_in.result ≡ surfaces_in ((session c.args.s.now).texture c.loop-k.k)
added c = c.surfaces_in.ensures.0 ∙ ap surfaces_in c.texture_inside.ensures

pub loop-k-init : goal.loop-k-init
loop-k-init c = (sym (before_none _), λ j h. absurd (omega arith))

pub overflow_add-sum : goal.overflow_add-sum
overflow_add-sum c =
    let inside : c.loop-k.k < (session c.args.s.now).texture_count = omega arith in
    omega (arith, added c, sum_fits (session c.args.s.now) c.loop-k.k inside)

pub loop-k-preserved : goal.loop-k-preserved
loop-k-preserved c = (
  (λ q. c.loop-k.invariant.0 q + added c q) ∙ sym (before_turn (session c.args.s.now) c.loop-k.k),
  entry_further (surfaces_before (session c.args.s.now)) c.loop-k.bases c.loop-k.k _ c.loop-k.invariant.1 (omega arith) c.loop-k.invariant.0,
)
