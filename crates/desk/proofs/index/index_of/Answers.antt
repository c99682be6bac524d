-- The parts of the place, each what its call promises; no surface before it is cut off.
use native.Mathlib.Omega.{arith}
use mathlib.Core.Path.{◌≡◌, ap, ◌∙◌}
use Prim.Native.Nat.{ℕ, ◌+◌, ◌≤◌}
use Rattle.definition.specs.Sizes.{max_surfaces}
use Rattle.definition.specs.Session.{Session, session, surface_count, surface_index, surface_offset}
use Rattle.definition.specs.declared.Surface.{Surface}
use Rattle.definition.specs.declared.Texture.{Texture}
use Rattle.laws.specs.Surfaces.{Inside}
use Rattle.laws.proofs.Places.{place_counted}
use Rattle.session.specs.Counted.{surfaces_up_to}
use Rattle.session.proofs.Counted.{up_to_is}
use Rattle.submission.proofs.Bases.{index_of, offset_fits}
use Rattle.desk.proofs.index.index_of.Goals as goal

-- The sum of the parts is the place.
placed : (S : Session) (x : Surface) {b o : ℕ} {t : Texture} → Inside S x → surface_count S ≤ max_surfaces
    → b ≡ surfaces_up_to S x.texture → t ≡ S.texture x.texture → o ≡ surface_offset t x → b + o ≡ surface_index S x
placed S x ok few eb et eo =
    index_of S x _ _ (eb ∙ up_to_is S x.texture (omega (arith, place_counted S x ok, few))) (eo ∙ ap (λ t. surface_offset t x) et)

pub surface_offset-offset-requires : goal.surface_offset-offset-requires
surface_offset-offset-requires c =
    offset_fits (session c.args.s.now) c.args.x _ c.texture.ensures c.requires.0 c.requires.1

-- The sum is small, since it is the place.
pub overflow_add-result : goal.overflow_add-result
overflow_add-result c =
    let S = session c.args.s.now in
    omega (arith, placed S c.args.x c.requires.0 c.requires.1 c.surfaces_before-before.ensures.0 c.texture.ensures c.surface_offset-offset.ensures, place_counted S c.args.x c.requires.0, c.requires.1)

pub overflow_cast-result : goal.overflow_cast-result
overflow_cast-result c =
    let S = session c.args.s.now in
    omega (arith, placed S c.args.x c.requires.0 c.requires.1 c.surfaces_before-before.ensures.0 c.texture.ensures c.surface_offset-offset.ensures, place_counted S c.args.x c.requires.0, c.requires.1)

pub returns : goal.returns
returns c = placed (session c.args.s.now) c.args.x c.requires.0 c.requires.1 c.surfaces_before-before.ensures.0 c.texture.ensures c.surface_offset-offset.ensures
