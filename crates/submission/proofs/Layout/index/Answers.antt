-- The parts of the place, each what its call promises.
use native.Mathlib.Omega.{arith}
use mathlib.Core.Path.{ap, ◌∙◌}
use Rattle.definition.specs.Session.{session, surface_offset}
use Rattle.laws.proofs.Places.{place_counted}
use Rattle.submission.proofs.Bases.{index_of, offset_fits}
use Rattle.submission.proofs.Layout.index.Goals as goal

pub surface_offset-offset-requires : goal.surface_offset-offset-requires
surface_offset-offset-requires c =
    offset_fits (session c.args.self.now.bytes.now) c.args.x _ c.texture_inside.ensures c.requires c.args.self.now.few

-- The sum is the place.
pub overflow_add-result : goal.overflow_add-result
overflow_add-result c =
    let S = session c.args.self.now.bytes.now in
    let x = c.args.x in
    let sum = index_of S x _ _ (c.args.self.now.before x.texture c.requires.texture) (c.surface_offset-offset.ensures ∙ ap (λ t. surface_offset t x) c.texture_inside.ensures) in
    omega (arith, sum, place_counted S x c.requires, c.args.self.now.few)
