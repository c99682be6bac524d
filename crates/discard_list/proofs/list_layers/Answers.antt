-- The layers that are left, behind what stands there so far, are all of them behind the first n.
use Rattle.std.proofs.Common.{ℕ, ◌+◌, ◌≤◌, ◌<◌, List, arith, [], ◌∷◌, refl}
use Rattle.definition.specs.Sizes.{surface_bytes}
use Rattle.definition.specs.Surfaces.{layers_of}
use Rattle.definition.specs.declared.Range.{Range}
use Rattle.laws.proofs.Records.{write_append}
use Rattle.laws.proofs.Surfaces.{layers_count}
use Rattle.lists.specs.Lists.{surface_of}
use Rattle.memory_init.proofs.Entries.{Appending, appending_room, appending_turn}
use Rattle.discard_list.proofs.Discards.{layers_left, layers_turn}
use Rattle.discard_list.proofs.list_layers.Goals as goal

-- The next layer has its place.
room : (r : Range) (i : ℕ) {n end : ℕ} {l₀ l : List ℕ} → i < r.layers → Appending surface_bytes surface_of n (layers_of r) l₀ (layers_left r i) l end → end + 1 ≤ n + r.layers
room r i more g = omega (arith, appending_room g (_ ∷ []) _ (layers_turn r i _ more refl), layers_count r.texture r.mip r.slice r.layer r.layers)

pub put_surface-requires : goal.put_surface-requires
put_surface-requires c = omega (arith, room c.args.range c.loop-i.i c.loop-i-test.true c.loop-i.invariant)

pub overflow_add-end : goal.overflow_add-end
overflow_add-end c = omega (arith, room c.args.range c.loop-i.i c.loop-i-test.true c.loop-i.invariant)

pub loop-i-preserved : goal.loop-i-preserved
loop-i-preserved c = appending_turn c.loop-i.invariant (layers_turn c.args.range c.loop-i.i _ c.loop-i-test.true c.layer_at.ensures) (write_append _ _ _ _ _ _ c.put_surface.ensures)
