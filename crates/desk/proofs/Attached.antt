-- A pass that is not refused by its row, operations or views has no more attachments than a reply has records.
use Prim.Native.Nat.{ℕ, zero, suc, ◌*◌, ◌≤◌}
use native.Mathlib.Omega.{arith}
use mathlib.Core.Path.{◌≡◌}
use mathlib.Core.Bool.{Bool, true, false, cond}
use mathlib.Core.List.{[], ◌∷◌}
use lib.ListN.{length, length-append}
use Rattle.definition.specs.Sizes.{max_attachments}
use Rattle.definition.specs.Session.{Session, Pass, is_none}
use Rattle.definition.specs.Verdict.{is_accepted}
use Rattle.definition.specs.Check.{check}
use Rattle.definition.specs.Attachments.{Attached, depth_stencil_part, resolve_part, slot_part, slot_parts, attachments}
use Rattle.definition.specs.declared.Slot.{Slot}
use Rattle.render_pass.proofs.Outcome.{few_colors}

-- What may be absent is at most one.
optional : (b : Bool) (x : Attached) → length (cond b [] (x ∷ [])) ≤ 1
optional true x = omega arith
optional false x = omega arith

-- A slot has a colour and a resolve target at most.
slot_most : (S : Session) (c : Slot) → length (slot_part S c) ≤ 2
unfolding slot_part resolve_part
slot_most S c = go (is_none c.view) (is_none c.resolve) _ _
  where
    go : (e n : Bool) (x y : Attached) → length (cond e [] (x ∷ cond n [] (y ∷ []))) ≤ 2
    go true n x y = omega arith
    go false n x y = omega (arith, optional n y)

-- The first n slots.
slots_most : (S : Session) (p : Pass) (n : ℕ) → length (slot_parts S p n) ≤ 2 * n
unfolding slot_parts
slots_most S p zero = omega arith
slots_most S p (suc n) = omega (arith, length-append (slot_parts S p n) (slot_part S (p.slot n)), slots_most S p n, slot_most S (p.slot n))

-- Depth-stencil.
part_most : (S : Session) (p : Pass) → length (depth_stencil_part S p) ≤ 1
unfolding depth_stencil_part
part_most S p = optional (is_none p.depth_stencil) _

-- All of them: the pass has no more slots than it may.
pub attachments_most : (S : Session) (p : Pass) → is_accepted (check S p).verdict ≡ true → length (attachments S p) ≤ max_attachments
unfolding attachments
attachments_most S p h =
    omega (
      arith,
      length-append (depth_stencil_part S p) (slot_parts S p p.colors),
      part_most S p,
      slots_most S p p.colors,
      few_colors S p h,
    )
