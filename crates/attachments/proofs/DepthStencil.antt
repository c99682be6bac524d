-- The depth-stencil attachment of a pass by whether its view is none, and what the reply asks of the first attachment.
use Prim.Native.Nat.{ℕ, zero, suc}
use mathlib.Core.Path.{◌≡◌, refl, sym, ap, ◌∙◌}
use mathlib.Core.Bool.{Bool, true, false}
use mathlib.Core.List.{List, [], ◌∷◌, ◌++◌}
use lib.Ieee.{Float}
use Rattle.definition.specs.Formats.{has_depth, has_stencil}
use Rattle.definition.specs.Session.{Pass, Session, is_none, format_of, view_range}
use Rattle.definition.specs.Channel.{Ops}
use Rattle.definition.specs.Attachments.{Attached, depth_stencil, color, depth_stencil_part, slot_part, slot_parts, attachments, depth_ops, stencil_ops, divergent_of}
use Rattle.definition.specs.Pass.{of_first, depth_read_only, stencil_read_only}
use Rattle.definition.specs.declared.Range.{Range}
use Rattle.definition.specs.declared.Color.{Color}
use Rattle.definition.specs.declared.Slot.{Slot}
use Rattle.attachments.specs.declared.DepthStencilPart.{DepthStencilPart}
use Rattle.attachments.specs.Attached.{PartOf, is_depth_read_only, is_stencil_read_only, divergent_in}
use Rattle.std.specs.Prelude as code
use Rattle.std.specs.Prelude.{None, Some}

-- ── the part of a pass

pub part_absent : (S : Session) (p : Pass) (k : ℕ) → k ≡ p.depth_stencil → is_none k ≡ true → depth_stencil_part S p ≡ []
unfolding depth_stencil_part
part_absent S p k e h = simp (sym e, h)

pub part_present : (S : Session) (p : Pass) (k f : ℕ) (depth : Ops Float) (stencil : Ops ℕ)
    → k ≡ p.depth_stencil → is_none k ≡ false → f ≡ format_of (S.view k) → depth ≡ depth_ops S p f → stencil ≡ stencil_ops S p f
    → depth_stencil_part S p ≡ depth_stencil k (view_range (S.view k)) (has_depth f) (has_stencil f) depth stencil ∷ []
unfolding depth_stencil_part
part_present S p k f depth stencil ek h ef ed es = simp (sym ek, h, sym ef, ed, es)

-- ── the first attachment

first_append : {A : Type 0} (o : A) (f : Attached → A) (xs ys : List Attached) → of_first o f (xs ++ ys) ≡ of_first (of_first o f ys) f xs
first_append o f [] ys = refl
first_append o f (x ∷ xs) ys = refl

module _ {A : Type 0} (o : A) (f : Attached → A) (colors : (v : ℕ) (r : Range) (c : Ops Color) → f (color v r c) ≡ o) (S : Session) (p : Pass) where
  slot_first : (c : Slot) → of_first o f (slot_part S c) ≡ o
  unfolding slot_part
  slot_first c = go (is_none c.view) refl
    where
      go : (b : Bool) → is_none c.view ≡ b → of_first o f (slot_part S c) ≡ o
      go true e = simp e
      go false e = simp e (colors _ _ _)

  -- Colours answer as none does.
  slots_first : (n : ℕ) → of_first o f (slot_parts S p n) ≡ o
  unfolding slot_parts
  slots_first zero = refl
  slots_first (suc n) = first_append o f (slot_parts S p n) (slot_part S (p.slot n)) ∙ ap (λ q. of_first q f (slot_parts S p n)) (slot_first (p.slot n)) ∙ slots_first n

  -- So the depth-stencil attachment answers for the pass.
  pub attachments_first : of_first o f (attachments S p) ≡ of_first o f (depth_stencil_part S p)
  unfolding attachments
  attachments_first = first_append o f (depth_stencil_part S p) (slot_parts S p p.colors) ∙ ap (λ q. of_first q f (depth_stencil_part S p)) (slots_first p.colors)

module _ (S : Session) where
  depth_told : (d : code.Option DepthStencilPart) (xs : List Attached) → PartOf S d xs → is_depth_read_only d ≡ of_first false depth_read_only xs
  depth_told None xs e = sym (ap (of_first false depth_read_only) e)
  depth_told (Some d) xs a = a.2.depth ∙ sym (ap (of_first false depth_read_only) a.1)

  stencil_told : (d : code.Option DepthStencilPart) (xs : List Attached) → PartOf S d xs → is_stencil_read_only d ≡ of_first false stencil_read_only xs
  stencil_told None xs e = sym (ap (of_first false stencil_read_only) e)
  stencil_told (Some d) xs a = a.2.stencil ∙ sym (ap (of_first false stencil_read_only) a.1)

  divergent_told : (d : code.Option DepthStencilPart) (xs : List Attached) → PartOf S d xs → divergent_in d ≡ of_first 0 divergent_of xs
  divergent_told None xs e = sym (ap (of_first 0 divergent_of) e)
  divergent_told (Some d) xs a = a.2.divergent ∙ sym (ap (of_first 0 divergent_of) a.1)

  -- What the reply of an accepted pass says of its first attachment.
  module _ (d : code.Option DepthStencilPart) (p : Pass) (a : PartOf S d (depth_stencil_part S p)) where
    pub depth_first : is_depth_read_only d ≡ of_first false depth_read_only (attachments S p)
    depth_first = depth_told d _ a ∙ sym (attachments_first false depth_read_only (λ v r c. refl) S p)

    pub stencil_first : is_stencil_read_only d ≡ of_first false stencil_read_only (attachments S p)
    stencil_first = stencil_told d _ a ∙ sym (attachments_first false stencil_read_only (λ v r c. refl) S p)

    pub divergent_first : divergent_in d ≡ of_first 0 divergent_of (attachments S p)
    divergent_first = divergent_told d _ a ∙ sym (attachments_first 0 divergent_of (λ v r c. refl) S p)
