-- The resolved attachments of a pass: what each does to the lists, and the divergent aspect.
use Rattle.std.specs.Prelude.{Bool, false, not, ◌&&◌, ◌||◌, cond, List, [], ◌∷◌, ◌++◌, ℕ, zero, suc, Float}
use Rattle.std.specs.Bool.{beq}
use Rattle.std.proofs.Math.Option.{Option, none, some}
use Rattle.definition.specs.Formats.{has_depth, has_stencil}
use Rattle.definition.specs.Session.{Pass, Session, is_none, strict, format_of, slice_range, view_range}
use Rattle.definition.specs.Channel.{Ops, operational, keep_of, depth_resolved, stencil_resolved, resolved_ops, loads, same_load}
use Rattle.definition.specs.Check.{slot_load}
use Rattle.definition.specs.MemoryInit.{Lists, apply_plan}
use Rattle.definition.specs.declared.View.{View}
use Rattle.definition.specs.declared.Color.{Color}
use Rattle.definition.specs.declared.Slot.{Slot}
use Rattle.definition.specs.declared.Range.{Range}
use Rattle.definition.specs.declared.MemoryInitKind.{MemoryInitKind}
use Rattle.definition.specs.declared.MemoryInitKind.TheVariants.{ImplicitlyInitialized, NeedsInitializedMemory}

-- Each with its view's number and surfaces; depth-stencil with the format's aspects and the two channels.
pub data Attached : Type 0 where
  depth_stencil : (view : ℕ) (range : Range) (has_depth has_stencil : Bool) (depth : Ops Float) (stencil : Ops ℕ) → Attached
  color : (view : ℕ) (range : Range) (ops : Ops Color) → Attached
  resolve_to : (view : ℕ) (range : Range) → Attached

-- ── which a pass has: depth-stencil, then each colour and its resolve target

abbrev pub depth_ops : Session → Pass → ℕ → Ops Float
depth_ops S p f = resolved_ops (depth_resolved (has_depth f) (strict S) p.depth)

abbrev pub stencil_ops : Session → Pass → ℕ → Ops ℕ
stencil_ops S p f = resolved_ops (stencil_resolved (has_stencil f) (strict S) p.stencil)

abbrev pub depth_stencil_of : Session → Pass → View → Attached
depth_stencil_of S p v =
    depth_stencil p.depth_stencil (view_range v) (has_depth (format_of v)) (has_stencil (format_of v)) (depth_ops S p (format_of v)) (stencil_ops S p (format_of v))

unfoldable pub depth_stencil_part : Session → Pass → List Attached
depth_stencil_part S p = cond (is_none p.depth_stencil) [] (depth_stencil_of S p (S.view p.depth_stencil) ∷ [])

unfoldable pub resolve_part : Session → Slot → List Attached
resolve_part S c = cond (is_none c.resolve) [] (resolve_to c.resolve (slice_range (S.view c.resolve) 0) ∷ [])

abbrev pub color_of : Session → Slot → Attached
color_of S c = color c.view (slice_range (S.view c.view) c.slice) (operational (slot_load c) (keep_of c.store))

unfoldable pub slot_part : Session → Slot → List Attached
slot_part S c = cond (is_none c.view) [] (color_of S c ∷ resolve_part S c)

-- Of the first n slots.
unfoldable pub slot_parts : Session → Pass → ℕ → List Attached
slot_parts S p zero = []
slot_parts S p (suc n) = slot_parts S p n ++ slot_part S (p.slot n)

unfoldable pub attachments : Session → Pass → List Attached
attachments S p = depth_stencil_part S p ++ slot_parts S p p.colors

-- ── what each does

abbrev pub range_in : Attached → Range
range_in (depth_stencil v r hd hs d s) = r
range_in (color v r c) = r
range_in (resolve_to v r) = r

-- add_pass_texture_init_actions: what it registers; it lists a discard where the channel discards.
abbrev pub regular_kind : {X : Type 0} → Ops X → Option MemoryInitKind
regular_kind c = cond (loads c.load) (some NeedsInitializedMemory) (cond c.keep (some ImplicitlyInitialized) none)

-- The depth-stencil part of start: by depth alone if the format has no stencil or both channels do the same, by stencil alone if it has no depth; otherwise the two diverge.
abbrev pub by_depth : Bool → Ops Float → Ops ℕ → Bool
by_depth hs d s = not hs || same_load s.load d.load && beq s.keep d.keep

unfoldable pub depth_stencil_kind : Bool → Bool → Ops Float → Ops ℕ → Option MemoryInitKind
depth_stencil_kind hd hs d s =
    cond (by_depth hs d s) (regular_kind d)
    (cond (not hd) (regular_kind s)
    (cond (loads d.load || loads s.load) (some NeedsInitializedMemory) (cond (beq d.keep s.keep) none (some ImplicitlyInitialized))))

-- Both discarded: listed, whatever the loads.
unfoldable pub depth_stencil_discards : Bool → Bool → Ops Float → Ops ℕ → Bool
depth_stencil_discards hd hs d s =
    cond (by_depth hs d s) (not d.keep) (cond (not hd) (not s.keep) (not d.keep && not s.keep))

-- 0 none, 1 depth, 2 stencil: the one that is discarded while the other is stored.
unfoldable pub depth_stencil_divergent : Bool → Bool → Ops Float → Ops ℕ → ℕ
depth_stencil_divergent hd hs d s =
    cond (by_depth hs d s) 0 (cond (not hd) 0 (cond (beq d.keep s.keep) 0 (cond d.keep 2 1)))

abbrev pub kind_of : Attached → Option MemoryInitKind
kind_of (depth_stencil v r hd hs d s) = depth_stencil_kind hd hs d s
kind_of (color v r c) = regular_kind c
kind_of (resolve_to v r) = some ImplicitlyInitialized

abbrev pub discards : Attached → Bool
discards (depth_stencil v r hd hs d s) = depth_stencil_discards hd hs d s
discards (color v r c) = not c.keep
discards (resolve_to v r) = false

abbrev pub divergent_of : Attached → ℕ
divergent_of (depth_stencil v r hd hs d s) = depth_stencil_divergent hd hs d s
divergent_of (color v r c) = 0
divergent_of (resolve_to v r) = 0

abbrev pub attach : Attached → Lists → Lists
attach x l = apply_plan (range_in x) (kind_of x) (discards x) l

-- In order, from the lists l.
abbrev pub attach_all : List Attached → Lists → Lists
attach_all [] l = l
attach_all (x ∷ xs) l = attach_all xs (attach x l)
