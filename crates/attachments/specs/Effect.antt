-- The effect of operations on the memory of their attachment: the action that they register, whether they list a discard, and the aspect that diverges.
use Rattle.std.specs.Prelude as code
use Rattle.std.specs.Prelude.{ℕ, ◌≡◌, Bool, not, ◌&&◌, ◌||◌, cond, Float, None, Some}
use Rattle.std.specs.Bool.{beq}
use Rattle.std.proofs.Math.Option.{Option, none, some}
use Rattle.definition.specs.Channel.{Ops, loads, same_load}
use Rattle.definition.specs.Attachments.{regular_kind, depth_stencil_kind, depth_stencil_discards, depth_stencil_divergent}
use Rattle.definition.specs.declared.MemoryInitKind.{MemoryInitKind}
use Rattle.definition.specs.declared.MemoryInitKind.TheVariants.{ImplicitlyInitialized, NeedsInitializedMemory}
use Rattle.memory_init.specs.Plans.{init_kind}
use Rattle.attachments.specs.declared.effect.Effect.{Effect}
use Rattle.attachments.specs.declared.effect.Aspect.{Aspect}
use Rattle.attachments.specs.declared.effect.Aspect.TheVariants.{Depth, Stencil}

-- The number of a divergent aspect, or 0.
abbrev pub aspect_in : code.Option Aspect → ℕ
aspect_in None = 0
aspect_in (Some Depth) = 1
aspect_in (Some Stencil) = 2

abbrev pub has_effect : Effect → Option MemoryInitKind → Bool → ℕ → Type 0
has_effect p kind discards divergent = (init_kind p.kind ≡ kind) × (p.discards ≡ discards) × (aspect_in p.divergent ≡ divergent)

-- The kind that operations register, by whether they load and store.
abbrev pub kind_by : Bool → Bool → Option MemoryInitKind
kind_by loads keep = cond loads (some NeedsInitializedMemory) (cond keep (some ImplicitlyInitialized) none)

-- One channel alone.
abbrev pub regular_effect : {X : Type 0} → Effect → Ops X → Type 0
regular_effect p c = has_effect p (regular_kind c) (not c.keep) 0

-- Whether the first of two channels decides for both: there is no second, or both load and store alike.
abbrev pub by_first : {X Y : Type 0} → Bool → Ops X → Ops Y → Bool
by_first both d s = not both || same_load s.load d.load && beq s.keep d.keep

-- Two that do not do the same.
abbrev pub diverged_kind : {X Y : Type 0} → Ops X → Ops Y → Option MemoryInitKind
diverged_kind d s =
    cond (loads d.load || loads s.load) (some NeedsInitializedMemory) (cond (beq d.keep s.keep) none (some ImplicitlyInitialized))

-- The aspect that is not stored where the other is, by whether each is.
abbrev pub aspect_by : Bool → Bool → ℕ
aspect_by d s = cond (beq d s) 0 (cond d 2 1)

abbrev pub diverged_aspect : {X Y : Type 0} → Ops X → Ops Y → ℕ
diverged_aspect d s = aspect_by d.keep s.keep

abbrev pub diverged_effect : {X Y : Type 0} → Effect → Ops X → Ops Y → Type 0
diverged_effect p d s = has_effect p (diverged_kind d s) (not d.keep && not s.keep) (diverged_aspect d s)

-- Depth and stencil, for the aspects of the format.
abbrev pub depth_stencil_effect : Effect → Bool → Bool → Ops Float → Ops ℕ → Type 0
depth_stencil_effect p hd hs d s = has_effect p (depth_stencil_kind hd hs d s) (depth_stencil_discards hd hs d s) (depth_stencil_divergent hd hs d s)

-- The usage of a depth-stencil attachment, by its channels, the feature and the view's usage.
abbrev pub usage_by : Bool → Bool → Bool → Bool → ℕ
usage_by d s feature binding = cond (d && s && feature) (cond binding 3 2) 4
