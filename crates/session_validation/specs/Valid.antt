-- What holds of a session that is not refused, and of a pass row that can be read: facts for callers inside the project.
-- They follow from the refusal being 0 and from the row's reading (proofs/Valid).
use Rattle.std.specs.Prelude.{◌≡◌, true, false, List, ℕ, ◌≤◌, ◌<◌, length}
use Rattle.definition.specs.Sizes.{max_textures, max_views, max_passes, max_slots, max_multiviews, max_flags, max_color_bytes, max_size, max_layers, max_mips, max_usage, max_surfaces}
use Rattle.definition.specs.Formats.{is_format}
use Rattle.definition.specs.Session.{Pass, Session, session, pass_end, is_none, array_layers, surfaces_before, surface_index}
use Rattle.definition.specs.Readable.{samples_valid, channel_reads}
use Rattle.definition.specs.declared.Texture.{Texture}
use Rattle.definition.specs.declared.Slot.{Slot}
use Rattle.definition.specs.declared.Surface.{Surface}
use Rattle.laws.specs.Surfaces.{Inside}
use Rattle.laws.specs.Views.{ValidView}

pub record ValidTexture (t : Texture) : Type 0 where
  pub format : is_format t.format ≡ true
  pub dimension : (1 ≤ t.dimension) × (t.dimension ≤ 3)
  pub width : (1 ≤ t.width) × (t.width ≤ max_size)
  pub height : (1 ≤ t.height) × (t.height ≤ max_size)
  pub depth : (1 ≤ t.depth) × (t.depth ≤ max_layers)
  pub mips : (1 ≤ t.mips) × (t.mips ≤ max_mips)
  pub layers : (1 ≤ array_layers t) × (array_layers t ≤ max_layers)
  pub samples : samples_valid t.samples ≡ true
  pub usage : t.usage ≤ max_usage

pub record Valid (s : List ℕ) : Type 0 where
  pub bytes : length s ≡ pass_end s
  pub textures : (session s).texture_count ≤ max_textures
  pub views : (session s).view_count ≤ max_views
  pub passes : (session s).pass_count ≤ max_passes
  pub colors : (1 ≤ (session s).max_colors) × ((session s).max_colors ≤ max_slots)
  pub multiview : (session s).max_multiview ≤ max_multiviews
  pub flags : (session s).flags ≤ max_flags
  pub color_bytes : (1 ≤ (session s).color_bytes) × ((session s).color_bytes ≤ max_color_bytes)
  pub texture : (k : ℕ) → k < (session s).texture_count → ValidTexture ((session s).texture k)
  pub view : (k : ℕ) → k < (session s).view_count → ValidView (session s) ((session s).view k)
  pub surfaces : (n : ℕ) → n ≤ (session s).texture_count → surfaces_before (session s) n ≤ max_surfaces
  pub surface : (x : Surface) → Inside (session s) x → surface_index (session s) x < max_surfaces

-- A slot that is not empty.
pub record ValidSlot (S : Session) (c : Slot) : Type 0 where
  pub view : c.view < S.view_count
  pub sliced : c.sliced ≤ 1
  pub resolve : is_none c.resolve ≡ false → c.resolve < S.view_count
  pub load : c.load ≤ 2
  pub store : c.store ≤ 1

-- A depth-stencil part that is not empty.
pub record ValidDepthStencil (S : Session) (p : Pass) : Type 0 where
  pub view : p.depth_stencil < S.view_count
  pub depth : channel_reads p.depth ≡ true
  pub stencil : channel_reads p.stencil ≡ true

pub record ValidPass (S : Session) (p : Pass) : Type 0 where
  pub colors : p.colors ≤ max_slots
  pub ends : p.ends ≤ 1
  pub depth_stencil : is_none p.depth_stencil ≡ false → ValidDepthStencil S p
  pub slot : (k : ℕ) → k < p.colors → is_none (p.slot k).view ≡ false → ValidSlot S (p.slot k)
