-- A session as its file gives it (document 01, "The session, from one file").
use Rattle.std.specs.Prelude.{ℕ, zero, suc, ◌+◌, ◌*◌, List, [], ◌++◌, Bool, cond, eqb}
use Rattle.definition.specs.Sizes.{header_bytes, texture_bytes, view_bytes, pass_bytes, total_length_at, slot_start, slot_bytes, no_view}
use Rattle.definition.specs.Bytes.{u32_at, f64_at, bit}
use Rattle.definition.specs.Formats.{mip_size}
use Rattle.definition.specs.Surfaces.{range_at, layers_from}
use Rattle.definition.specs.declared.Texture.{Texture}
use Rattle.definition.specs.declared.View.{View}
use Rattle.definition.specs.declared.Channel.{Channel}
use Rattle.definition.specs.declared.Color.{Color}
use Rattle.definition.specs.declared.Slot.{Slot}
use Rattle.definition.specs.declared.Surface.{Surface}
use Rattle.definition.specs.declared.Range.{Range}

pub record Pass : Type 0 where
  pub colors : ℕ
  pub mask : ℕ
  pub ends : ℕ
  pub depth_stencil : ℕ
  pub depth : Channel
  pub stencil : Channel
  pub slot : ℕ → Slot

pub record Session : Type 0 where
  pub texture_count : ℕ
  pub view_count : ℕ
  pub pass_count : ℕ
  pub max_colors : ℕ
  pub max_multiview : ℕ
  pub flags : ℕ
  pub color_bytes : ℕ
  pub texture : ℕ → Texture
  pub view : ℕ → View
  pub pass : ℕ → Pass

-- ── the header's fields

abbrev pub texture_count : List ℕ → ℕ
texture_count s = u32_at s 0

abbrev pub texture_offset : List ℕ → ℕ
texture_offset s = u32_at s 4

abbrev pub view_count : List ℕ → ℕ
view_count s = u32_at s 8

abbrev pub view_offset : List ℕ → ℕ
view_offset s = u32_at s 12

abbrev pub pass_count : List ℕ → ℕ
pass_count s = u32_at s 16

abbrev pub pass_offset : List ℕ → ℕ
pass_offset s = u32_at s 20

abbrev pub max_colors : List ℕ → ℕ
max_colors s = u32_at s 24

abbrev pub max_multiview : List ℕ → ℕ
max_multiview s = u32_at s 28

abbrev pub flags : List ℕ → ℕ
flags s = u32_at s 32

-- The limit of colour bytes per sample.
abbrev pub color_bytes : List ℕ → ℕ
color_bytes s = u32_at s 36

abbrev pub total_length : List ℕ → ℕ
total_length s = u32_at s total_length_at

-- Textures start after the header; views, then passes, follow without a gap.
abbrev pub view_start : List ℕ → ℕ
view_start s = header_bytes + texture_bytes * texture_count s

abbrev pub pass_start : List ℕ → ℕ
pass_start s = view_start s + view_bytes * view_count s

abbrev pub pass_end : List ℕ → ℕ
pass_end s = pass_start s + pass_bytes * pass_count s

-- ── rows, read where they stand

abbrev pub texture_at : List ℕ → ℕ → Texture
texture_at s at = record {
  format = u32_at s at;
  dimension = u32_at s (at + 4);
  width = u32_at s (at + 8);
  height = u32_at s (at + 12);
  depth = u32_at s (at + 16);
  mips = u32_at s (at + 20);
  samples = u32_at s (at + 24);
  usage = u32_at s (at + 28);
}

abbrev pub view_at : List ℕ → ℕ → View
view_at s at = record {
  texture = u32_at s at;
  dimension = u32_at s (at + 4);
  mip = u32_at s (at + 8);
  mips = u32_at s (at + 12);
  layer = u32_at s (at + 16);
  layers = u32_at s (at + 20);
  usage = u32_at s (at + 24);
  resolvable = u32_at s (at + 28);
  format = u32_at s (at + 32);
}

abbrev pub channel_at : List ℕ → ℕ → Channel
channel_at s at = record {
  load = u32_at s at;
  store = u32_at s (at + 4);
  readonly = u32_at s (at + 8);
  given = u32_at s (at + 12);
  clear = u32_at s (at + 16);
}

abbrev pub color_at : List ℕ → ℕ → Color
color_at s at = record { red = f64_at s at; green = f64_at s (at + 8); blue = f64_at s (at + 16); alpha = f64_at s (at + 24) }

abbrev pub slot_at : List ℕ → ℕ → Slot
slot_at s at = record {
  view = u32_at s at;
  sliced = u32_at s (at + 4);
  slice = u32_at s (at + 8);
  resolve = u32_at s (at + 12);
  load = u32_at s (at + 16);
  store = u32_at s (at + 20);
  clear = color_at s (at + 24);
}

abbrev pub pass_at : List ℕ → ℕ → Pass
pass_at s at = record {
  colors = u32_at s at;
  mask = u32_at s (at + 4);
  ends = u32_at s (at + 8);
  depth_stencil = u32_at s (at + 12);
  depth = channel_at s (at + 16);
  stencil = channel_at s (at + 36);
  slot = λ k. slot_at s (at + slot_start + slot_bytes * k);
}

unfoldable pub session : List ℕ → Session
session s = record {
  texture_count = texture_count s;
  view_count = view_count s;
  pass_count = pass_count s;
  max_colors = max_colors s;
  max_multiview = max_multiview s;
  flags = flags s;
  color_bytes = color_bytes s;
  texture = λ k. texture_at s (header_bytes + texture_bytes * k);
  view = λ k. view_at s (view_start s + view_bytes * k);
  pass = λ k. pass_at s (pass_start s + pass_bytes * k);
}

-- ── what is derived from the rows

abbrev pub is_none : ℕ → Bool
is_none v = eqb v no_view

-- The four flags.
abbrev pub strict : Session → Bool
strict S = bit S.flags 0

abbrev pub multiview : Session → Bool
multiview S = bit S.flags 1

abbrev pub selective_multiview : Session → Bool
selective_multiview S = bit S.flags 2

abbrev pub read_only_depth_stencil : Session → Bool
read_only_depth_stencil S = bit S.flags 3

-- W3C "array layer count": a 3D texture has one layer.
unfoldable pub array_layers : Texture → ℕ
array_layers t = cond (eqb t.dimension 3) 1 t.depth

-- The slices of a mip: a 3D texture's mip depth, else one.
unfoldable pub slices_in : Texture → ℕ → ℕ
slices_in t m = cond (eqb t.dimension 3) (mip_size t.depth m) 1

-- The number of surfaces of the mips before n, and of all.
unfoldable pub mips_before : Texture → ℕ → ℕ
mips_before t zero = 0
mips_before t (suc n) = mips_before t n + slices_in t n * array_layers t

abbrev pub surfaces_in : Texture → ℕ
surfaces_in t = mips_before t t.mips

-- The number of surfaces of the textures before k.
unfoldable pub surfaces_before : Session → ℕ → ℕ
surfaces_before S zero = 0
surfaces_before S (suc k) = surfaces_before S k + surfaces_in (S.texture k)

abbrev pub surface_count : Session → ℕ
surface_count S = surfaces_before S S.texture_count

-- A surface's place among those of its texture, by mip and slice or layer; and among the status bytes.
abbrev pub surface_offset : Texture → Surface → ℕ
surface_offset t s = mips_before t s.mip + (s.slice * array_layers t + s.layer)

abbrev pub surface_index : Session → Surface → ℕ
surface_index S s = surfaces_before S s.texture + surface_offset (S.texture s.texture) s

-- All surfaces in that order: those of a mip's first n slices of so many layers each, of a texture's first n mips, and of the first n textures.
abbrev pub slice_surfaces : ℕ → ℕ → ℕ → ℕ → List Surface
slice_surfaces t m layers zero = []
slice_surfaces t m layers (suc n) = slice_surfaces t m layers n ++ layers_from t m n 0 layers

abbrev pub mip_surfaces : Texture → ℕ → ℕ → List Surface
mip_surfaces x t zero = []
mip_surfaces x t (suc n) = mip_surfaces x t n ++ slice_surfaces t n (array_layers x) (slices_in x n)

abbrev pub texture_surfaces : Session → ℕ → List Surface
texture_surfaces S zero = []
texture_surfaces S (suc n) = texture_surfaces S n ++ mip_surfaces (S.texture n) n (S.texture n).mips

abbrev pub surfaces_of : Session → List Surface
surfaces_of S = texture_surfaces S S.texture_count

-- The format that a view shows its texture in, and the texture's own, which its memory goes by.
abbrev pub format_of : View → ℕ
format_of v = v.format

abbrev pub texture_format : Session → View → ℕ
texture_format S v = (S.texture v.texture).format

-- What a view takes from its texture.
abbrev pub samples_of : Session → View → ℕ
samples_of S v = (S.texture v.texture).samples

abbrev pub width_of : Session → View → ℕ
width_of S v = mip_size (S.texture v.texture).width v.mip

abbrev pub height_of : Session → View → ℕ
height_of S v = mip_size (S.texture v.texture).height v.mip

abbrev pub depth_of : Session → View → ℕ
depth_of S v = mip_size (S.texture v.texture).depth v.mip

-- The view dimensions that the checks ask for.
abbrev pub is_d2 : View → Bool
is_d2 v = eqb v.dimension 2

abbrev pub is_d2_array : View → Bool
is_d2_array v = eqb v.dimension 3

abbrev pub is_d3 : View → Bool
is_d3 v = eqb v.dimension 6

-- What a view has at a slice; and as an attachment, where the slice counts for a D3 view alone.
abbrev pub range_of : View → ℕ → Range
range_of v slice = range_at v.texture v.mip v.mips v.layer v.layers slice

abbrev pub attached_slice : View → ℕ → ℕ
attached_slice v slice = cond (is_d3 v) slice 0

abbrev pub slice_range : View → ℕ → Range
slice_range v slice = range_of v (attached_slice v slice)

abbrev pub view_range : View → Range
view_range v = range_of v 0

-- The usage bits 4, 16 and 32 (W3C GPUTextureUsage TEXTURE_BINDING, RENDER_ATTACHMENT, TRANSIENT_ATTACHMENT).
abbrev pub texture_binding : View → Bool
texture_binding v = bit v.usage 2

abbrev pub render_attachment : View → Bool
render_attachment v = bit v.usage 4

abbrev pub transient : View → Bool
transient v = bit v.usage 5
