-- Which files are sessions, and which pass rows can be read: numbers 1 to 5 of document 01's table.
use Rattle.std.specs.Prelude.{ℕ, zero, suc, ◌+◌, List, Bool, true, false, not, ◌&&◌, ◌||◌, cond, length, leb, ltb, eqb}
use Rattle.definition.specs.Sizes.{header_bytes, max_textures, max_views, max_passes, max_slots, max_multiviews, max_flags, max_color_bytes, max_size, max_layers, max_mips, max_usage, max_surfaces}
use Rattle.definition.specs.Bytes.{bit}
use Rattle.definition.specs.Formats.{is_color, is_format, remove_srgb_suffix}
use Rattle.definition.specs.Verdict.{nowhere, ◌then◌, unless}
use Rattle.definition.specs.Session.{Pass, Session, session, is_none, array_layers, surface_count, format_of, texture_count, texture_offset, view_count, view_offset, pass_count, pass_offset, max_colors, max_multiview, flags, color_bytes, total_length, view_start, pass_start, pass_end}
use Rattle.definition.specs.declared.Verdict.{Verdict}
use Rattle.definition.specs.declared.Texture.{Texture}
use Rattle.definition.specs.declared.View.{View}
use Rattle.definition.specs.declared.Channel.{Channel}
use Rattle.definition.specs.declared.Slot.{Slot}

unfoldable pub between : ℕ → ℕ → ℕ → Bool
between low high n = leb low n && leb n high

-- 1.
unfoldable pub length_valid : List ℕ → Bool
length_valid s = leb header_bytes (length s) && eqb (total_length s) (length s)

-- 2.
unfoldable pub header_valid : List ℕ → Bool
header_valid s =
    leb (texture_count s) max_textures && eqb (texture_offset s) header_bytes
    && leb (view_count s) max_views && eqb (view_offset s) (view_start s)
    && leb (pass_count s) max_passes && eqb (pass_offset s) (pass_start s)
    && between 1 max_slots (max_colors s) && leb (max_multiview s) max_multiviews && leb (flags s) max_flags && between 1 max_color_bytes (color_bytes s)
    && eqb (pass_end s) (total_length s)

unfoldable pub samples_valid : ℕ → Bool
samples_valid n = eqb n 1 || eqb n 2 || eqb n 4 || eqb n 8 || eqb n 16

-- A depth-stencil format needs dimension 2.
unfoldable pub texture_valid : Texture → Bool
texture_valid t =
    is_format t.format && between 1 3 t.dimension && (is_color t.format || eqb t.dimension 2)
    && between 1 max_size t.width && between 1 max_size t.height && between 1 max_layers t.depth
    && between 1 max_mips t.mips && samples_valid t.samples && leb t.usage max_usage

-- 3: each of the first n textures; and all their surfaces.
unfoldable pub textures_read : Session → ℕ → Bool
textures_read S zero = true
textures_read S (suc n) = textures_read S n && texture_valid (S.texture n)

unfoldable pub textures_valid : Session → Bool
textures_valid S = textures_read S S.texture_count && leb (surface_count S) max_surfaces

-- Each of the first n bits of a is one of b.
unfoldable pub bits_below : ℕ → ℕ → ℕ → Bool
bits_below a b zero = true
bits_below a b (suc n) = bits_below a b n && (not (bit a n) || bit b n)

-- The usage bits of a are among those of b.
unfoldable pub usage_among : ℕ → ℕ → Bool
usage_among a b = leb a max_usage && bits_below a b 6

-- D1 goes with a 1D texture, D3 with a 3D one, the others with 2D ones.
unfoldable pub dimension_fits : ℕ → ℕ → Bool
dimension_fits v t = eqb v 1 && eqb t 1 || eqb v 6 && eqb t 3 || between 2 5 v && eqb t 2

-- W3C "texture view format compatible": the formats are equal, or differ in the sRGB suffix alone.
unfoldable pub format_fits : ℕ → ℕ → Bool
format_fits v t = eqb (remove_srgb_suffix v) (remove_srgb_suffix t)

-- W3C "texture view creation": ranges are non-empty and inside the texture.
unfoldable pub view_in_texture : Texture → View → Bool
view_in_texture t v =
    dimension_fits v.dimension t.dimension
    && leb 1 v.mips && leb (v.mip + v.mips) t.mips
    && leb 1 v.layers && leb (v.layer + v.layers) (array_layers t)
    && usage_among v.usage t.usage && leb v.resolvable 1 && format_fits (format_of v) t.format

unfoldable pub view_valid : Session → View → Bool
view_valid S v = ltb v.texture S.texture_count && view_in_texture (S.texture v.texture) v

-- 4: each of the first n views.
unfoldable pub first_views_valid : Session → ℕ → Bool
first_views_valid S zero = true
first_views_valid S (suc n) = first_views_valid S n && view_valid S (S.view n)

abbrev pub views_valid : Session → Bool
views_valid S = first_views_valid S S.view_count

-- The session's refusal: 1 to 4.
unfoldable pub session_verdict : List ℕ → Verdict
session_verdict s =
    unless (length_valid s) 1 nowhere
    then unless (header_valid s) 2 nowhere
    then unless (textures_valid (session s)) 3 nowhere
    then unless (views_valid (session s)) 4 nowhere

-- Its number: 0 for none.
abbrev pub session_refusal : List ℕ → ℕ
session_refusal s = (session_verdict s).number

-- ── a pass row

unfoldable pub channel_reads : Channel → Bool
channel_reads c = leb c.load 3 && leb c.store 2 && leb c.readonly 1 && leb c.given 1

-- The rest of an empty part is not examined.
unfoldable pub depth_stencil_reads : Session → Pass → Bool
depth_stencil_reads S p =
    is_none p.depth_stencil || ltb p.depth_stencil S.view_count && channel_reads p.depth && channel_reads p.stencil

unfoldable pub resolve_reads : Session → ℕ → Bool
resolve_reads S v = is_none v || ltb v S.view_count

unfoldable pub slot_reads : Session → Slot → Bool
slot_reads S c =
    is_none c.view
    || ltb c.view S.view_count && leb c.sliced 1 && resolve_reads S c.resolve && leb c.load 2 && leb c.store 1

-- Each of the first n slots.
unfoldable pub slots_read : Session → Pass → ℕ → Bool
slots_read S p zero = true
slots_read S p (suc n) = slots_read S p n && slot_reads S (p.slot n)

-- 5. Slots from the colour count on are not examined.
unfoldable pub pass_valid : Session → Pass → Bool
pass_valid S p =
    cond (leb p.colors max_slots) (leb p.ends 1 && depth_stencil_reads S p && slots_read S p p.colors)
    false
