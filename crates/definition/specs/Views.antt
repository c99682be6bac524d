-- The checks of one view as an attachment: numbers 30 to 45 and 48.
use Rattle.std.specs.Prelude.{ℕ, List, Bool, not, ◌&&◌, ◌||◌, cond, leb, ltb, eqb}
use Rattle.definition.specs.Formats.{is_color}
use Rattle.definition.specs.Surfaces.{layers_of, meets}
use Rattle.definition.specs.Session.{Session, multiview, format_of, samples_of, width_of, height_of, depth_of, slice_range, is_d2, is_d2_array, is_d3, transient, render_attachment}
use Rattle.definition.specs.Verdict.{at_depth_stencil, nowhere, ◌then◌, unless, unless_against}
use Rattle.definition.specs.declared.View.{View}
use Rattle.definition.specs.declared.Slot.{Slot}
use Rattle.definition.specs.declared.Seen.{Seen}
use Rattle.definition.specs.declared.Surface.{Surface}
use Rattle.definition.specs.declared.Verdict.{Verdict}

abbrev pub none_seen : Seen
none_seen = record { layers = 0; width = 0; height = 0; samples = 0; last = nowhere }

abbrev pub is_first : Seen → Bool
is_first seen = eqb seen.layers 0

-- W3C "renderable texture view".
unfoldable pub renderable : View → Bool
renderable v = render_attachment v && (is_d2 v || is_d2_array v || is_d3 v) && eqb v.mips 1

abbrev pub one_layer : View → Bool
one_layer v = ltb v.layers 2

-- check_multiview: 30; then 32 and 33 for the first view, 31 for the others.
unfoldable pub multiview_verdict : Session → Seen → View → ℕ → Verdict
multiview_verdict S seen v place =
    unless (one_layer v || is_d2_array v) 30 place
    then cond (is_first seen)
    (unless (one_layer v || multiview S) 32 place then unless (one_layer v || leb v.layers S.max_multiview) 33 place)
    (unless (eqb v.layers seen.layers) 31 place)

-- add_view: 34 to 36 (W3C GPURenderPassDescriptor Valid Usage: equal extents and sample counts).
unfoldable pub view_verdict : Session → Seen → View → ℕ → Verdict
view_verdict S seen v place =
    unless (renderable v) 34 place
    then unless_against (is_first seen || eqb (width_of S v) seen.width && eqb (height_of S v) seen.height) 35 place seen.last
    then unless_against (is_first seen || eqb (samples_of S v) seen.samples) 36 place seen.last

-- 39, 38 and 40 (W3C GPURenderPassColorAttachment Valid Usage: depthSlice).
unfoldable pub slice_verdict : Session → Slot → View → ℕ → Verdict
slice_verdict S c v place =
    cond (is_d3 v)
    (unless (eqb c.sliced 1) 39 place then unless (ltb c.slice (depth_of S v)) 38 place)
    (unless (eqb c.sliced 0) 40 place)

-- What a view takes as an attachment: its surfaces.
unfoldable pub takes : View → ℕ → List Surface
takes v slice = layers_of (slice_range v slice)

-- check_attachment_overlap: 41.
unfoldable pub overlap_verdict : List Surface → View → ℕ → ℕ → Verdict
overlap_verdict taken v slice place = unless (not (meets (takes v slice) taken)) 41 place

-- A depth-stencil view: 30 to 36.
unfoldable pub depth_stencil_view : Session → View → Verdict
depth_stencil_view S v = multiview_verdict S none_seen v at_depth_stencil then view_verdict S none_seen v at_depth_stencil

-- A colour view, of a pass whose colours fit into a sample or not: 30 to 40, 51, 41.
unfoldable pub color_view : Session → Seen → Bool → List Surface → Slot → View → ℕ → Verdict
color_view S seen fit taken c v k =
    multiview_verdict S seen v k
    then view_verdict S seen v k
    then unless (is_color (format_of v)) 37 k
    then slice_verdict S c v k
    then unless fit 51 k
    then overlap_verdict taken v c.slice k

-- A resolve target r, by itself: 30 to 33, 48, 41, 34.
unfoldable pub target_view : Session → Seen → List Surface → View → ℕ → Verdict
target_view S seen taken r place =
    multiview_verdict S seen r place
    then unless (is_d2 r || is_d2_array r) 48 place
    then overlap_verdict taken r 0 place
    then unless (renderable r) 34 place

-- Beside its colour view v: 35, 42 to 45.
abbrev pub same_extent : Session → View → View → Bool
same_extent S v w = eqb (width_of S v) (width_of S w) && eqb (height_of S v) (height_of S w)

unfoldable pub target_of : Session → Seen → View → View → ℕ → Verdict
target_of S seen v r place =
    unless_against (same_extent S v r) 35 place seen.last
    then unless (not (eqb (samples_of S v) 1) && eqb (samples_of S r) 1) 42 place
    then unless (eqb (format_of v) (format_of r)) 43 place
    then unless (eqb r.resolvable 1) 44 place
    then unless (not (transient r)) 45 place

-- Both (W3C GPURenderPassColorAttachment Valid Usage: resolveTarget).
unfoldable pub resolve_view : Session → Seen → List Surface → View → View → ℕ → Verdict
resolve_view S seen taken v r place = target_view S seen taken r place then target_of S seen v r place

-- What is seen after a depth-stencil or colour view: the first fixes layers, extent and samples.
unfoldable pub see_view : Session → Seen → View → ℕ → Seen
see_view S seen v place = record {
  layers = cond (is_first seen) v.layers seen.layers;
  width = cond (is_first seen) (width_of S v) seen.width;
  height = cond (is_first seen) (height_of S v) seen.height;
  samples = cond (is_first seen) (samples_of S v) seen.samples;
  last = place;
}
