-- Whether a pass is accepted, apart from the lists' lengths: numbers 5, 10 to 48 and 51, in document 01's order.
use Rattle.std.specs.Prelude.{ℕ, zero, suc, ◌+◌, ◌^◌, List, [], ◌++◌, Bool, not, ◌&&◌, ◌||◌, cond, leb, ltb, eqb}
use Rattle.definition.specs.Formats.{is_depth_stencil, has_depth, has_stencil, with_color}
use Rattle.definition.specs.Session.{Pass, Session, is_none, strict, selective_multiview, format_of, transient}
use Rattle.definition.specs.Readable.{pass_valid}
use Rattle.definition.specs.Verdict.{resolve_at, at_depth_stencil, nowhere, accepted, is_accepted, refused_at, ◌then◌, unless}
use Rattle.definition.specs.Channel.{LoadOp, load_of, keep_of, ignores, transient_ops, depth_channel, stencil_channel, transient_channel, depth_resolved, stencil_resolved, resolved_verdict}
use Rattle.definition.specs.Views.{none_seen, takes, depth_stencil_view, color_view, resolve_view, see_view}
use Rattle.definition.specs.declared.View.{View}
use Rattle.definition.specs.declared.Channel.{Channel}
use Rattle.definition.specs.declared.Color.{Color}
use Rattle.definition.specs.declared.Slot.{Slot}
use Rattle.definition.specs.declared.Seen.{Seen}
use Rattle.definition.specs.declared.Surface.{Surface}
use Rattle.definition.specs.declared.Verdict.{Verdict}
use Rattle.definition.specs.declared.Progress.{Progress}

-- ── operations: 10 to 26 (fill_arc_desc)

abbrev pub slot_load : Slot → LoadOp Color
slot_load c = load_of c.load c.clear

-- 11 and 12, of slot k.
unfoldable pub slot_ops : Session → Slot → ℕ → Verdict
slot_ops S c k =
    cond (is_none c.view) accepted
    (unless (not (ignores (slot_load c) && strict S)) 11 k
    then unless (not (transient (S.view c.view)) || transient_ops (slot_load c) (keep_of c.store)) 12 k)

-- Of the first n slots, in order.
unfoldable pub color_ops : Session → Pass → ℕ → Verdict
color_ops S p zero = accepted
color_ops S p (suc n) = color_ops S p n then slot_ops S (p.slot n) n

-- 13 to 26, of a depth-stencil view of format f: 14 to 24 only for an aspect that it has.
unfoldable pub channel_ops : Bool → Bool → ℕ → Channel → Channel → Verdict
channel_ops strict transient f d s =
    unless (is_depth_stencil f) 13 at_depth_stencil
    then cond (transient && has_depth f) (transient_channel (depth_channel d) 14 15) accepted
    then cond (transient && has_stencil f) (transient_channel (stencil_channel s) 16 17) accepted
    then resolved_verdict (depth_resolved (has_depth f) strict d)
    then resolved_verdict (stencil_resolved (has_stencil f) strict s)

unfoldable pub depth_stencil_ops : Session → Pass → Verdict
depth_stencil_ops S p =
    cond (is_none p.depth_stencil) accepted
    (channel_ops (strict S) (transient (S.view p.depth_stencil)) (format_of (S.view p.depth_stencil)) p.depth p.stencil)

-- 10 to 26.
unfoldable pub ops_verdict : Session → Pass → Verdict
ops_verdict S p =
    unless (leb p.colors S.max_colors) 10 nowhere
    then color_ops S p p.colors
    then depth_stencil_ops S p

-- ── views: 30 to 48 and 51 (RenderPassInfo::start)

abbrev pub progress : Verdict → Seen → Progress
progress v seen = record { verdict = v; seen = seen }

-- What a slot takes, and what the first k slots take.
abbrev pub resolve_takes : Session → Slot → List Surface
resolve_takes S c = cond (is_none c.resolve) [] (takes (S.view c.resolve) 0)

abbrev pub slot_takes : Session → Slot → List Surface
slot_takes S c = cond (is_none c.view) [] (resolve_takes S c ++ takes (S.view c.view) c.slice)

unfoldable pub taken_before : Session → Pass → ℕ → List Surface
taken_before S p zero = []
taken_before S p (suc k) = slot_takes S (p.slot k) ++ taken_before S p k

-- W3C "calculating color attachment bytes per sample": with a slot more; of the first n slots; and whether those of the pass are within the limit.
abbrev pub with_slot : Session → Slot → ℕ → ℕ
with_slot S c bytes = cond (is_none c.view) bytes (with_color bytes (format_of (S.view c.view)))

unfoldable pub sample_bytes : Session → Pass → ℕ → ℕ
sample_bytes S p zero = 0
sample_bytes S p (suc n) = with_slot S (p.slot n) (sample_bytes S p n)

abbrev pub bytes_fit : Session → Pass → Bool
bytes_fit S p = leb (sample_bytes S p p.colors) S.color_bytes

unfoldable pub depth_stencil_step : Session → Pass → Progress
depth_stencil_step S p =
    cond (is_none p.depth_stencil) (progress accepted none_seen)
    (progress (depth_stencil_view S (S.view p.depth_stencil)) (see_view S none_seen (S.view p.depth_stencil) at_depth_stencil))

-- The resolve target of slot k, whose colour view is v, where `taken` is taken.
unfoldable pub resolve_step : Session → Seen → List Surface → Slot → View → ℕ → Progress
resolve_step S seen taken c v k =
    cond (is_none c.resolve) (progress accepted seen)
    (progress (resolve_view S seen (takes v c.slice ++ taken) v (S.view c.resolve) (resolve_at k)) seen)

-- The colour view v of slot k, then its resolve target.
unfoldable pub color_step : Session → Seen → Bool → List Surface → Slot → View → ℕ → Progress
color_step S seen fit taken c v k =
    cond (is_accepted (color_view S seen fit taken c v k)) (resolve_step S (see_view S seen v k) taken c v k)
    (progress (color_view S seen fit taken c v k) seen)

unfoldable pub slot_step : Session → Pass → Bool → ℕ → Seen → Progress
slot_step S p fit k seen =
    cond (is_none (p.slot k).view) (progress accepted seen)
    (color_step S seen fit (taken_before S p k) (p.slot k) (S.view (p.slot k).view) k)

-- Slot k after a: nothing more once the pass is refused.
unfoldable pub next_slot : Session → Pass → Bool → ℕ → Progress → Progress
next_slot S p fit k a = cond (is_accepted a.verdict) (slot_step S p fit k a.seen) a

-- The first n slots, after a.
unfoldable pub slot_steps : Session → Pass → Bool → Progress → ℕ → Progress
slot_steps S p fit a zero = a
slot_steps S p fit a (suc n) = next_slot S p fit n (slot_steps S p fit a n)

-- 46; then 31 and 47 of the mask: its top bit is below the layers where the mask is below 2 ^ layers, and 2 ^ layers - 1 is full.
unfoldable pub mask_verdict : Session → ℕ → ℕ → Verdict
mask_verdict S mask layers =
    unless (not (eqb layers 0)) 46 nowhere
    then cond (eqb mask 0) accepted
    (unless (ltb mask (2 ^ layers)) 31 nowhere then unless (eqb (mask + 1) (2 ^ layers) || selective_multiview S) 47 nowhere)

unfoldable pub mask_step : Session → Pass → Progress → Progress
mask_step S p a = progress (a.verdict then mask_verdict S p.mask a.seen.layers) a.seen

unfoldable pub view_steps : Session → Pass → Progress
view_steps S p = mask_step S p (slot_steps S p (bytes_fit S p) (depth_stencil_step S p) p.colors)

-- 5, 10 to 48 and 51, and the extent and samples.
unfoldable pub check : Session → Pass → Progress
check S p =
    cond (pass_valid S p)
    (cond (is_accepted (ops_verdict S p)) (view_steps S p) (progress (ops_verdict S p) none_seen))
    (progress (refused_at 5 nowhere) none_seen)
