-- Whole sessions and what `deskcheck` prints of them, computed. The answers are document 01's, or worked out by hand as each comment shows.
use Rattle.std.specs.Prelude.{ℕ, ◌≡◌, refl, List, [], ◌∷◌, ◌++◌, map, Bool, true, false, length, replicate}
use Rattle.definition.specs.Sizes.{no_view}
use Rattle.definition.specs.Formats.{with_color}
use Rattle.definition.specs.Surfaces.{surface_at, range_at}
use Rattle.definition.specs.Session.{session, surface_count, surface_index}
use Rattle.definition.specs.Verdict.{refused_at}
use Rattle.definition.specs.Calls.{no_entries, surface_valid, range_valid, lent_valid, pass_call}
use Rattle.definition.specs.declared.Surface.{Surface}
use Rattle.definition.specs.declared.Range.{Range}
use Rattle.definition.specs.declared.MemoryInitKind.TheVariants.{NeedsInitializedMemory}
use Rattle.definition.specs.Program.{deskcheck}
use Rattle.definition.specs.Computing.{computing}
use Rattle.definition.specs.Files.{texture, view, shown_as, channel, absent, slice_slot, slot, empty_slot, pass_of, colors, depth_stencil, limited_file, file}

-- An accepted pass of size n × n: clears returned, discards listed. A refused one: number, place, earlier place, discards as found.
abbrev accepted : (pass n samples clears discards : ℕ) → List ℕ
accepted pass n samples clears discards = pass ∷ 0 ∷ 17 ∷ 17 ∷ n ∷ n ∷ samples ∷ clears ∷ discards ∷ []

abbrev refused : (pass number place earlier discards : ℕ) → List ℕ
refused pass number place earlier discards = pass ∷ number ∷ place ∷ earlier ∷ 0 ∷ 0 ∷ 0 ∷ 0 ∷ discards ∷ []

-- The small example, of 1120 bytes: Clear with Discard, then Load with Store, in one buffer.
abbrev pub example : List ℕ
example = file 8 0 0 (texture 3 2 4 1 1 1 16 ∷ []) (view 0 2 1 1 16 0 ∷ []) (colors (slot 0 1 1 ∷ []) ∷ colors (slot 0 0 0 ∷ []) ∷ [])

example_length : length example ≡ 1120
example_length = refl

printed : deskcheck example ≡ ((0 ∷ 0 ∷ 17 ∷ 17 ∷ 4 ∷ 4 ∷ 1 ∷ 0 ∷ 1 ∷ []) ∷ (1 ∷ 0 ∷ 17 ∷ 17 ∷ 4 ∷ 4 ∷ 1 ∷ 1 ∷ 0 ∷ []) ∷ [])
unfolding computing
printed = refl

-- Every expected answer, as one list of sessions and one of their lines.
abbrev all : List (List ℕ) → List (List (List ℕ))
all [] = []
all (s ∷ rest) = deskcheck s ∷ all rest

-- Each pass as the only one of a session, after the same header, textures and views: its line.
abbrev alone : (List (List ℕ) → List ℕ) → List (List ℕ) → List (List ℕ)
alone whole [] = []
alone whole (p ∷ rest) = deskcheck (whole (p ∷ [])) ++ alone whole rest

-- A colour texture of 4 × 4 pixels and one sample, and a view of the whole of a one-layer texture t.
abbrev plain : List ℕ
plain = texture 3 2 4 1 1 1 16

abbrev whole : ℕ → List ℕ
whole t = view t 2 1 1 16 0

-- 1: an empty file. 2: 65 textures; a limit of 0 and of 129 bytes. 3: three samples. 4: two layers of one. And a session without passes prints nothing.
refused_sessions : all (
    []
    ∷ file 8 0 0 (replicate 65 plain) [] []
    ∷ limited_file 8 0 0 0 [] [] []
    ∷ limited_file 8 0 0 129 [] [] []
    ∷ file 8 0 0 (texture 3 2 4 1 1 3 16 ∷ []) [] []
    ∷ file 8 0 0 (plain ∷ []) (view 0 3 1 2 16 0 ∷ []) []
    ∷ file 8 0 0 (plain ∷ []) (whole 0 ∷ []) []
    ∷ [])
    ≡ (((1 ∷ []) ∷ []) ∷ ((2 ∷ []) ∷ []) ∷ ((2 ∷ []) ∷ []) ∷ ((2 ∷ []) ∷ []) ∷ ((3 ∷ []) ∷ []) ∷ ((4 ∷ []) ∷ []) ∷ [] ∷ [])
unfolding computing
refused_sessions = refl

-- Strict, at most four colours; texture 1 is transient. Load 7 is a 5; five slots a 10, empty or not; DontCare an 11 at slot 0; Clear with Store of the
-- transient view in slot 1 a 12; Clear with Discard of it is accepted and listed.
color_operations : alone (file 4 0 1 (plain ∷ texture 3 2 4 1 1 1 48 ∷ []) (whole 0 ∷ view 1 2 1 1 48 0 ∷ []))
    (colors (slot 0 7 0 ∷ [])
    ∷ colors (empty_slot ∷ empty_slot ∷ empty_slot ∷ empty_slot ∷ empty_slot ∷ [])
    ∷ colors (slot 0 2 0 ∷ [])
    ∷ colors (empty_slot ∷ slot 1 1 0 ∷ [])
    ∷ colors (slot 1 1 1 ∷ [])
    ∷ [])
    ≡ (refused 0 5 17 17 0 ∷ refused 0 10 17 17 0 ∷ refused 0 11 0 17 0 ∷ refused 0 12 1 17 0 ∷ accepted 0 4 1 0 1 ∷ [])
unfolding computing
color_operations = refl

-- View 0 is of a colour format (13). View 1 is transient: depth Load with Discard (14), depth read-only without operations (15), stencil Clear with Store
-- after a lawful depth (16), stencil read-only without operations (17). View 2: read-only depth with a load (18), with a store (19).
transient_and_read_only : alone (file 8 0 1 (plain ∷ texture 23 2 4 1 1 1 48 ∷ texture 23 2 4 1 1 1 16 ∷ []) (whole 0 ∷ view 1 2 1 1 48 0 ∷ whole 2 ∷ []))
    (depth_stencil 0 absent absent
    ∷ depth_stencil 1 (channel 0 1 0 0 0) absent
    ∷ depth_stencil 1 (channel 3 2 1 0 0) absent
    ∷ depth_stencil 1 (channel 1 1 0 1 0) (channel 1 0 0 1 0)
    ∷ depth_stencil 1 (channel 1 1 0 1 0) (channel 3 2 1 0 0)
    ∷ depth_stencil 2 (channel 0 2 1 0 0) absent
    ∷ depth_stencil 2 (channel 3 0 1 0 0) absent
    ∷ [])
    ≡ (refused 0 13 16 17 0 ∷ refused 0 14 16 17 0 ∷ refused 0 15 16 17 0 ∷ refused 0 16 16 17 0 ∷ refused 0 17 16 17 0 ∷ refused 0 18 16 17 0
    ∷ refused 0 19 16 17 0 ∷ [])
unfolding computing
transient_and_read_only = refl

-- View 0 has both aspects: no depth load (20), Clear without a value (21), with NaN (22), DontCare (23), no store (24). View 1 is stencil8 with a depth
-- load (25), view 2 depth24plus with a stencil store (26). Depth Load with Store, stencil Clear with Discard: accepted, and nothing is listed.
channels : alone (file 8 0 1 (texture 23 2 4 1 1 1 16 ∷ texture 20 2 4 1 1 1 16 ∷ texture 22 2 4 1 1 1 16 ∷ []) (whole 0 ∷ whole 1 ∷ whole 2 ∷ []))
    (depth_stencil 0 absent absent
    ∷ depth_stencil 0 (channel 1 0 0 0 0) absent
    ∷ depth_stencil 0 (channel 1 0 0 1 0x7fc0_0000) absent
    ∷ depth_stencil 0 (channel 2 0 0 0 0) absent
    ∷ depth_stencil 0 (channel 0 2 0 0 0) absent
    ∷ depth_stencil 1 (channel 0 2 0 0 0) absent
    ∷ depth_stencil 2 (channel 0 0 0 0 0) (channel 3 0 0 0 0)
    ∷ depth_stencil 0 (channel 0 0 0 0 0) (channel 1 1 0 1 257)
    ∷ [])
    ≡ (refused 0 20 16 17 0 ∷ refused 0 21 16 17 0 ∷ refused 0 22 16 17 0 ∷ refused 0 23 16 17 0 ∷ refused 0 24 16 17 0 ∷ refused 0 25 16 17 0
    ∷ refused 0 26 16 17 0 ∷ accepted 0 4 1 0 0 ∷ [])
unfolding computing
channels = refl

-- MULTIVIEW with at most two views. Views of two, three and (Cube) six layers, and of one: a Cube of six layers (30), three layers first (33), two and then
-- one (31 at slot 1). Two layers with mask 4 (the mask's 31), 2 (47: not full), 3 (accepted). Without the flag two layers are a 32.
multiview_passes : all (
    file 8 2 3 (texture 3 2 4 6 1 1 16 ∷ plain ∷ []) (view 0 3 1 2 16 0 ∷ view 0 3 1 3 16 0 ∷ view 0 4 1 6 16 0 ∷ whole 1 ∷ [])
    (colors (slot 2 1 0 ∷ [])
    ∷ colors (slot 1 1 0 ∷ [])
    ∷ colors (slot 0 1 0 ∷ slot 3 1 0 ∷ [])
    ∷ pass_of 4 0 no_view absent absent (slot 0 1 0 ∷ [])
    ∷ pass_of 2 0 no_view absent absent (slot 0 1 0 ∷ [])
    ∷ pass_of 3 0 no_view absent absent (slot 0 1 0 ∷ [])
    ∷ [])
    ∷ file 8 2 1 (texture 3 2 4 2 1 1 16 ∷ []) (view 0 3 1 2 16 0 ∷ []) (colors (slot 0 1 0 ∷ []) ∷ [])
    ∷ [])
    ≡ ((refused 0 30 0 17 0 ∷ refused 1 33 0 17 0 ∷ refused 2 31 1 17 0 ∷ refused 3 31 17 17 0 ∷ refused 4 47 17 17 0 ∷ accepted 5 4 1 0 0 ∷ [])
    ∷ (refused 0 32 0 17 0 ∷ []) ∷ [])
unfolding computing
multiview_passes = refl

-- View 3 lacks usage 16 (34). Depth and view 0 are 8 × 8, view 1 is 4 × 4: 35 at slot 1 names slot 0, and at slot 0 the depth-stencil view. Four samples,
-- then one: 36.
sizes_and_samples : alone (file 8 0 1
    (texture 3 2 8 1 1 1 16 ∷ plain ∷ texture 3 2 8 1 1 4 16 ∷ texture 3 2 8 1 1 1 20 ∷ texture 22 2 8 1 1 1 16 ∷ [])
    (whole 0 ∷ whole 1 ∷ whole 2 ∷ view 3 2 1 1 4 0 ∷ whole 4 ∷ []))
    (colors (slot 3 1 0 ∷ [])
    ∷ pass_of 0 0 4 (channel 1 0 0 1 0) absent (slot 0 1 0 ∷ slot 1 1 0 ∷ [])
    ∷ pass_of 0 0 4 (channel 1 0 0 1 0) absent (slot 1 1 0 ∷ [])
    ∷ colors (slot 2 1 0 ∷ slot 0 1 0 ∷ [])
    ∷ [])
    ≡ (refused 0 34 0 17 0 ∷ refused 0 35 1 0 0 ∷ refused 0 35 0 16 0 ∷ refused 0 36 1 0 0 ∷ [])
unfolding computing
sizes_and_samples = refl

-- A depth format in a colour slot (37). View 2 is 3D with four slices: no slice (39), slice 4 (38). A slice for a D2 view (40). The same view twice (41 at
-- slot 1); two slices of one mip are apart.
color_views : alone (file 8 0 1 (plain ∷ texture 22 2 4 1 1 1 16 ∷ texture 3 3 4 4 1 1 16 ∷ []) (whole 0 ∷ whole 1 ∷ view 2 6 1 1 16 0 ∷ []))
    (colors (slot 1 1 0 ∷ [])
    ∷ colors (slot 2 1 0 ∷ [])
    ∷ colors (slice_slot 2 1 4 no_view 1 0 ∷ [])
    ∷ colors (slice_slot 0 1 0 no_view 1 0 ∷ [])
    ∷ colors (slot 0 1 0 ∷ slot 0 1 0 ∷ [])
    ∷ colors (slice_slot 2 1 0 no_view 1 0 ∷ slice_slot 2 1 1 no_view 1 0 ∷ [])
    ∷ [])
    ≡ (refused 0 37 0 17 0 ∷ refused 0 39 0 17 0 ∷ refused 0 38 0 17 0 ∷ refused 0 40 0 17 0 ∷ refused 0 41 1 17 0 ∷ accepted 0 4 1 0 0 ∷ [])
unfolding computing
color_views = refl

-- A slice is a surface of its own: slice 0 is discarded and slice 1 stored; a load of slice 1 returns nothing, one of slice 0 its clear; a slice is a mip's, so
-- that slice 0 of mip 1 is another.
slices_apart : deskcheck (file 8 0 1 (texture 3 3 4 4 2 1 16 ∷ []) (view 0 6 1 1 16 0 ∷ (0 ∷ 6 ∷ 1 ∷ 1 ∷ 0 ∷ 1 ∷ 16 ∷ 0 ∷ []) ∷ [])
    (colors (slice_slot 0 1 0 no_view 1 1 ∷ slice_slot 0 1 1 no_view 1 0 ∷ [])
    ∷ colors (slice_slot 0 1 1 no_view 0 0 ∷ [])
    ∷ colors (slice_slot 1 1 0 no_view 0 0 ∷ [])
    ∷ colors (slice_slot 0 1 0 no_view 0 0 ∷ [])
    ∷ []))
    ≡ (accepted 0 4 1 0 1 ∷ accepted 1 4 1 0 1 ∷ accepted 2 2 1 0 1 ∷ accepted 3 4 1 1 0 ∷ [])
unfolding computing
slices_apart = refl

-- Every layer of a discarded view is listed, lowest first. Of layers 1 and 2 of a texture: a colour discarded under mask 3; both aspects discarded; depth discarded
-- and stencil stored, which lists nothing.
layers_listed :
    (let S = session (file 8 2 7 (texture 3 2 4 3 1 1 16 ∷ texture 23 2 4 3 1 1 16 ∷ [])
    ((0 ∷ 3 ∷ 0 ∷ 1 ∷ 1 ∷ 2 ∷ 16 ∷ 0 ∷ []) ∷ (1 ∷ 3 ∷ 0 ∷ 1 ∷ 1 ∷ 2 ∷ 16 ∷ 0 ∷ []) ∷ [])
    (pass_of 3 0 no_view absent absent (slot 0 1 1 ∷ [])
    ∷ pass_of 0 0 1 (channel 1 1 0 1 0) (channel 1 1 0 1 0) []
    ∷ pass_of 0 0 1 (channel 1 1 0 1 0) (channel 1 0 0 1 0) []
    ∷ [])) in
    map (λ k. (pass_call S k no_entries).lists.discards) (0 ∷ 1 ∷ 2 ∷ []))
    ≡ ((surface_at 0 0 1 0 ∷ surface_at 0 0 2 0 ∷ []) ∷ (surface_at 1 0 1 0 ∷ surface_at 1 0 2 0 ∷ []) ∷ [] ∷ [])
unfolding computing
layers_listed = refl

-- Surfaces count slices: a 3D texture of 32 slices and 15 mips has 32 + 16 + 8 + 4 + 2 and ten times 1, 72 in all; a D2 texture of one layer has one.
slices_counted : surface_count (session (file 8 0 0 (texture 3 3 4 32 15 1 16 ∷ plain ∷ []) [] [])) ≡ 73
unfolding computing
slices_counted = refl

-- Where the bytes of a volume stand, behind a texture of one: a depth of 5 with three mips has 5 + 2 + 1 slices, so that slice 1 of mip 1 is byte 1 + 5 + 1 and the last is byte 8. Slice 2 is one of mip 0 and
-- not of mip 1, nor of both mips; slice 1 is, and layer 1 is not.
abbrev volume_file : List ℕ
volume_file = file 8 0 0 (plain ∷ texture 3 3 4 5 3 1 16 ∷ []) [] []

slices_placed : (surface_index (session volume_file) (surface_at 1 0 0 0) ∷ surface_index (session volume_file) (surface_at 1 1 0 1) ∷ surface_index (session volume_file) (surface_at 1 2 0 0) ∷ [])
    ≡ (1 ∷ 7 ∷ 8 ∷ [])
unfolding computing
slices_placed = refl

slices_lent : (surface_valid (session volume_file) (surface_at 1 0 0 2) ∷ surface_valid (session volume_file) (surface_at 1 1 0 2) ∷ surface_valid (session volume_file) (surface_at 1 0 1 0)
    ∷ range_valid (session volume_file) (range_at 1 0 2 0 1 1) ∷ range_valid (session volume_file) (range_at 1 0 2 0 1 2) ∷ [])
    ≡ (true ∷ false ∷ false ∷ true ∷ false ∷ [])
unfolding computing
slices_lent = refl

-- View 0 has four samples, the others one. Source of one sample (42), formats 3 and 5 (43), a target that is not resolvable (44), transient (45), 3D (48),
-- the source itself (41 at place 8); and one that is accepted, with the source's samples.
resolve_targets : alone (file 8 0 1
    (texture 3 2 4 1 1 4 16 ∷ plain ∷ texture 5 2 4 1 1 1 16 ∷ texture 3 3 4 4 1 1 16 ∷ texture 3 2 4 1 1 1 48 ∷ [])
    (whole 0 ∷ view 1 2 1 1 16 1 ∷ view 2 2 1 1 16 1 ∷ view 3 6 1 1 16 1 ∷ view 4 2 1 1 48 1 ∷ whole 1 ∷ []))
    (colors (slice_slot 2 0 0 1 1 0 ∷ [])
    ∷ colors (slice_slot 0 0 0 2 1 0 ∷ [])
    ∷ colors (slice_slot 0 0 0 5 1 0 ∷ [])
    ∷ colors (slice_slot 0 0 0 4 1 0 ∷ [])
    ∷ colors (slice_slot 0 0 0 3 1 0 ∷ [])
    ∷ colors (slice_slot 0 0 0 0 1 0 ∷ [])
    ∷ colors (slice_slot 0 0 0 1 1 0 ∷ [])
    ∷ [])
    ≡ (refused 0 42 8 17 0 ∷ refused 0 43 8 17 0 ∷ refused 0 44 8 17 0 ∷ refused 0 45 8 17 0 ∷ refused 0 48 8 17 0 ∷ refused 0 41 8 17 0
    ∷ accepted 0 4 4 0 0 ∷ [])
unfolding computing
resolve_targets = refl

-- One texture of format t and a view that shows it in format v. Siblings go both ways; 3 with 5, two depth formats, and 0 are a 4.
abbrev shown : ℕ → ℕ → List ℕ
shown t v = file 8 0 0 (texture t 2 4 1 1 1 16 ∷ []) (shown_as v (whole 0) ∷ []) []

abbrev four : List (List ℕ)
four = (4 ∷ []) ∷ []

shown_formats : all (shown 3 4 ∷ shown 4 3 ∷ shown 5 6 ∷ shown 6 5 ∷ shown 3 5 ∷ shown 4 6 ∷ shown 24 22 ∷ shown 3 0 ∷ [])
    ≡ ([] ∷ [] ∷ [] ∷ [] ∷ four ∷ four ∷ four ∷ four ∷ [])
unfolding computing
shown_formats = refl

-- Texture 0, of four samples and format 3, is shown as 3 and as 4; the targets are texture 1 as 3 and as 4 and texture 2, of format 4, as 4. By the views'
-- formats: 3 into 3 shown as 4 (43), into 4 (43), into 3; 4 into 3 (43), into 3 shown as 4, into 4. Both views of texture 0 in one pass are a 41 at slot 1.
sibling_targets : alone (file 8 0 1 (texture 3 2 4 1 1 4 16 ∷ plain ∷ texture 4 2 4 1 1 1 16 ∷ [])
    (whole 0 ∷ shown_as 4 (whole 0) ∷ view 1 2 1 1 16 1 ∷ shown_as 4 (view 1 2 1 1 16 1) ∷ view 2 2 1 1 16 1 ∷ []))
    (colors (slice_slot 0 0 0 3 1 0 ∷ [])
    ∷ colors (slice_slot 0 0 0 4 1 0 ∷ [])
    ∷ colors (slice_slot 0 0 0 2 1 0 ∷ [])
    ∷ colors (slice_slot 1 0 0 2 1 0 ∷ [])
    ∷ colors (slice_slot 1 0 0 3 1 0 ∷ [])
    ∷ colors (slice_slot 1 0 0 4 1 0 ∷ [])
    ∷ colors (slot 0 1 0 ∷ slot 1 1 0 ∷ [])
    ∷ [])
    ≡ (refused 0 43 8 17 0 ∷ refused 0 43 8 17 0 ∷ accepted 0 4 4 0 0 ∷ refused 0 43 8 17 0 ∷ accepted 0 4 4 0 0 ∷ accepted 0 4 4 0 0 ∷ refused 0 41 1 17 0 ∷ [])
unfolding computing
sibling_targets = refl

-- Discarded as 3 and loaded as 4: one surface, so that the load returns the clear.
sibling_loaded : deskcheck (file 8 0 1 (plain ∷ []) (whole 0 ∷ shown_as 4 (whole 0) ∷ []) (colors (slot 0 1 1 ∷ []) ∷ colors (slot 1 0 0 ∷ []) ∷ []))
    ≡ (accepted 0 4 1 0 1 ∷ accepted 1 4 1 1 0 ∷ [])
unfolding computing
sibling_loaded = refl

-- W3C's whole table, after no byte and after one: formats 1 to 14, the depth and stencil formats, and 0. After one byte the alignment shows.
abbrev formats : List ℕ
formats = 1 ∷ 2 ∷ 3 ∷ 4 ∷ 5 ∷ 6 ∷ 7 ∷ 8 ∷ 9 ∷ 10 ∷ 11 ∷ 12 ∷ 13 ∷ 14 ∷ 20 ∷ 21 ∷ 22 ∷ 23 ∷ 24 ∷ 25 ∷ 0 ∷ []

sums : (map (with_color 0) formats ∷ map (with_color 1) formats ∷ [])
    ≡ ((1 ∷ 2 ∷ 8 ∷ 8 ∷ 8 ∷ 8 ∷ 2 ∷ 4 ∷ 8 ∷ 4 ∷ 8 ∷ 16 ∷ 8 ∷ 8 ∷ 0 ∷ 0 ∷ 0 ∷ 0 ∷ 0 ∷ 0 ∷ 0 ∷ [])
    ∷ (2 ∷ 3 ∷ 9 ∷ 9 ∷ 9 ∷ 9 ∷ 4 ∷ 6 ∷ 10 ∷ 8 ∷ 12 ∷ 20 ∷ 12 ∷ 12 ∷ 1 ∷ 1 ∷ 1 ∷ 1 ∷ 1 ∷ 1 ∷ 1 ∷ []) ∷ [])
unfolding computing
sums = refl

-- Formats 1 then 12, after an empty slot, are 20 bytes; 12 then 1 are 17; 1, 22 and 2 are 3. At the limit they are accepted, or a 37 at the depth format; over
-- it they are a 51 at the first filled slot.
abbrev bytes_file : ℕ → List (List ℕ) → List ℕ
bytes_file limit =
    limited_file 8 0 1 limit (texture 1 2 4 1 1 1 16 ∷ texture 12 2 4 1 1 1 16 ∷ texture 22 2 4 1 1 1 16 ∷ texture 2 2 4 1 1 1 16 ∷ [])
    (whole 0 ∷ whole 1 ∷ whole 2 ∷ whole 3 ∷ [])

abbrev ascending : List (List ℕ)
ascending = colors (empty_slot ∷ slot 0 1 0 ∷ slot 1 1 0 ∷ []) ∷ []

abbrev descending : List (List ℕ)
descending = colors (slot 1 1 0 ∷ slot 0 1 0 ∷ []) ∷ []

abbrev mixed : List (List ℕ)
mixed = colors (slot 0 1 0 ∷ slot 2 1 0 ∷ slot 3 1 0 ∷ []) ∷ []

color_bytes_lem : (alone (bytes_file 20) ascending ++ alone (bytes_file 19) ascending ++ alone (bytes_file 17) descending ++ alone (bytes_file 16) descending
    ++ alone (bytes_file 3) mixed ++ alone (bytes_file 2) mixed)
    ≡ (accepted 0 4 1 0 0 ∷ refused 0 51 1 17 0 ∷ accepted 0 4 1 0 0 ∷ refused 0 51 0 17 0 ∷ refused 0 37 1 17 0 ∷ refused 0 51 0 17 0 ∷ [])
unfolding computing
color_bytes_lem = refl

-- Over the limit, a slice for a D2 view is a 40 at its slot; the same view twice is a 51 at the first, and no 41 at the second.
bytes_between : alone (limited_file 8 0 1 15 (plain ∷ []) (whole 0 ∷ []))
    (colors (slice_slot 0 1 0 no_view 1 0 ∷ slot 0 1 0 ∷ []) ∷ colors (slot 0 1 0 ∷ slot 0 1 0 ∷ []) ∷ [])
    ≡ (refused 0 40 0 17 0 ∷ refused 0 51 0 17 0 ∷ [])
unfolding computing
bytes_between = refl

-- Buffers: no attachment (46); a discard, and its buffer ends; a load after that returns nothing. A discard, then Load with Discard: one clear, and the
-- surface is listed again. Flag 2 is a 5 and ends nothing, so that the next load returns it.
buffers : deskcheck (file 8 0 1 (plain ∷ []) (whole 0 ∷ [])
    (colors []
    ∷ pass_of 0 1 no_view absent absent (slot 0 1 1 ∷ [])
    ∷ colors (slot 0 0 0 ∷ [])
    ∷ colors (slot 0 1 1 ∷ [])
    ∷ colors (slot 0 0 1 ∷ [])
    ∷ pass_of 0 2 no_view absent absent (slot 0 1 1 ∷ [])
    ∷ colors (slot 0 0 0 ∷ [])
    ∷ []))
    ≡ (refused 0 46 17 17 0 ∷ accepted 1 4 1 0 1 ∷ accepted 2 4 1 0 0 ∷ accepted 3 4 1 0 1 ∷ accepted 4 4 1 1 1 ∷ refused 5 5 17 17 1 ∷ accepted 6 4 1 1 0 ∷ [])
unfolding computing
buffers = refl

-- A pass number at the count is refused as 5, place 17.
past_the_last : (pass_call (session example) 2 no_entries).reply.verdict ≡ refused_at 5 17
unfolding computing
past_the_last = refl

-- 6: what is lent beside the example, whose one surface is (0, 0, 0), slice 0. One status byte of 3 is valid, 4 is not; 64 discards are valid, 65 and a surface of
-- mip 1 are not; a range of the one surface is valid, an empty one and one of two layers are not; 80 clears are valid, 81 are not; nor is
-- slice 1, as a surface or a range.
abbrev lent : List Surface → List Range → List Surface → ℕ → Bool
lent discards ranges clears byte = lent_valid (session example) (record {
  lists = record { discards = discards; actions = map (λ r. record { range = r; kind = NeedsInitializedMemory }) ranges; clears = clears };
  status = byte ∷ [];
})

abbrev one : Surface
one = surface_at 0 0 0 0

lent_state :
    (lent [] [] [] 3 ∷ lent [] [] [] 4
    ∷ lent (replicate 64 one) [] [] 0 ∷ lent (replicate 65 one) [] [] 0 ∷ lent (surface_at 0 1 0 0 ∷ []) [] [] 0
    ∷ lent [] (range_at 0 0 1 0 1 0 ∷ []) [] 0 ∷ lent [] (range_at 0 0 1 0 0 0 ∷ []) [] 0 ∷ lent [] (range_at 0 0 1 0 2 0 ∷ []) [] 0
    ∷ lent [] [] (replicate 80 one) 0 ∷ lent [] [] (replicate 81 one) 0
    ∷ lent (surface_at 0 0 0 1 ∷ []) [] [] 0 ∷ lent [] (range_at 0 0 1 0 1 1 ∷ []) [] 0 ∷ [])
    ≡ (true ∷ false ∷ true ∷ false ∷ false ∷ true ∷ false ∷ false ∷ true ∷ false ∷ false ∷ false ∷ [])
unfolding computing
lent_state = refl
