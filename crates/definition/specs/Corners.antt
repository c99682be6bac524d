-- Document 01's corners marked P, what it calls wrong yet inviting, and the numbers of channels, as one table: passes checked in one buffer, submissions, and
-- what each must answer.
use Rattle.std.specs.Prelude.{ℕ, ◌≡◌, refl, List, [], ◌∷◌, ◌++◌, map, Bool, true, false, ◌&&◌, length, get_or, take, replicate, eqb}
use Rattle.definition.specs.Sizes.{no_view}
use Rattle.definition.specs.Surfaces.{surface_at}
use Rattle.definition.specs.Session.{Pass, Session, surface_count}
use Rattle.definition.specs.MemoryInit.{Lists, implicit_at}
use Rattle.definition.specs.Pass.{black, Outcome, check_pass}
use Rattle.definition.specs.Calls.{State, no_entries, submit_state}
use Rattle.definition.specs.Computing.{computing}
use Rattle.definition.specs.declared.Texture.{Texture}
use Rattle.definition.specs.declared.View.{View}
use Rattle.definition.specs.declared.Channel.{Channel}
use Rattle.definition.specs.declared.Slot.{Slot}
use Rattle.definition.specs.declared.Attachment.{Attachment}

-- ── a session

-- Format, dimension, size, depth or layers, mips, samples.
abbrev texture : ℕ → ℕ → ℕ → ℕ → ℕ → ℕ → Texture
texture f d size layers mips samples = record
    { format = f; dimension = d; width = size; height = size; depth = layers; mips = mips; samples = samples; usage = 16 }

-- A transient texture of format f.
abbrev transient_texture : ℕ → Texture
transient_texture f = record { format = f; dimension = 2; width = 4; height = 4; depth = 1; mips = 1; samples = 1; usage = 48 }

-- View k is of texture k, but for the last.
abbrev textures : List Texture
textures =
    texture 3 2 4 1 1 1  -- 0: rgba8unorm, 4 × 4
    ∷ texture 3 2 4 1 1 1  -- 1: another
    ∷ texture 3 2 8 1 1 1  -- 2: 8 × 8
    ∷ texture 22 2 4 1 1 1  -- 3: depth24plus
    ∷ texture 20 2 4 1 1 1  -- 4: stencil8
    ∷ texture 23 2 4 1 1 1  -- 5: depth24plus-stencil8
    ∷ texture 3 3 4 4 1 1  -- 6: 3D, four slices
    ∷ texture 3 2 4 2 1 1  -- 7: two layers
    ∷ texture 3 2 4 1 1 4  -- 8: four samples
    ∷ texture 3 2 4 1 2 1  -- 9: two mips
    ∷ texture 3 2 4 1 1 4  -- 10: four samples
    ∷ transient_texture 22  -- 11: depth24plus
    ∷ transient_texture 20  -- 12: stencil8
    ∷ texture 21 2 4 1 1 1  -- 13: depth16unorm
    ∷ texture 24 2 4 1 1 1  -- 14: depth32float
    ∷ texture 25 2 4 1 1 1  -- 15: depth32float-stencil8
    ∷ []

-- The format of texture t, in which its views show it.
abbrev in_format : ℕ → ℕ
in_format t = (get_or textures t (texture 0 0 0 0 0 0)).format

-- Texture, dimension, mips, layers.
abbrev view : ℕ → ℕ → ℕ → ℕ → View
view t d mips layers = record
    { texture = t; dimension = d; mip = 0; mips = mips; layer = 0; layers = layers; usage = 16; resolvable = 1; format = in_format t }

-- The view of a transient texture t.
abbrev transient_view : ℕ → View
transient_view t = record
    { texture = t; dimension = 2; mip = 0; mips = 1; layer = 0; layers = 1; usage = 48; resolvable = 1; format = in_format t }

abbrev views : List View
views =
    view 0 2 1 1 ∷ view 1 2 1 1 ∷ view 2 2 1 1 ∷ view 3 2 1 1 ∷ view 4 2 1 1 ∷ view 5 2 1 1 ∷ view 6 6 1 1 ∷ view 7 3 1 2 ∷ view 8 2 1 1
    ∷ view 9 2 1 1
    ∷ view 10 2 1 1
    ∷ transient_view 11
    ∷ transient_view 12
    ∷ view 13 2 1 1
    ∷ view 14 2 1 1
    ∷ view 15 2 1 1
    ∷ view 9 2 2 1  -- 16: both mips of texture 9
    ∷ []

-- ── passes

-- Load, store, and the clear value's bits if given.
abbrev channel : ℕ → ℕ → ℕ → ℕ → Channel
channel load store given clear = record { load = load; store = store; readonly = 0; given = given; clear = clear }

abbrev read_only : ℕ → ℕ → Channel
read_only load store = record { load = load; store = store; readonly = 1; given = 0; clear = 0 }

abbrev absent : Channel
absent = channel 3 2 0 0

-- View, resolve target, load, store.
abbrev slot : ℕ → ℕ → ℕ → ℕ → Slot
slot v r load store = record { view = v; sliced = 0; slice = 0; resolve = r; load = load; store = store; clear = black }

abbrev slice : ℕ → Slot
slice n = record { view = 6; sliced = 1; slice = n; resolve = no_view; load = 1; store = 0; clear = black }

abbrev pass : ℕ → List Slot → ℕ → Channel → Channel → Pass
pass mask slots ds d s = record
    { colors = length slots; mask = mask; ends = 0; depth_stencil = ds; depth = d; stencil = s; slot = λ k. get_or slots k (slot no_view no_view 0 0) }

abbrev colors : List Slot → Pass
colors slots = pass 0 slots no_view absent absent

abbrev depth_stencil : ℕ → Channel → Channel → Pass
depth_stencil v d s = pass 0 [] v d s

-- The depth of view 3 and the stencil of view 4, which have that aspect alone.
abbrev depth_of : Channel → Pass
depth_of d = depth_stencil 3 d absent

abbrev stencil_of : Channel → Pass
stencil_of s = depth_stencil 4 absent s

-- By its flags.
abbrev desk : ℕ → Session
desk flags = record {
  texture_count = 16;
  view_count = 17;
  pass_count = 0;
  max_colors = 8;
  max_multiview = 4;
  flags = flags;
  color_bytes = 128;
  texture = λ k. get_or textures k (texture 0 0 0 0 0 0);
  view = λ k. get_or views k (view 0 0 0 0);
  pass = λ k. colors [];
}

-- ── the table

-- Number, place, earlier place, clears returned, length of the discard list, stencil clear of the first attachment.
abbrev first_stencil : List Attachment → ℕ
first_stencil [] = 0
first_stencil (x ∷ xs) = x.stencil

abbrev says : Outcome → List ℕ
says o =
    o.reply.verdict.number ∷ o.reply.verdict.place ∷ o.reply.verdict.earlier
    ∷ length o.reply.clears ∷ length o.lists.discards ∷ first_stencil o.reply.attachments ∷ []

-- A pass to check, or a submission, which answers the status bytes of textures 0 to 5.
pub data Do : Type 0 where
  check : Pass → Do
  submit : Do

-- The session's flags, the lists that are held, the calls, and what they must answer.
pub record Row : Type 0 where
  pub flags : ℕ
  pub held : Lists
  pub calls : List Do
  pub answers : List (List ℕ)

-- Strict, MULTIVIEW and SELECTIVE_MULTIVIEW; without strict where a row is named so.
abbrev row : List Pass → List (List ℕ) → Row
row ps out = record { flags = 7; held = no_entries; calls = map check ps; answers = out }

abbrev row_not_strict : List Pass → List (List ℕ) → Row
row_not_strict ps out = record { flags = 6; held = no_entries; calls = map check ps; answers = out }

abbrev row_of : List Do → List (List ℕ) → Row
row_of calls out = record { flags = 7; held = no_entries; calls = calls; answers = out }

abbrev row_from : Lists → List Pass → List (List ℕ) → Row
row_from held ps out = record { flags = 7; held = held; calls = map check ps; answers = out }

-- Eight discards of texture 0 among 64, and so many actions.
abbrev full_of : ℕ → Lists
full_of actions = record {
  discards = replicate 8 (surface_at 0 0 0 0) ++ replicate 56 (surface_at 2 0 0 0);
  actions = replicate actions (implicit_at (surface_at 2 0 0 0));
  clears = [];
}

-- So many discards of texture 2.
abbrev holding : ℕ → Lists
holding n = record { discards = replicate n (surface_at 2 0 0 0); actions = []; clears = [] }

abbrev accepted : ℕ → ℕ → List ℕ
accepted clears discards = 0 ∷ 17 ∷ 17 ∷ clears ∷ discards ∷ 0 ∷ []

-- With a stencil clear.
abbrev cleared_to : ℕ → List ℕ
cleared_to stencil = 0 ∷ 17 ∷ 17 ∷ 0 ∷ 0 ∷ stencil ∷ []

abbrev refused : ℕ → ℕ → ℕ → List ℕ
refused number place earlier = number ∷ place ∷ earlier ∷ 0 ∷ 0 ∷ 0 ∷ []

-- At the depth-stencil attachment.
abbrev refused_channel : ℕ → List ℕ
refused_channel number = refused number 16 17

-- With so many discards held.
abbrev no_room : ℕ → ℕ → List ℕ
no_room number held = number ∷ 17 ∷ 17 ∷ 0 ∷ held ∷ 0 ∷ []

-- Clear with Discard, Load with Store, Clear with Store.
abbrev dropped : Pass
dropped = colors (slot 0 no_view 1 1 ∷ [])

abbrev loaded : Pass
loaded = colors (slot 0 no_view 0 0 ∷ [])

abbrev cleared : Pass
cleared = colors (slot 0 no_view 1 0 ∷ [])

-- The two layers of view 7, by a mask, a load and a store.
abbrev stereo : ℕ → ℕ → ℕ → Pass
stereo mask load store = pass mask (slot 7 no_view load store ∷ []) no_view absent absent

abbrev depth_cleared : ℕ → Pass
depth_cleared bits = depth_of (channel 1 0 1 bits)

-- Depth and stencil of view v, both Clear with Store.
abbrev both_cleared : ℕ → Pass
both_cleared v = depth_stencil v (channel 1 0 1 0) (channel 1 0 1 0)

abbrev stencil_cleared : ℕ → Pass
stencil_cleared n = stencil_of (channel 1 0 1 n)

pub rows : List Row
rows =
    -- P: depth clear 1.0 and −0.0 accepted, NaN 22
    row (depth_cleared 0x3f80_0000 ∷ []) (accepted 0 0 ∷ [])
    ∷ row (depth_cleared 0x8000_0000 ∷ []) (accepted 0 0 ∷ [])
    ∷ row (depth_cleared 0x7fc0_0000 ∷ []) (refused_channel 22 ∷ [])
    -- another NaN, the next float above 1.0, infinity and the negative float next to 0: 22
    ∷ row (depth_cleared 0xffc0_0001 ∷ depth_cleared 0x3f80_0001 ∷ depth_cleared 0x7f80_0000 ∷ depth_cleared 0x8000_0001 ∷ []) (replicate 4 (refused_channel 22))
    -- P: stencil 257 clears to 1
    ∷ row (stencil_cleared 257 ∷ []) (cleared_to 1 ∷ [])
    -- 255 clears to 255, 256 to 0; absent means 0
    ∷ row (stencil_cleared 255 ∷ stencil_cleared 256 ∷ stencil_of (channel 1 0 0 7) ∷ []) (cleared_to 255 ∷ cleared_to 0 ∷ cleared_to 0 ∷ [])
    -- P: mip depth 4, slice 3 accepted, 4 gives 38
    ∷ row (colors (slice 3 ∷ []) ∷ []) (accepted 0 0 ∷ [])
    ∷ row (colors (slice 4 ∷ []) ∷ []) (refused 38 0 17 ∷ [])
    -- P: two layers, mask 3 accepted, 4 gives 31
    ∷ row (stereo 3 1 0 ∷ []) (accepted 0 0 ∷ [])
    ∷ row (stereo 4 1 0 ∷ []) (refused 31 17 17 ∷ [])
    -- P: discard, then load: one clear; discarded twice: two
    ∷ row (dropped ∷ loaded ∷ []) (accepted 0 1 ∷ accepted 1 0 ∷ [])
    ∷ row (dropped ∷ dropped ∷ loaded ∷ []) (accepted 0 1 ∷ accepted 0 2 ∷ accepted 2 0 ∷ [])
    -- two layers: a discard lists both and a load returns both, whatever the masks
    ∷ row (stereo 3 1 1 ∷ stereo 3 0 0 ∷ stereo 1 1 1 ∷ stereo 0 0 0 ∷ []) (accepted 0 2 ∷ accepted 2 0 ∷ accepted 0 2 ∷ accepted 2 0 ∷ [])
    -- P: Clear with Store after a discard: none
    ∷ row (dropped ∷ cleared ∷ []) (accepted 0 1 ∷ accepted 0 0 ∷ [])
    -- P: depth Load, stencil Clear, both Discard: one entry
    ∷ row (depth_stencil 5 (channel 0 1 0 0) (channel 1 1 1 0) ∷ []) (accepted 0 1 ∷ [])
    -- 18 with a load, with or without a store; else 19 with a store; read-only with neither is accepted
    ∷ row (depth_of (read_only 0 2) ∷ depth_of (read_only 0 0) ∷ depth_of (read_only 3 0) ∷ depth_of (read_only 3 2) ∷ [])
    (refused_channel 18 ∷ refused_channel 18 ∷ refused_channel 19 ∷ accepted 0 0 ∷ [])
    ∷ row (stencil_of (read_only 0 2) ∷ stencil_of (read_only 3 0) ∷ []) (refused_channel 18 ∷ refused_channel 19 ∷ [])
    -- 20 without a load, 21 without a clear value before 24, 23 for a strict DontCare, 24 without a store
    ∷ row (depth_of (channel 3 0 0 0) ∷ depth_of (channel 1 2 0 0) ∷ depth_of (channel 2 0 0 0) ∷ depth_of (channel 0 2 0 0) ∷ [])
    (refused_channel 20 ∷ refused_channel 21 ∷ refused_channel 23 ∷ refused_channel 24 ∷ [])
    ∷ row (stencil_of (channel 3 0 0 0) ∷ stencil_of (channel 2 0 0 0) ∷ stencil_of (channel 0 2 0 0) ∷ [])
    (refused_channel 20 ∷ refused_channel 23 ∷ refused_channel 24 ∷ [])
    -- 25: a depth load or store of stencil8; with neither it is accepted. 26: a stencil load of depth24plus
    ∷ row (depth_stencil 4 (channel 0 2 0 0) absent ∷ depth_stencil 4 (channel 3 1 0 0) absent ∷ depth_stencil 4 absent (channel 0 0 0 0) ∷ [])
    (refused_channel 25 ∷ refused_channel 25 ∷ accepted 0 0 ∷ [])
    ∷ row (depth_stencil 3 (channel 0 0 0 0) (channel 0 2 0 0) ∷ []) (refused_channel 26 ∷ [])
    -- both aspects cleared and stored, for each format in the order of W3C's table of depth-stencil formats, and for a colour: 25 without depth, 26 without
    -- stencil, 13 with neither
    ∷ row (map both_cleared (4 ∷ 13 ∷ 3 ∷ 5 ∷ 14 ∷ 15 ∷ 0 ∷ []))
    (refused_channel 25 ∷ refused_channel 26 ∷ refused_channel 26 ∷ accepted 0 0 ∷ refused_channel 26 ∷ accepted 0 0 ∷ refused_channel 13 ∷ [])
    -- 14 and 16: a transient channel not (Clear or DontCare) with Discard; 15 and 17: one that is read-only
    ∷ row (depth_stencil 11 (channel 0 1 0 0) absent ∷ depth_stencil 11 (channel 1 0 1 0) absent ∷ depth_stencil 11 (read_only 3 2) absent
    ∷ depth_stencil 11 (channel 1 1 1 0) absent
    ∷ [])
    (refused_channel 14 ∷ refused_channel 14 ∷ refused_channel 15 ∷ accepted 0 1 ∷ [])
    ∷ row (depth_stencil 12 absent (channel 0 1 0 0) ∷ depth_stencil 12 absent (read_only 3 2) ∷ []) (refused_channel 16 ∷ refused_channel 17 ∷ [])
    -- DontCare is accepted where the session is not strict
    ∷ row_not_strict (depth_of (channel 2 0 0 0) ∷ depth_stencil 12 absent (channel 2 1 0 0) ∷ []) (accepted 0 0 ∷ accepted 0 1 ∷ [])
    -- inviting: 35 names the view accepted last, not the first
    ∷ row (colors (slot 0 no_view 1 0 ∷ slot 1 no_view 1 0 ∷ slot 2 no_view 1 0 ∷ []) ∷ []) (refused 35 2 1 ∷ [])
    -- inviting: a resolve target's overlap is tested before whether it is renderable
    ∷ row (colors (slot 9 no_view 1 0 ∷ []) ∷ colors (slot 8 16 1 0 ∷ []) ∷ []) (accepted 0 0 ∷ refused 34 8 17 ∷ [])
    ∷ row (colors (slot 8 9 1 0 ∷ slot 10 16 1 0 ∷ []) ∷ []) (refused 41 9 17 ∷ [])
    -- depth and stencil that diverge: one discarded, one stored; a load of either needs; Clear with both stored is implicit
    ∷ row_of (check (depth_stencil 5 (channel 1 1 1 0) (channel 1 0 1 0)) ∷ submit ∷ check (depth_stencil 5 (channel 1 0 1 0) (channel 0 1 0 0)) ∷ submit ∷ [])
    (accepted 0 0 ∷ (0 ∷ 0 ∷ 0 ∷ 0 ∷ 0 ∷ 1 ∷ []) ∷ accepted 0 0 ∷ (0 ∷ 0 ∷ 0 ∷ 0 ∷ 0 ∷ 1 ∷ []) ∷ [])
    ∷ row_of (check (depth_stencil 5 (channel 1 1 1 0) (channel 0 0 0 0)) ∷ submit ∷ []) (accepted 0 0 ∷ (0 ∷ 0 ∷ 0 ∷ 0 ∷ 0 ∷ 3 ∷ []) ∷ [])
    -- status: a load of an empty surface is cleared (3); the next submission forgets that (1); a discard empties (0)
    ∷ row_of (check loaded ∷ submit ∷ submit ∷ check loaded ∷ submit ∷ check dropped ∷ submit ∷ [])
    (accepted 0 0 ∷ (3 ∷ 0 ∷ 0 ∷ 0 ∷ 0 ∷ 0 ∷ []) ∷ (1 ∷ 0 ∷ 0 ∷ 0 ∷ 0 ∷ 0 ∷ []) ∷ accepted 0 0 ∷ (1 ∷ 0 ∷ 0 ∷ 0 ∷ 0 ∷ 0 ∷ []) ∷ accepted 0 1 ∷ (0 ∷ 0 ∷ 0 ∷ 0 ∷ 0 ∷ 0 ∷ []) ∷ [])
    -- a submission empties the list: a load after it returns no clear
    ∷ row_of (check dropped ∷ submit ∷ check loaded ∷ submit ∷ [])
    (accepted 0 1 ∷ (0 ∷ 0 ∷ 0 ∷ 0 ∷ 0 ∷ 0 ∷ []) ∷ accepted 0 0 ∷ (3 ∷ 0 ∷ 0 ∷ 0 ∷ 0 ∷ 0 ∷ []) ∷ [])
    -- Load with Discard of an empty surface: cleared, then emptied (2); a Clear with Store after it fills (1)
    ∷ row_of (check (colors (slot 0 no_view 0 1 ∷ slot 1 no_view 1 0 ∷ [])) ∷ submit ∷ check cleared ∷ submit ∷ [])
    (accepted 0 1 ∷ (2 ∷ 1 ∷ 0 ∷ 0 ∷ 0 ∷ 0 ∷ []) ∷ accepted 0 0 ∷ (1 ∷ 1 ∷ 0 ∷ 0 ∷ 0 ∷ 0 ∷ []) ∷ [])
    -- 49 looks at every step: of 64 discards eight are texture 0's. A new one first needs a 65th; after those eight have left, it leaves 57
    ∷ row_from (full_of 0) (colors (slot 1 no_view 1 1 ∷ slot 0 no_view 1 0 ∷ []) ∷ []) (no_room 49 64 ∷ [])
    ∷ row_from (full_of 0) (colors (slot 0 no_view 1 0 ∷ slot 1 no_view 1 1 ∷ []) ∷ []) (accepted 0 57 ∷ [])
    -- it takes the layers of a view together: two after 62 are 64, and after 63 a 49
    ∷ row_from (holding 62) (stereo 3 1 1 ∷ []) (accepted 0 64 ∷ [])
    ∷ row_from (holding 63) (stereo 3 1 1 ∷ stereo 3 1 0 ∷ []) (no_room 49 63 ∷ accepted 0 63 ∷ [])
    -- Load with Discard takes its own off first: eight clears, and 57 again
    ∷ row_from (full_of 0) (colors (slot 0 no_view 0 1 ∷ []) ∷ []) (accepted 8 57 ∷ [])
    -- 50: a load takes one action and one for each clear; 503 and 1 and 8 are 512
    ∷ row_from (full_of 503) (loaded ∷ []) (accepted 8 56 ∷ [])
    ∷ row_from (full_of 504) (loaded ∷ []) (no_room 50 64 ∷ [])
    -- 512 actions held: any action more is a 50
    ∷ row_from (full_of 512) (colors (slot 0 no_view 1 0 ∷ []) ∷ []) (no_room 50 64 ∷ [])
    ∷ row_from (full_of 512) (colors (slot 7 no_view 0 0 ∷ []) ∷ colors (slot 2 no_view 0 0 ∷ []) ∷ []) (no_room 50 64 ∷ no_room 50 64 ∷ [])
    -- 49 before 50, wherever they happen: slot 0 needs a 513th action and slot 1 a 65th discard; one slot needs both
    ∷ row_from (full_of 512) (colors (slot 1 no_view 0 0 ∷ slot 0 no_view 1 1 ∷ []) ∷ colors (slot 1 no_view 0 1 ∷ []) ∷ []) (no_room 49 64 ∷ no_room 49 64 ∷ [])
    ∷ []

-- ── the test

-- Of the session S, from the state σ.
abbrev run : Session → List Do → State → List (List ℕ)
run S [] σ = []
run S (check p ∷ rest) σ =
    let o = check_pass S p σ.lists in
    says o ∷ run S rest (record { lists = o.lists; status = σ.status })
run S (submit ∷ rest) σ =
    let τ = submit_state S σ in
    take 6 τ.status ∷ run S rest τ

-- As many status bytes as there are surfaces, all 0.
abbrev new : Session → Lists → State
new S held = record { lists = held; status = replicate (surface_count S) 0 }

abbrev same_numbers : List ℕ → List ℕ → Bool
same_numbers [] [] = true
same_numbers [] (y ∷ ys) = false
same_numbers (x ∷ xs) [] = false
same_numbers (x ∷ xs) (y ∷ ys) = eqb x y && same_numbers xs ys

abbrev same_rows : List (List ℕ) → List (List ℕ) → Bool
same_rows [] [] = true
same_rows [] (y ∷ ys) = false
same_rows (x ∷ xs) [] = false
same_rows (x ∷ xs) (y ∷ ys) = same_numbers x y && same_rows xs ys

abbrev all_valid : List Row → Bool
all_valid [] = true
all_valid (r ∷ rest) = same_rows (run (desk r.flags) r.calls (new (desk r.flags) r.held)) r.answers && all_valid rest

pub corners : all_valid rows ≡ true
unfolding rows computing
corners = refl
