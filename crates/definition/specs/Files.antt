-- Session files written row by row, for the computed checks.
use Rattle.std.specs.Prelude.{ℕ, ◌+◌, ◌*◌, ◌/◌, ◌%◌, ◌-◌, List, [], ◌∷◌, ◌++◌, map, cond, eqb, length, get_or, replicate}
use Rattle.definition.specs.Sizes.{header_bytes, texture_bytes, view_bytes, pass_bytes, max_slots, max_color_bytes, no_view}

-- Numbers as little-endian u32.
abbrev pub words : List ℕ → List ℕ
words [] = []
words (n ∷ rest) = n % 256 ∷ n / 256 % 256 ∷ n / 65536 % 256 ∷ n / 16777216 % 256 ∷ words rest

abbrev pub concat : List (List ℕ) → List ℕ
concat [] = []
concat (row ∷ rest) = row ++ concat rest

-- Format, dimension, size, depth or layers, mips, samples, usage.
abbrev pub texture : (format dimension size depth mips samples usage : ℕ) → List ℕ
texture format dimension size depth mips samples usage =
    format ∷ dimension ∷ size ∷ size ∷ depth ∷ mips ∷ samples ∷ usage ∷ []

-- A view of mips 0 to mips - 1 and layers 0 to layers - 1, in its texture's format.
abbrev pub view : (texture dimension mips layers usage resolvable : ℕ) → List ℕ
view texture dimension mips layers usage resolvable = texture ∷ dimension ∷ 0 ∷ mips ∷ 0 ∷ layers ∷ usage ∷ resolvable ∷ []

-- A view in a format of its own.
abbrev pub shown_as : ℕ → List ℕ → List ℕ
shown_as format row = row ++ (format ∷ [])

-- The whole row of a view whose format is not said: its texture's.
abbrev pub view_row : List (List ℕ) → List ℕ → List ℕ
view_row textures row = cond (eqb (length row) 8) (shown_as (get_or (get_or textures (get_or row 0 0) []) 0 0) row) row

-- Load, store, read-only, clear given, clear.
abbrev pub channel : (load store read_only given clear : ℕ) → List ℕ
channel load store read_only given clear = load ∷ store ∷ read_only ∷ given ∷ clear ∷ []

abbrev pub absent : List ℕ
absent = channel 3 2 0 0 0

-- A colour slot with the clear value zero.
abbrev pub slice_slot : (view sliced slice resolve load store : ℕ) → List ℕ
slice_slot view sliced slice resolve load store = view ∷ sliced ∷ slice ∷ resolve ∷ load ∷ store ∷ replicate 8 0

abbrev pub slot : (view load store : ℕ) → List ℕ
slot view load store = slice_slot view 0 0 no_view load store

abbrev pub empty_slot : List ℕ
empty_slot = slot no_view 0 0

-- A pass row: mask, ends-buffer, depth-stencil view and channels, slots. Slots that are not there are zeros.
abbrev pub pass_of : (mask ends depth_stencil : ℕ) → List ℕ → List ℕ → List (List ℕ) → List ℕ
pass_of mask ends depth_stencil depth stencil slots =
    (length slots ∷ mask ∷ ends ∷ depth_stencil ∷ depth) ++ stencil ++ concat slots ++ replicate (14 * (max_slots - length slots)) 0

abbrev pub colors : List (List ℕ) → List ℕ
colors slots = pass_of 0 0 no_view absent absent slots

abbrev pub depth_stencil : ℕ → List ℕ → List ℕ → List ℕ
depth_stencil v depth stencil = pass_of 0 0 v depth stencil []

-- The file: the header's settings, which stand before the total length; textures, views, passes.
abbrev pub file_of : List ℕ → List (List ℕ) → List (List ℕ) → List (List ℕ) → List ℕ
file_of settings textures views passes =
    let view_start = header_bytes + texture_bytes * length textures in
    let pass_start = view_start + view_bytes * length views in
    words ((length textures ∷ header_bytes ∷ length views ∷ view_start ∷ length passes ∷ pass_start ∷ []) ++ settings
    ++ ((pass_start + pass_bytes * length passes) ∷ []) ++ concat textures ++ concat (map (view_row textures) views) ++ concat passes)

-- Of maximum colours, maximum multiview views, flags, and a limit of colour bytes per sample.
abbrev pub limited_file : (max_colors max_multiview flags color_bytes : ℕ) → List (List ℕ) → List (List ℕ) → List (List ℕ) → List ℕ
limited_file max_colors max_multiview flags color_bytes textures views passes = file_of (max_colors ∷ max_multiview ∷ flags ∷ color_bytes ∷ []) textures views passes

-- The same with the largest limit, which no pass is over.
abbrev pub file : (max_colors max_multiview flags : ℕ) → List (List ℕ) → List (List ℕ) → List (List ℕ) → List ℕ
file max_colors max_multiview flags = limited_file max_colors max_multiview flags max_color_bytes
