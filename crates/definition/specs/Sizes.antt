-- The sizes and limits that document 01 fixes, each named once, and the lengths that follow from them.
-- `sizes.rt` has the same names in the code; the contract of `every_size` ties the two.
use Rattle.std.specs.Prelude.{ℕ, ◌+◌, ◌*◌}
use Rattle.definition.specs.declared.sizes.Sizes.{Sizes}

-- ── the file

-- Bytes of the header and of a row of each table.
abbrev pub header_bytes : ℕ
header_bytes = 44

abbrev pub texture_bytes : ℕ
texture_bytes = 32

abbrev pub view_bytes : ℕ
view_bytes = 36

abbrev pub pass_bytes : ℕ
pass_bytes = 504

-- Where the total length stands: last in the header.
abbrev pub total_length_at : ℕ
total_length_at = 40

-- In a pass row, where the colour slots start, and the bytes of one.
abbrev pub slot_start : ℕ
slot_start = 56

abbrev pub slot_bytes : ℕ
slot_bytes = 56

-- The most rows of each table, and the most colour slots of a pass.
abbrev pub max_textures : ℕ
max_textures = 64

abbrev pub max_views : ℕ
max_views = 256

abbrev pub max_passes : ℕ
max_passes = 100

abbrev pub max_slots : ℕ
max_slots = 8

-- The length of the longest session: every table full.
abbrev pub longest_session : ℕ
longest_session = header_bytes + texture_bytes * max_textures + view_bytes * max_views + pass_bytes * max_passes

-- The most views of a multiview pass, the largest flags field, the largest limit of colour bytes per sample, and the limits of a texture row.
abbrev pub max_multiviews : ℕ
max_multiviews = 32

abbrev pub max_flags : ℕ
max_flags = 15

abbrev pub max_color_bytes : ℕ
max_color_bytes = 128

abbrev pub max_size : ℕ
max_size = 16384

abbrev pub max_layers : ℕ
max_layers = 32

abbrev pub max_mips : ℕ
max_mips = 15

abbrev pub max_usage : ℕ
max_usage = 63

-- The number that stands for no view.
abbrev pub no_view : ℕ
no_view = 4294967295

-- ── the lent lists

-- The most surfaces of a session, and the room of each list.
abbrev pub max_surfaces : ℕ
max_surfaces = 4096

abbrev pub max_discards : ℕ
max_discards = 64

abbrev pub max_actions : ℕ
max_actions = 512

abbrev pub max_clears : ℕ
max_clears = 80

-- Numbers of a record: a discard or clear is a surface (texture, mip, layer, slice); an action is texture, mip, mips, layer, layers, kind, slice.
abbrev pub surface_numbers : ℕ
surface_numbers = 4

abbrev pub action_numbers : ℕ
action_numbers = 7

-- The same in bytes: a number has four.
abbrev pub surface_bytes : ℕ
surface_bytes = 4 * surface_numbers

abbrev pub action_bytes : ℕ
action_bytes = 4 * action_numbers

-- A list in bytes is its count, and then its records, of k bytes each.
abbrev pub count_bytes : ℕ
count_bytes = 4

abbrev pub list_bytes : ℕ → ℕ → ℕ
list_bytes k records = count_bytes + k * records

-- Bytes that are lent for each list with all its room, and for the status bytes.
abbrev pub discards_bytes : ℕ
discards_bytes = list_bytes surface_bytes max_discards

abbrev pub actions_bytes : ℕ
actions_bytes = list_bytes action_bytes max_actions

abbrev pub clears_bytes : ℕ
clears_bytes = list_bytes surface_bytes max_clears

-- ── a pass and its reply

-- The most attachments: depth-stencil, and each slot's colour and resolve target.
abbrev pub max_attachments : ℕ
max_attachments = 1 + 2 * max_slots

-- Numbers and bytes of a pass's row in the reply to a whole session, and bytes of all rows.
abbrev pub row_numbers : ℕ
row_numbers = 9

abbrev pub row_bytes : ℕ
row_bytes = 4 * row_numbers

abbrev pub rows_bytes : ℕ
rows_bytes = row_bytes * max_passes

-- All of them, as the code has them.
abbrev pub every_size : Sizes
every_size = record {
  header_bytes = header_bytes;
  texture_bytes = texture_bytes;
  view_bytes = view_bytes;
  pass_bytes = pass_bytes;
  total_length_at = total_length_at;
  slot_start = slot_start;
  slot_bytes = slot_bytes;
  max_textures = max_textures;
  max_views = max_views;
  max_passes = max_passes;
  max_slots = max_slots;
  longest_session = longest_session;
  max_multiviews = max_multiviews;
  max_flags = max_flags;
  max_color_bytes = max_color_bytes;
  max_size = max_size;
  max_layers = max_layers;
  max_mips = max_mips;
  max_usage = max_usage;
  no_view = no_view;
  max_surfaces = max_surfaces;
  max_discards = max_discards;
  max_actions = max_actions;
  max_clears = max_clears;
  surface_numbers = surface_numbers;
  action_numbers = action_numbers;
  surface_bytes = surface_bytes;
  action_bytes = action_bytes;
  count_bytes = count_bytes;
  discards_bytes = discards_bytes;
  actions_bytes = actions_bytes;
  clears_bytes = clears_bytes;
  max_attachments = max_attachments;
  row_numbers = row_numbers;
  row_bytes = row_bytes;
  rows_bytes = rows_bytes;
}
