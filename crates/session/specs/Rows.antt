-- Texture rows, view rows by the textures before them, pass rows by what stands before them, and a slot without its clear value.
use Rattle.std.specs.Prelude.{ℕ, ◌+◌, ◌*◌, ◌≤◌, List, length}
use Rattle.definition.specs.Sizes.{header_bytes, texture_bytes, view_bytes, pass_bytes, slot_start, slot_bytes}
use Rattle.definition.specs.Session.{Pass, Session, session, view_at, pass_at}
use Rattle.definition.specs.Pass.{black}
use Rattle.definition.specs.declared.Texture.{Texture}
use Rattle.definition.specs.declared.Slot.{Slot}
use Rattle.definition.specs.declared.View.{View}
use Rattle.encoding.specs.declared.Eight.{Eight}
use Rattle.session.specs.declared.PassRow.{PassRow}

-- The first n texture rows lie inside.
abbrev pub RowsInside : ℕ → List ℕ → Type 0
RowsInside n s = header_bytes + texture_bytes * n ≤ length s

-- A texture by the eight numbers of its row.
abbrev pub texture_of : Eight → Texture
texture_of row = record {
  format = row.n0;
  dimension = row.n1;
  width = row.n2;
  height = row.n3;
  depth = row.n4;
  mips = row.n5;
  samples = row.n6;
  usage = row.n7;
}

-- A view by the eight numbers of its row and its format.
abbrev pub view_of : Eight → ℕ → View
view_of row format = record {
  texture = row.n0;
  dimension = row.n1;
  mip = row.n2;
  mips = row.n3;
  layer = row.n4;
  layers = row.n5;
  usage = row.n6;
  resolvable = row.n7;
  format = format;
}

-- View row k, after so many textures.
abbrev pub view_row : ℕ → ℕ → ℕ
view_row textures k = header_bytes + texture_bytes * textures + view_bytes * k

abbrev pub view_after : List ℕ → ℕ → ℕ → View
view_after s textures k = view_at s (view_row textures k)

-- The first n view rows lie inside, after so many textures.
abbrev pub ViewsInside : ℕ → ℕ → List ℕ → Type 0
ViewsInside textures n s = view_row textures n ≤ length s

-- A view without its format: what tells the surfaces that it takes.
abbrev pub shape_of : View → View
shape_of v = record {
  texture = v.texture;
  dimension = v.dimension;
  mip = v.mip;
  mips = v.mips;
  layer = v.layer;
  layers = v.layers;
  usage = v.usage;
  resolvable = v.resolvable;
  format = 0;
}

-- A pass row and its slots, after so many textures, views and passes.
abbrev pub pass_row : PassRow → ℕ
pass_row p = header_bytes + texture_bytes * p.textures + view_bytes * p.views + pass_bytes * p.passes

abbrev pub slot_row : PassRow → ℕ → ℕ
slot_row p k = pass_row p + slot_start + slot_bytes * k

-- The pass of a row.
unfoldable pub pass_in : PassRow → Pass
pass_in p = pass_at p.session.now (pass_row p)

-- The session that it is of.
abbrev pub session_in : PassRow → Session
session_in p = session p.session.now

-- A slot without its clear value.
abbrev pub without_clear : Slot → Slot
without_clear c = record {
  view = c.view;
  sliced = c.sliced;
  slice = c.slice;
  resolve = c.resolve;
  load = c.load;
  store = c.store;
  clear = black;
}
