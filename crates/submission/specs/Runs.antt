-- A submission over the status bytes: runs of bytes, and the mips of a range. What the code asks of what is lent.
use Rattle.std.specs.Prelude.{ℕ, zero, suc, ◌+◌, ◌≤◌, ◌<◌, ◌≡◌, true, List, length, get_or, set}
use Rattle.definition.specs.Sizes.{max_textures, max_surfaces, surface_bytes, action_bytes, list_bytes}
use Rattle.definition.specs.Surfaces.{range_at}
use Rattle.definition.specs.Session.{session, surfaces_before, surface_count}
use Rattle.definition.specs.Calls.{surfaces_valid, actions_valid}
use Rattle.definition.specs.declared.Range.{Range}
use Rattle.session.specs.Rows.{RowsInside}
use Rattle.lists.specs.Lists.{count_in, surfaces_in, actions_in}

-- A function of the byte, at n bytes from a place on.
unfoldable pub run : (ℕ → ℕ) → ℕ → ℕ → List ℕ → List ℕ
run g at zero bytes = bytes
run g at (suc n) bytes = set (run g at n bytes) (at + n) (g (get_or (run g at n bytes) (at + n) 0))

-- The first n mips of a range, and mip m of it.
abbrev pub first_mips : Range → ℕ → Range
first_mips r n = range_at r.texture r.mip n r.layer r.layers r.slice

abbrev pub mip_of : Range → ℕ → Range
mip_of r m = range_at r.texture (r.mip + m) 1 r.layer r.layers r.slice

-- The number of surfaces before each texture, of a session whose texture rows lie inside and which has no more surfaces than it may.
pub record Bases (s bases : List ℕ) : Type 0 where
  pub rows : RowsInside (session s).texture_count s
  pub surfaces : surface_count (session s) ≤ max_surfaces
  pub long : (session s).texture_count ≤ length bases
  pub before : (k : ℕ) → k < (session s).texture_count → get_or bases k 0 ≡ surfaces_before (session s) k

-- A session that is not refused, lent lists of its records, and a byte for each of its surfaces.
pub record Submits (s d a b : List ℕ) : Type 0 where
  pub rows : RowsInside (session s).texture_count s
  pub textures : (session s).texture_count ≤ max_textures
  pub surfaces : surface_count (session s) ≤ max_surfaces
  pub status : surface_count (session s) ≤ length b
  pub discards_long : list_bytes surface_bytes (count_in d) ≤ length d
  pub actions_long : list_bytes action_bytes (count_in a) ≤ length a
  pub discards : surfaces_valid (session s) (surfaces_in d) ≡ true
  pub actions : actions_valid (session s) (actions_in a) ≡ true
