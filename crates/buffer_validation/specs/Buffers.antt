-- What a caller lends: the bytes of the three lists, and the status bytes, each of which stands for itself.
use Rattle.std.specs.Prelude.{ℕ, ◌≤◌, List, Bool, ◌||◌, ltb, length}
use Rattle.definition.specs.Sizes.{max_surfaces, surface_bytes, action_bytes, list_bytes, discards_bytes, actions_bytes, clears_bytes}
use Rattle.definition.specs.Calls.{State}
use Rattle.lists.specs.Lists.{count_in}
use Rattle.lists.specs.Lent.{ListBytes, bytes, lists_in}

-- All four buffers.
pub record Buffers : Type 0 where
  pub lists : ListBytes
  pub status : List ℕ

abbrev pub buffers : (discards actions clears status : List ℕ) → Buffers
buffers d a c status = record { lists = bytes d a c; status = status }

-- What they hold.
abbrev pub held_in : Buffers → State
held_in b = record { lists = lists_in b.lists; status = b.status }

-- One of them is too short.
unfoldable pub too_short : Buffers → Bool
too_short b =
    ltb (length b.lists.discards) discards_bytes || ltb (length b.lists.actions) actions_bytes
    || ltb (length b.lists.clears) clears_bytes || ltb (length b.status) max_surfaces

-- The records that the counts name lie inside.
pub record RecordsInside (b : ListBytes) : Type 0 where
  pub discards : list_bytes surface_bytes (count_in b.discards) ≤ length b.discards
  pub actions : list_bytes action_bytes (count_in b.actions) ≤ length b.actions
  pub clears : list_bytes surface_bytes (count_in b.clears) ≤ length b.clears
