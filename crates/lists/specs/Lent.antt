-- The three lists of a command buffer that a caller lends, and what a call leaves in them.
use Rattle.std.specs.Prelude.{ℕ, ◌≤◌, List, length}
use Rattle.definition.specs.Sizes.{max_discards, max_actions, max_clears, surface_bytes, action_bytes, discards_bytes, actions_bytes, clears_bytes}
use Rattle.definition.specs.MemoryInit.{Lists}
use Rattle.lists.specs.Lists.{surfaces_in, actions_in, RestStays, SurfacesBecome, ActionsBecome}

-- Their bytes.
pub record ListBytes : Type 0 where
  pub discards : List ℕ
  pub actions : List ℕ
  pub clears : List ℕ

abbrev pub bytes : (discards actions clears : List ℕ) → ListBytes
bytes d a c = record { discards = d; actions = a; clears = c }

-- What they hold.
abbrev pub lists_in : ListBytes → Lists
lists_in b = record { discards = surfaces_in b.discards; actions = actions_in b.actions; clears = surfaces_in b.clears }

-- Each has the bytes of all its room.
pub record Long (b : ListBytes) : Type 0 where
  pub discards : discards_bytes ≤ length b.discards
  pub actions : actions_bytes ≤ length b.actions
  pub clears : clears_bytes ≤ length b.clears

-- No list has more entries than it has room for.
pub record Fits (l : Lists) : Type 0 where
  pub discards : length l.discards ≤ max_discards
  pub actions : length l.actions ≤ max_actions
  pub clears : length l.clears ≤ max_clears

-- A call leaves the lists l; the bytes past the records of each stay.
pub record Leaves (l : Lists) (b b' : ListBytes) : Type 0 where
  pub discards : SurfacesBecome l.discards b.discards b'.discards
  pub actions : ActionsBecome l.actions b.actions b'.actions
  pub clears : SurfacesBecome l.clears b.clears b'.clears

-- The bytes past the records of each list stay.
pub record RestsStay (b b' : ListBytes) : Type 0 where
  pub discards : RestStays surface_bytes b.discards b'.discards
  pub actions : RestStays action_bytes b.actions b'.actions
  pub clears : RestStays surface_bytes b.clears b'.clears
