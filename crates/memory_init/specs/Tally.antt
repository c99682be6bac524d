-- What a pass finds in the lists, counted.
use Rattle.std.specs.Prelude.{ℕ, ◌+◌, ◌*◌, ◌≤◌, ◌≡◌, List, length}
use Rattle.std.proofs.Math.Option.{Option}
use Rattle.definition.specs.Sizes.{max_discards, max_attachments, discards_bytes}
use Rattle.definition.specs.declared.Surface.{Surface}
use Rattle.definition.specs.declared.Range.{Range}
use Rattle.definition.specs.declared.MemoryInitKind.{MemoryInitKind}
use Rattle.laws.specs.Plans.{Plan, leaving_by, returned_by, added_by, leaving_all, returned_all, added_all, steps_fit}
use Rattle.lists.specs.Lists.{count_in}
use Rattle.memory_init.specs.declared.tally.Found.{Found}
use Rattle.memory_init.specs.declared.tally.Tally.{Tally}

-- Lent discards: all their room, and no more entries than that.
pub record DiscardsInRoom (b : List ℕ) : Type 0 where
  pub long : discards_bytes ≤ length b
  pub count : count_in b ≤ max_discards

-- What a registration or none finds among the discards d.
pub record FoundBy (k : Option MemoryInitKind) (r : Range) (d : List Surface) (f : Found) : Type 0 where
  pub leaving : f.leaving ≡ length (leaving_by k r d)
  pub returned : f.returned ≡ length (returned_by k r d)
  pub added : f.added ≡ length (added_by k r d)
  pub most_leaving : f.leaving ≤ max_discards
  pub most_returned : f.returned ≤ max_discards
  pub most_added : f.added ≤ max_discards + 1

-- What plans find among them, and whether every step has room.
pub record TallyOf (ps : List Plan) (d : List Surface) (t : Tally) : Type 0 where
  pub fits : t.fits ≡ steps_fit ps (length d) d
  pub leaving : t.leaving ≡ length (leaving_all ps d)
  pub returned : t.returned ≡ length (returned_all ps d)
  pub added : t.added ≡ length (added_all ps d)
  pub most_added : t.added ≤ max_attachments * (max_discards + 1)
