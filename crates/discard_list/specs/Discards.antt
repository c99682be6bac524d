-- Which discards stay, and what recording asks of lent discards and leaves in them.
use Rattle.std.specs.Prelude.{ℕ, ◌*◌, ◌≤◌, ◌≡◌, Bool, true, not, ◌&&◌, List, [], ◌∷◌, ◌++◌, length, drop}
use Rattle.std.proofs.Math.Option.{Option, none, some}
use Rattle.definition.specs.Sizes.{surface_bytes}
use Rattle.definition.specs.Surfaces.{hits}
use Rattle.definition.specs.declared.Surface.{Surface}
use Rattle.definition.specs.declared.Range.{Range}
use Rattle.definition.specs.declared.MemoryInitKind.{MemoryInitKind}
use Rattle.laws.specs.Records.{records}
use Rattle.laws.specs.Plans.{Plan, leaving_all, staying_all, listed_all, Layered}
use Rattle.lists.specs.Lists.{surface_of, surfaces_in, Room}
use Rattle.memory_init.specs.Tally.{DiscardsInRoom}

-- Whether a surface stays in the discards by a registration or none, and by all plans.
abbrev pub stays_by : Option MemoryInitKind → Range → Surface → Bool
stays_by none r s = true
stays_by (some k) r s = not (hits r s)

abbrev pub stays : List Plan → Surface → Bool
stays [] s = true
stays (p ∷ ps) s = stays_by p.kind p.range s && stays ps s

-- Of the first n records of l, l' has first those that f leaves, r in all; the bytes past them stay.
pub record Keeps (f : List Surface → List Surface) (n r : ℕ) (l l' : List ℕ) : Type 0 where
  pub first : records surface_bytes surface_of r l' ≡ f (records surface_bytes surface_of n l)
  pub past : drop (surface_bytes * r) l' ≡ drop (surface_bytes * r) l
  pub fewer : r ≤ n

-- Lent discards of which so many leave, with room for those that stay and those that the plans list.
pub record LentDiscards (ps : List Plan) (leaving : ℕ) (b : List ℕ) : Type 0 where
  pub held : DiscardsInRoom b
  pub counted : leaving ≡ length (leaving_all ps (surfaces_in b))
  pub layers : Layered ps
  pub room : Room surface_bytes (length (staying_all ps (surfaces_in b) ++ listed_all ps)) b
