-- What attachments do to the lists, as plans; and what plans make of them together, told by the discards as they are found.
use Rattle.std.specs.Prelude.{ℕ, ◌+◌, ◌-◌, ◌≤◌, Bool, true, ◌&&◌, cond, List, [], ◌∷◌, ◌++◌, map, leb, length}
use Rattle.std.proofs.Math.Option.{Option, none, some}
use Rattle.definition.specs.Sizes.{max_discards, max_layers}
use Rattle.definition.specs.Surfaces.{named}
use Rattle.definition.specs.MemoryInit.{Lists, implicit_at, matching, others}
use Rattle.definition.specs.Attachments.{Attached, range_in, kind_of, discards}
use Rattle.definition.specs.declared.Surface.{Surface}
use Rattle.definition.specs.declared.Range.{Range}
use Rattle.definition.specs.declared.Action.{Action}
use Rattle.definition.specs.declared.MemoryInitKind.{MemoryInitKind}
use Rattle.definition.specs.declared.MemoryInitKind.TheVariants.{ImplicitlyInitialized, NeedsInitializedMemory}

-- Of an attachment's surfaces: the action that it registers, if any, and whether it lists a discard.
pub record Plan : Type 0 where
  pub range : Range
  pub kind : Option MemoryInitKind
  pub discards : Bool

abbrev pub plan_of : Attached → Plan
plan_of x = record { range = range_in x; kind = kind_of x; discards = discards x }

-- ── one plan, of the discards d

abbrev pub action_of : Range → MemoryInitKind → Action
action_of r k = record { range = r; kind = k }

-- The discards that leave the list, and those that stay.
abbrev pub leaving_by : Option MemoryInitKind → Range → List Surface → List Surface
leaving_by none r d = []
leaving_by (some k) r d = matching r d

abbrev pub staying_by : Option MemoryInitKind → Range → List Surface → List Surface
staying_by none r d = d
staying_by (some k) r d = others r d

-- Those that are returned as clears: what a needing action takes out.
abbrev pub returned_by : Option MemoryInitKind → Range → List Surface → List Surface
returned_by none r d = []
returned_by (some ImplicitlyInitialized) r d = []
returned_by (some NeedsInitializedMemory) r d = matching r d

-- The actions that are added: its own, and an implicit one for each clear.
abbrev pub added_by : Option MemoryInitKind → Range → List Surface → List Action
added_by none r d = []
added_by (some ImplicitlyInitialized) r d = action_of r ImplicitlyInitialized ∷ []
added_by (some NeedsInitializedMemory) r d = action_of r NeedsInitializedMemory ∷ map implicit_at (matching r d)

-- The discards that are listed.
abbrev pub listed_by : Plan → List Surface
listed_by p = cond p.discards (named p.range) []

-- ── plans in order, each of the same discards d

abbrev pub leaving_all : List Plan → List Surface → List Surface
leaving_all [] d = []
leaving_all (p ∷ ps) d = leaving_by p.kind p.range d ++ leaving_all ps d

abbrev pub staying_all : List Plan → List Surface → List Surface
staying_all [] d = d
staying_all (p ∷ ps) d = staying_all ps (staying_by p.kind p.range d)

abbrev pub returned_all : List Plan → List Surface → List Surface
returned_all [] d = []
returned_all (p ∷ ps) d = returned_by p.kind p.range d ++ returned_all ps d

abbrev pub added_all : List Plan → List Surface → List Action
added_all [] d = []
added_all (p ∷ ps) d = added_by p.kind p.range d ++ added_all ps d

abbrev pub listed_all : List Plan → List Surface
listed_all [] = []
listed_all (p ∷ ps) = listed_by p ++ listed_all ps

-- The lists after all of them: every removal before every entry.
abbrev pub together : List Plan → Lists → Lists
together ps l = record {
  discards = staying_all ps l.discards ++ listed_all ps;
  actions = l.actions ++ added_all ps l.discards;
  clears = l.clears ++ returned_all ps l.discards;
}

-- No plan has a layer past those that a texture may have.
abbrev pub Layered : List Plan → Type 0
Layered [] = Unit {0}
Layered (p ∷ ps) = (p.range.layer + p.range.layers ≤ max_layers) × Layered ps

-- ── 49, counted

-- How many discards there are after a plan, of n before it.
abbrev pub held_after : Plan → ℕ → List Surface → ℕ
held_after p n d = n - length (leaving_by p.kind p.range d) + length (listed_by p)

-- Every step has room, from n discards on.
abbrev pub steps_fit : List Plan → ℕ → List Surface → Bool
steps_fit [] n d = true
steps_fit (p ∷ ps) n d = leb (held_after p n d) max_discards && steps_fit ps (held_after p n d) d
