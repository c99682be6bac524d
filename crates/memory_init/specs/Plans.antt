-- What the structs of this crate say of a pass's attachments.
use Rattle.std.specs.Prelude as code
use Rattle.std.specs.Prelude.{Bool, true, false, List, map, None, Some}
use Rattle.std.proofs.Math.Option.{Option, none, some}
use Rattle.definition.specs.declared.MemoryInitKind.{MemoryInitKind}
use Rattle.definition.specs.declared.MemoryInitKind.TheVariants.{ImplicitlyInitialized, NeedsInitializedMemory}
use Rattle.laws.specs.Plans.{Plan}
use Rattle.memory_init.specs.declared.Planned.{Planned}

-- What an attachment registers: the code's Option, as the definition's.
abbrev pub init_kind : code.Option MemoryInitKind → Option MemoryInitKind
init_kind None = none
init_kind (Some k) = some k

-- A needing action.
abbrev pub needs : Option MemoryInitKind → Bool
needs none = false
needs (some ImplicitlyInitialized) = false
needs (some NeedsInitializedMemory) = true

-- A plan, and the plans of a pass.
abbrev pub plan_in : Planned → Plan
plan_in p = record { range = p.range; kind = init_kind p.kind; discards = p.discards }

abbrev pub plans_in : List Planned → List Plan
plans_in ps = map plan_in ps
