-- The discard, action and clear lists of one command buffer (memory_init.rs).
use Rattle.std.specs.Prelude.{Bool, true, false, not, cond, List, [], ◌∷◌, ◌++◌, map}
use Rattle.std.proofs.Math.Option.{Option, none, some}
use Rattle.definition.specs.Surfaces.{hits, named, only_range}
use Rattle.definition.specs.declared.Surface.{Surface}
use Rattle.definition.specs.declared.Range.{Range}
use Rattle.definition.specs.declared.Action.{Action}
use Rattle.definition.specs.declared.MemoryInitKind.{MemoryInitKind}
use Rattle.definition.specs.declared.MemoryInitKind.TheVariants.{ImplicitlyInitialized, NeedsInitializedMemory}

pub record Lists : Type 0 where
  pub discards : List Surface
  pub actions : List Action
  pub clears : List Surface

abbrev pub implicit_at : Surface → Action
implicit_at s = record { range = only_range s; kind = ImplicitlyInitialized }

-- Vec::retain: the entries that pass the test, in order.
abbrev pub retain : {A : Type 0} → (A → Bool) → List A → List A
retain f [] = []
retain f (x ∷ xs) = cond (f x) (x ∷ retain f xs) (retain f xs)

-- The discards in the range, which leave the list, and those that stay.
abbrev pub matching : Range → List Surface → List Surface
matching r d = retain (hits r) d

abbrev pub others : Range → List Surface → List Surface
others r d = retain (λ s. not (hits r s)) d

-- register_init_action: the action is added and matching discards leave the list; a needing action returns each as a clear and adds an implicit action for it.
unfoldable pub register_init_action : Range → MemoryInitKind → Lists → Lists
register_init_action r NeedsInitializedMemory l = record {
  discards = others r l.discards;
  actions = l.actions ++ (record { range = r; kind = NeedsInitializedMemory } ∷ map implicit_at (matching r l.discards));
  clears = l.clears ++ matching r l.discards;
}
register_init_action r ImplicitlyInitialized l = record {
  discards = others r l.discards;
  actions = l.actions ++ (record { range = r; kind = ImplicitlyInitialized } ∷ []);
  clears = l.clears;
}

-- What an attachment does to the lists: a registration or none, then a discard or none.
abbrev pub registered : Range → Option MemoryInitKind → Lists → Lists
registered r none l = l
registered r (some k) l = register_init_action r k l

abbrev pub discarded : Range → Bool → Lists → Lists
discarded r false l = l
discarded r true l = record { discards = l.discards ++ named r; actions = l.actions; clears = l.clears }

abbrev pub apply_plan : Range → Option MemoryInitKind → Bool → Lists → Lists
apply_plan r k d l = discarded r d (registered r k l)
