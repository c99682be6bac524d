-- A status byte: 1 filled, plus 2 if the last submission cleared it. A lent byte over 3 is refused as 6; the clauses give it the answers of 3.
use Rattle.std.specs.Prelude.{Bool, true, false, ℕ, zero, suc}
use Rattle.definition.specs.declared.MemoryInitKind.{MemoryInitKind}
use Rattle.definition.specs.declared.MemoryInitKind.TheVariants.{ImplicitlyInitialized, NeedsInitializedMemory}

unfoldable pub filled : ℕ → Bool
filled zero = false
filled (suc zero) = true
filled (suc (suc zero)) = false
filled (suc (suc (suc n))) = true

unfoldable pub cleared : ℕ → Bool
cleared zero = false
cleared (suc zero) = false
cleared (suc (suc n)) = true

-- A submission begins: it has cleared nothing yet.
unfoldable pub restart : ℕ → ℕ
restart zero = 0
restart (suc zero) = 1
restart (suc (suc zero)) = 0
restart (suc (suc (suc n))) = 1

-- An action at a surface: a needing one clears and fills an empty surface, an implicit one marks it filled.
unfoldable pub act_byte : MemoryInitKind → ℕ → ℕ
act_byte NeedsInitializedMemory zero = 3
act_byte NeedsInitializedMemory (suc zero) = 1
act_byte NeedsInitializedMemory (suc (suc zero)) = 3
act_byte NeedsInitializedMemory (suc (suc (suc n))) = suc (suc (suc n))
act_byte ImplicitlyInitialized zero = 1
act_byte ImplicitlyInitialized (suc zero) = 1
act_byte ImplicitlyInitialized (suc (suc zero)) = 3
act_byte ImplicitlyInitialized (suc (suc (suc n))) = suc (suc (suc n))

-- A discard at a surface marks it empty.
unfoldable pub empty_byte : ℕ → ℕ
empty_byte zero = 0
empty_byte (suc zero) = 0
empty_byte (suc (suc zero)) = 2
empty_byte (suc (suc (suc n))) = 2
