-- Laws of status bytes, by the clauses of the byte: 0, 1, 2, and 3 and more.
use mathlib.Core.Path.{◌≡◌, refl, ap}
use mathlib.Core.Logic.{◌≢◌}
use mathlib.Core.Bool.{true, false}
use Prim.Native.Nat.{ℕ, zero, suc, ◌≤◌}
use native.Mathlib.Omega.{arith}
use Rattle.definition.specs.Status.{filled, cleared, restart, act_byte, empty_byte}
use Rattle.definition.specs.declared.MemoryInitKind.{MemoryInitKind}
use Rattle.definition.specs.declared.MemoryInitKind.TheVariants.{ImplicitlyInitialized, NeedsInitializedMemory}
use Rattle.laws.proofs.Tests.{clash}

-- A law of every byte is one of each clause.
by_clause : (P : ℕ → Type 0) → P 0 → P 1 → P 2 → ((n : ℕ) → P (suc (suc (suc n)))) → (b : ℕ) → P b
by_clause P none one two more zero = none
by_clause P none one two more (suc zero) = one
by_clause P none one two more (suc (suc zero)) = two
by_clause P none one two more (suc (suc (suc n))) = more n

-- ── filled

pub filled_fresh : filled 0 ≡ false
unfolding filled
filled_fresh = refl

pub filled_restart : (b : ℕ) → filled (restart b) ≡ filled b
unfolding filled restart
filled_restart = by_clause (λ b. filled (restart b) ≡ filled b) refl refl refl (λ n. refl)

-- Every action leaves its surfaces filled, a discard leaves them empty.
pub filled_act : (k : MemoryInitKind) (b : ℕ) → filled (act_byte k b) ≡ true
unfolding filled act_byte
filled_act NeedsInitializedMemory = by_clause (λ b. filled (act_byte NeedsInitializedMemory b) ≡ true) refl refl refl (λ n. refl)
filled_act ImplicitlyInitialized = by_clause (λ b. filled (act_byte ImplicitlyInitialized b) ≡ true) refl refl refl (λ n. refl)

pub filled_empty : (b : ℕ) → filled (empty_byte b) ≡ false
unfolding filled empty_byte
filled_empty = by_clause (λ b. filled (empty_byte b) ≡ false) refl refl refl (λ n. refl)

-- ── cleared

-- A submission begins with nothing cleared.
pub cleared_restart : (b : ℕ) → cleared (restart b) ≡ false
unfolding cleared restart
cleared_restart = by_clause (λ b. cleared (restart b) ≡ false) refl refl refl (λ n. refl)

-- What is cleared stays so, through actions and discards.
pub cleared_act : (k : MemoryInitKind) (b : ℕ) → cleared b ≡ true → cleared (act_byte k b) ≡ true
unfolding cleared act_byte
cleared_act NeedsInitializedMemory =
    by_clause (λ b. cleared b ≡ true → cleared (act_byte NeedsInitializedMemory b) ≡ true) (λ h. clash {b = false} h refl) (λ h. clash {b = false} h refl) (λ h. refl) (λ n h. refl)
cleared_act ImplicitlyInitialized =
    by_clause (λ b. cleared b ≡ true → cleared (act_byte ImplicitlyInitialized b) ≡ true) (λ h. clash {b = false} h refl) (λ h. clash {b = false} h refl) (λ h. refl) (λ n h. refl)

pub cleared_empty : (b : ℕ) → cleared (empty_byte b) ≡ cleared b
unfolding cleared empty_byte
cleared_empty = by_clause (λ b. cleared (empty_byte b) ≡ cleared b) refl refl refl (λ n. refl)

-- A needing action at an empty surface clears it.
pub needing_clears : (b : ℕ) → filled b ≡ false → cleared (act_byte NeedsInitializedMemory b) ≡ true
unfolding filled cleared act_byte
needing_clears =
    by_clause (λ b. filled b ≡ false → cleared (act_byte NeedsInitializedMemory b) ≡ true) (λ h. refl) (λ h. clash {b = true} refl h) (λ h. refl) (λ n h. clash {b = true} refl h)

-- ── where an action does nothing

-- At a byte that is neither 0 nor 2.
pub act_other : (k : MemoryInitKind) (b : ℕ) → b ≢ 0 → b ≢ 2 → act_byte k b ≡ b
unfolding act_byte
act_other NeedsInitializedMemory =
    by_clause (λ b. b ≢ 0 → b ≢ 2 → act_byte NeedsInitializedMemory b ≡ b) (λ h g. absurd (h refl)) (λ h g. refl) (λ h g. absurd (g refl)) (λ n h g. refl)
act_other ImplicitlyInitialized =
    by_clause (λ b. b ≢ 0 → b ≢ 2 → act_byte ImplicitlyInitialized b ≡ b) (λ h g. absurd (h refl)) (λ h g. refl) (λ h g. absurd (g refl)) (λ n h g. refl)

-- At a filled surface.
pub act_filled : (k : MemoryInitKind) (b : ℕ) → filled b ≡ true → act_byte k b ≡ b
unfolding filled
act_filled k b h = act_other k b (λ e. clash h (ap filled e)) (λ e. clash h (ap filled e))

-- A second time.
pub act_twice : (k : MemoryInitKind) (b : ℕ) → act_byte k (act_byte k b) ≡ act_byte k b
act_twice k b = act_filled k (act_byte k b) (filled_act k b)

pub empty_twice : (b : ℕ) → empty_byte (empty_byte b) ≡ empty_byte b
unfolding empty_byte
empty_twice = by_clause (λ b. empty_byte (empty_byte b) ≡ empty_byte b) refl refl refl (λ n. refl)

-- ── at most 3

pub act_most : (k : MemoryInitKind) (b : ℕ) → b ≤ 3 → act_byte k b ≤ 3
unfolding act_byte
act_most NeedsInitializedMemory =
    by_clause (λ b. b ≤ 3 → act_byte NeedsInitializedMemory b ≤ 3) (λ h. omega arith) (λ h. omega arith) (λ h. omega arith) (λ n h. h)
act_most ImplicitlyInitialized =
    by_clause (λ b. b ≤ 3 → act_byte ImplicitlyInitialized b ≤ 3) (λ h. omega arith) (λ h. omega arith) (λ h. omega arith) (λ n h. h)

pub empty_most : (b : ℕ) → empty_byte b ≤ 3
unfolding empty_byte
empty_most = by_clause (λ b. empty_byte b ≤ 3) (omega arith) (omega arith) (omega arith) (λ n. omega arith)

pub restart_most : (b : ℕ) → restart b ≤ 3
unfolding restart
restart_most = by_clause (λ b. restart b ≤ 3) (omega arith) (omega arith) (omega arith) (λ n. omega arith)
