-- The theorem speaks of the run of Example.
use Prim.Native.Nat.{ℕ}
use mathlib.Core.Path.{◌≡◌, refl}
use mathlib.Core.Bool.{false}
use mathlib.Core.List.{List}
use Rattle.definition.specs.Computing.{computing}
use Rattle.laws.specs.Records.{record_at, records}
use Rattle.lists.specs.Lists.{surface_of, action_of_bytes}
use Rattle.buffer_validation.specs.Buffers.{too_short}
use Rattle.noninterference.specs.Memory.{Drawing, Contents}
use Rattle.desk.specs.EntryPoints.Theorem.{MaskedIn, HiddenIn}
use Rattle.desk.proofs.EntryPoints.Theorem.{demand_three_of_calls}
use Rattle.desk.proofs.EntryPoints.Example.{example, first, turns, fresh, run}

module _ (x y z w : List ℕ) (long : too_short (first x y z w) ≡ false) where
  -- Its view has one layer, so that no mask is asked for.
  masked : MaskedIn example (turns x y z w)
  unfolding computing surface_of action_of_bytes record_at records
  masked = refl

  pub hidden : (Val : Type 0) (D : Drawing Val) (c c' : Contents Val) → HiddenIn D c c' example (first x y z w) (turns x y z w)
  unfolding computing
  hidden = demand_three_of_calls example refl refl (first x y z w) (fresh x y z w long) (turns x y z w) (run x y z w long) masked
