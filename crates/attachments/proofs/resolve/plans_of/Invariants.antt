-- The invariant: the plans are those before the loop, then those of the attachments of the first k slots.
use Prim.Native.Nat.{◌+◌, ◌*◌, ◌≤◌}
use mathlib.Core.List.{List, ◌++◌}
use Rattle.definition.specs.Attachments.{Attached, slot_parts}
use Rattle.laws.specs.Plans.{plan_of}
use Rattle.session.specs.Rows.{pass_in, session_in}
use Rattle.memory_init.specs.declared.Planned.{Planned}
use Rattle.memory_init.specs.Plans.{plan_in}
use Rattle.attachments.proofs.Resolving.{Filled}
use Rattle.attachments.proofs.resolve.plans_of.Given as goal

abbrev pub invariant-loop-k : goal.invariant-loop-k
invariant-loop-k l = ((start : List Planned) (xs : List Attached) → Filled plan_in plan_of start l.initial.planned l.initial.count xs → Filled plan_in plan_of start l.planned l.count (xs ++ slot_parts (session_in l.pass) (pass_in l.pass) l.k))
    × (l.initial.count ≤ 1) × (l.count ≤ l.initial.count + 2 * l.k)
