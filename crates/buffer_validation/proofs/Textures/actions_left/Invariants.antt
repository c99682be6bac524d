-- The invariant: each of the actions before those that are left is in range.
use mathlib.Core.Path.{◌≡◌}
use mathlib.Core.Bool.{true}
use Prim.Native.Nat.{◌-◌, ◌≤◌}
use Rattle.definition.specs.Session.{session}
use Rattle.definition.specs.Calls.{actions_valid}
use Rattle.lists.specs.Lists.{first_actions}
use Rattle.buffer_validation.proofs.Textures.actions_left.Given as goal

abbrev pub invariant-loop-left : goal.invariant-loop-left
invariant-loop-left l = (actions_valid (session l.self.bytes.now) (first_actions (l.n - l.left) l.b) ≡ true) × (l.left ≤ l.n)

abbrev pub decreases-loop-left : goal.decreases-loop-left
decreases-loop-left l = l.left
