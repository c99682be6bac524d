-- The invariant: each of the first i actions is in range.
use mathlib.Core.Path.{◌≡◌}
use mathlib.Core.Bool.{true}
use Rattle.definition.specs.Session.{session}
use Rattle.definition.specs.Calls.{actions_valid}
use Rattle.lists.specs.Lists.{first_actions}
use Rattle.buffer_validation.proofs.Textures.actions_valid.Given as goal

abbrev pub invariant-loop-i : goal.invariant-loop-i
invariant-loop-i l = actions_valid (session l.self.bytes.now) (first_actions l.i l.b) ≡ true
