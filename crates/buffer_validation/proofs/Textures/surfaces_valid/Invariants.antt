-- The invariant: each of the first i surfaces is in range.
use mathlib.Core.Path.{◌≡◌}
use mathlib.Core.Bool.{true}
use Rattle.definition.specs.Session.{session}
use Rattle.definition.specs.Calls.{surfaces_valid}
use Rattle.lists.specs.Lists.{first_surfaces}
use Rattle.buffer_validation.proofs.Textures.surfaces_valid.Given as goal

abbrev pub invariant-loop-i : goal.invariant-loop-i
invariant-loop-i l = surfaces_valid (session l.self.bytes.now) (first_surfaces l.i l.b) ≡ true
