-- The invariant: the sum is the count of the first k textures, stopped at one past the most surfaces.
use Rattle.std.proofs.Common.{◌≡◌, ◌+◌, ◌≤◌}
use Rattle.definition.specs.Sizes.{max_surfaces}
use Rattle.definition.specs.Session.{session}
use Rattle.session.specs.Counted.{surfaces_up_to}
use Rattle.session.proofs.surfaces.surfaces_before.Given as goal

abbrev pub invariant-loop-k : goal.invariant-loop-k
invariant-loop-k l = (l.sum ≡ surfaces_up_to (session l.s) l.k) × (l.sum ≤ max_surfaces + 1)
