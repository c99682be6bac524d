-- Each discard that the range hits gives the implicit action of its surface.
use lib.ListN.{drop}
use Rattle.definition.specs.Sizes.{surface_bytes, action_bytes, count_bytes}
use Rattle.definition.specs.Surfaces.{hits}
use Rattle.definition.specs.MemoryInit.{implicit_at}
use Rattle.laws.proofs.Extend.{Extending}
use Rattle.lists.specs.Lists.{surface_of, action_of_bytes}
use Rattle.recording.proofs.push_implicit_actions.Given as goal

abbrev pub invariant-loop-i : goal.invariant-loop-i
invariant-loop-i l =
    Extending surface_bytes surface_of (hits l.range) implicit_at action_bytes action_of_bytes l.n (drop count_bytes l.discards) l.y (drop count_bytes l.initial.actions) (drop count_bytes l.actions) l.end l.i
