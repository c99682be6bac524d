-- Each discard that the range hits is appended to the clears as it is.
use lib.ListN.{drop}
use Rattle.definition.specs.Sizes.{surface_bytes, count_bytes}
use Rattle.definition.specs.Surfaces.{hits}
use Rattle.laws.proofs.Extend.{Extending}
use Rattle.lists.specs.Lists.{surface_of}
use Rattle.recording.proofs.return_matching.Given as goal

abbrev pub invariant-loop-i : goal.invariant-loop-i
invariant-loop-i l =
    Extending surface_bytes surface_of (hits l.range) (λ s. s) surface_bytes surface_of l.n (drop count_bytes l.discards) l.y (drop count_bytes l.initial.clears) (drop count_bytes l.clears) l.end l.i
