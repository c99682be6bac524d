-- The invariant: what the plans that are left return, behind what the list has so far, is what all return.
use lib.ListN.{drop}
use Rattle.definition.specs.Sizes.{surface_bytes, count_bytes}
use Rattle.laws.specs.Plans.{returned_all}
use Rattle.lists.specs.Lists.{surface_of, first_surfaces}
use Rattle.memory_init.specs.Plans.{plans_in}
use Rattle.memory_init.proofs.Entries.{Appending}
use Rattle.recording.proofs.return_clears.Given as goal

abbrev pub invariant-loop-p : goal.invariant-loop-p
invariant-loop-p l =
    let ps = plans_in l.plans in
    let d = first_surfaces l.n l.discards in
    Appending surface_bytes surface_of 0 (returned_all ps d) (drop count_bytes l.initial.clears) (returned_all (drop l.p-index ps) d) (drop count_bytes l.clears) l.end
