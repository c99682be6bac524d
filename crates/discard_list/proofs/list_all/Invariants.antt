-- The invariant: what the plans that are left list, behind what stands there so far, is what all list behind the first n.
use lib.ListN.{drop}
use Rattle.definition.specs.Sizes.{surface_bytes, count_bytes}
use Rattle.laws.specs.Plans.{listed_all}
use Rattle.lists.specs.Lists.{surface_of}
use Rattle.memory_init.specs.Plans.{plans_in}
use Rattle.memory_init.proofs.Entries.{Appending}
use Rattle.discard_list.proofs.list_all.Given as goal

abbrev pub invariant-loop-p : goal.invariant-loop-p
invariant-loop-p l =
    let ps = plans_in l.plans in
    Appending surface_bytes surface_of l.n (listed_all ps) (drop count_bytes l.initial.discards) (listed_all (drop l.p-index ps)) (drop count_bytes l.discards) l.end
