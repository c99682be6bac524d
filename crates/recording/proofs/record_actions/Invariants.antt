-- The invariant: what the plans that are left add, behind what the list has so far, is what all add behind what it had.
use lib.ListN.{drop}
use Rattle.definition.specs.Sizes.{action_bytes, count_bytes}
use Rattle.laws.specs.Plans.{added_all}
use Rattle.lists.specs.Lists.{action_of_bytes, count_in, first_surfaces}
use Rattle.memory_init.specs.Plans.{plans_in}
use Rattle.memory_init.proofs.Entries.{Appending}
use Rattle.recording.proofs.record_actions.Given as goal

abbrev pub invariant-loop-p : goal.invariant-loop-p
invariant-loop-p l =
    let ps = plans_in l.plans in
    let d = first_surfaces l.n l.discards in
    Appending action_bytes action_of_bytes (count_in l.initial.actions) (added_all ps d) (drop count_bytes l.initial.actions) (added_all (drop l.p-index ps) d) (drop count_bytes l.actions) l.end
