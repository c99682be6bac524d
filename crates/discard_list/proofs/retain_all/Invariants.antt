-- Compaction in place, with the test that the discard stays by all plans.
use lib.ListN.{drop}
use Rattle.definition.specs.Sizes.{surface_bytes, count_bytes}
use Rattle.laws.proofs.Compact.{Compacting}
use Rattle.lists.specs.Lists.{surface_of}
use Rattle.memory_init.specs.Plans.{plans_in}
use Rattle.discard_list.specs.Discards as R
use Rattle.discard_list.proofs.retain_all.Given as goal

abbrev pub invariant-loop-i : goal.invariant-loop-i
invariant-loop-i l =
    Compacting surface_bytes surface_of (R.stays (plans_in l.plans)) l.n (drop count_bytes l.initial.discards) (drop count_bytes l.discards) l.kept l.i
