-- By the plans that are left a discard stays as by all of them.
use mathlib.Core.Path.{◌≡◌}
use lib.ListN.{drop}
use Rattle.memory_init.specs.Plans.{plans_in}
use Rattle.discard_list.specs.Discards as R
use Rattle.discard_list.proofs.stays.Given as goal

abbrev pub invariant-loop-p : goal.invariant-loop-p
invariant-loop-p l = R.stays (drop l.p-index (plans_in l.plans)) l.s ≡ R.stays (plans_in l.plans) l.s
