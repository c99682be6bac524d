-- What the plans so far find, with what those that are left find, is what all find.
use Rattle.lists.specs.Lists.{surfaces_in}
use Rattle.memory_init.specs.Plans.{plans_in}
use Rattle.memory_init.proofs.Counting.{Tallying}
use Rattle.memory_init.proofs.tally.tally_pass.Given as goal

abbrev pub invariant-loop-p : goal.invariant-loop-p
invariant-loop-p l = Tallying (plans_in l.plans) (surfaces_in l.discards) l.p-index l.held l.tally.fits l.tally.leaving l.tally.returned l.tally.added
