-- What the plans so far find, with what those that are left find, is what all find.
use Rattle.std.proofs.Common.{◌+◌, arith, sym, ap₂, ◌∙◌}
use Rattle.definition.specs.Sizes.{surface_bytes}
use Rattle.lists.specs.Lists.{surface_of}
use Rattle.lists.proofs.Lists.{list_length}
use Rattle.memory_init.proofs.Turns.{plans_turn}
use Rattle.memory_init.proofs.Counting.{tally_start, tally_turn}
use Rattle.memory_init.proofs.tally.tally_pass.Goals as goal

pub loop-p-init : goal.loop-p-init
loop-p-init c = tally_start _ _ _ (c.count-held.ensures ∙ sym (list_length surface_bytes surface_of c.args.discards.now)) (omega arith)

pub loop-p-preserved : goal.loop-p-preserved
loop-p-preserved c =
    tally_turn c.loop-p.invariant _ (plans_turn c.args.plans.now _ c.loop-p.p-index (omega arith)) c.found_by-found.result c.found_by-found.ensures _
    (ap₂ ◌+◌ c.saturating_sub.ensures c.listed_by.ensures) (omega arith)
