-- A plan that discards lists as many as its range has layers.
use mathlib.Core.Path.{sym, ap, ◌∙◌}
use lib.ListN.{length}
use Rattle.definition.specs.declared.Range.{Range}
use Rattle.laws.proofs.Surfaces.{layers_count}
use Rattle.laws.proofs.Plans.{listed_yes}
use Rattle.memory_init.specs.Plans.{plan_in}
use Rattle.memory_init.proofs.tally.listed_by.Goals as goal

pub returns-then-p : goal.returns-then-p
returns-then-p c =
    let p = plan_in c.args.p.now in
    let r : Range = p.range in
    sym (ap length (listed_yes p c.if-p.true) ∙ layers_count r.texture r.mip r.slice r.layer r.layers)
