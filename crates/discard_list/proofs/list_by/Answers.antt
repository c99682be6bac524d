-- A plan that discards lists the layers of its range; another lists none.
use Rattle.std.proofs.Common.{arith, ap, length}
use Rattle.definition.specs.declared.Range.{Range}
use Rattle.laws.proofs.Surfaces.{layers_count}
use Rattle.laws.proofs.Plans.{listed_yes}
use Rattle.memory_init.specs.Plans.{plan_in}
use Rattle.discard_list.proofs.list_by.Goals as goal

pub list_layers-requires-clause-layers_inside : goal.list_layers-requires-clause-layers_inside
list_layers-requires-clause-layers_inside c =
    let r : Range = c.args.p.now.range in
    omega (arith, c.requires.listed_inside, ap length (listed_yes (plan_in c.args.p.now) c.if-p.true), layers_count r.texture r.mip r.slice r.layer r.layers)
