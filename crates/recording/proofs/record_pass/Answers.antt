-- Each list has the room that its part asks for, and what the parts leave is what the plans leave together.
use Rattle.lists.specs.Lent.{ListBytes, bytes}
use Rattle.memory_init.specs.Plans.{plans_in}
use Rattle.recording.proofs.Pass.{actions_room, clears_room, pass_leaves}
use Rattle.recording.proofs.record_pass.Goals as goal

pub record_actions-requires-clause-room : goal.record_actions-requires-clause-room
record_actions-requires-clause-room c =
    let b : ListBytes = bytes c.args.discards.now c.args.actions.now c.args.clears.now in
    actions_room (plans_in c.args.plans.now) c.args.t b c.requires _ c.looked_at-n.ensures

pub return_clears-requires-clause-room : goal.return_clears-requires-clause-room
return_clears-requires-clause-room c =
    let b : ListBytes = bytes c.args.discards.now c.args.actions.now c.args.clears.now in
    clears_room (plans_in c.args.plans.now) c.args.t b c.requires _ c.looked_at-n.ensures

pub returns : goal.returns
returns c =
    let b : ListBytes = bytes c.args.discards.now c.args.actions.now c.args.clears.now in
    pass_leaves (plans_in c.args.plans.now) c.args.t b c.requires _ c.looked_at-n.ensures c.record_discards.ensures c.record_actions.ensures c.return_clears.ensures
