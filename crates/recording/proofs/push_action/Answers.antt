-- The action is written, and of a needing one the implicit ones behind it.
use Rattle.laws.proofs.Records.{write_append, append_twice}
use Rattle.lists.specs.Lists.{first_surfaces}
use Rattle.memory_init.proofs.Entries.{appended_as, added_implicit, added_needing}
use Rattle.recording.proofs.push_action.Goals as goal

pub returns-in-ImplicitlyInitialized : goal.returns-in-ImplicitlyInitialized
returns-in-ImplicitlyInitialized c =
    let d = first_surfaces c.args.n c.args.discards.now in
    appended_as (added_implicit c.args.range d c.args.kind c.in-ImplicitlyInitialized.is) (write_append _ _ _ _ _ _ c.put_action.ensures)

pub returns-in-NeedsInitializedMemory : goal.returns-in-NeedsInitializedMemory
returns-in-NeedsInitializedMemory c =
    let d = first_surfaces c.args.n c.args.discards.now in
    appended_as (added_needing c.args.range d c.args.kind c.in-NeedsInitializedMemory.is)
    (append_twice _ _ _ _ _ _ _ _ _ _ (write_append _ _ _ _ _ _ c.put_action.ensures) c.push_implicit_actions.ensures)
