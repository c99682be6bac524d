-- The bytes of the seven numbers are the action's; a kind's number is its variant's.
use mathlib.Core.Path.{◌≡◌, refl}
use denote.Enum.Declared.{tag_of}
use Rattle.definition.specs.contracts.MemoryInitKind.{the_type}
use Rattle.definition.specs.declared.MemoryInitKind.{MemoryInitKind}
use Rattle.definition.specs.declared.MemoryInitKind.TheVariants.{ImplicitlyInitialized, NeedsInitializedMemory}
use Rattle.lists.specs.Lists.{number_of}
use Rattle.lists.proofs.Bytes.{action_stored}
use Rattle.lists.proofs.put_action.Goals as goal

number : (kind : MemoryInitKind) → tag_of the_type kind ≡ number_of kind
number ImplicitlyInitialized = refl
number NeedsInitializedMemory = refl

pub returns : goal.returns
returns c =
    action_stored _ _ _ _ _ _ _ _ _ _ c.args.range c.args.kind c.requires (number c.args.kind) c.put_u32_inside.ensures
    c.put_u32_inside-2.ensures c.put_u32_inside-3.ensures c.put_u32_inside-4.ensures c.put_u32_inside-5.ensures
    c.put_u32_inside-6.ensures c.put_u32_inside-7.ensures
