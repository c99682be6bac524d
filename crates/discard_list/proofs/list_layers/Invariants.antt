-- The layers that are left, behind what stands there so far, are all of them behind the first n.
use lib.ListN.{drop}
use Rattle.definition.specs.Sizes.{surface_bytes, count_bytes}
use Rattle.definition.specs.Surfaces.{layers_of}
use Rattle.lists.specs.Lists.{surface_of}
use Rattle.memory_init.proofs.Entries.{Appending}
use Rattle.discard_list.proofs.Discards.{layers_left}
use Rattle.discard_list.proofs.list_layers.Given as goal

abbrev pub invariant-loop-i : goal.invariant-loop-i
invariant-loop-i l =
    Appending surface_bytes surface_of l.n (layers_of l.range) (drop count_bytes l.initial.discards) (layers_left l.range l.i) (drop count_bytes l.discards) l.end
