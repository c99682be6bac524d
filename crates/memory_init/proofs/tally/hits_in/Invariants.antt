-- The count so far is that of the records so far.
use Prim.Native.Nat.{◌≤◌}
use mathlib.Core.Path.{◌≡◌}
use lib.ListN.{length, drop}
use Rattle.definition.specs.Sizes.{surface_bytes, count_bytes}
use Rattle.definition.specs.MemoryInit.{matching}
use Rattle.laws.specs.Records.{records}
use Rattle.lists.specs.Lists.{surface_of}
use Rattle.memory_init.proofs.tally.hits_in.Given as goal

abbrev pub invariant-loop-i : goal.invariant-loop-i
invariant-loop-i l = (l.y ≡ length (matching l.range (records surface_bytes surface_of l.i (drop count_bytes l.discards)))) × (l.y ≤ l.i)
