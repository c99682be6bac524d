-- That the loop has come so far is the flat list's own invariant, of the records' numbers.
use Rattle.texture_surface_discards.proofs.Compaction.{Going}
use Rattle.texture_surface_discards.proofs.deskcheck_retain.Given as goal

abbrev pub invariant-loop-i : goal.invariant-loop-i
invariant-loop-i l = Going l.range l.n l.initial.discards l.discards l.kept l.i
