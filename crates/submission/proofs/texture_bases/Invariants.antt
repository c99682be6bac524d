-- The entries so far, and the sum of the textures so far.
use mathlib.Core.Path.{◌≡◌}
use Prim.Native.Nat.{ℕ, ◌<◌}
use lib.ListN.{get_or}
use Rattle.definition.specs.Session.{session, surfaces_before}
use Rattle.submission.proofs.texture_bases.Given as goal

abbrev pub invariant-loop-k : goal.invariant-loop-k
invariant-loop-k l = (l.sum ≡ surfaces_before (session l.s) l.k) × ((j : ℕ) → j < l.k → get_or l.bases j 0 ≡ surfaces_before (session l.s) j)
