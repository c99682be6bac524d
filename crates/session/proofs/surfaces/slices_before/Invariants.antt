-- The invariant: the sum is that of the mips before this one. What is left behind mip 32 is one slice each.
use Rattle.std.proofs.Common.{◌≡◌, ◌*◌, ◌≤◌}
use Rattle.definition.specs.Session.{mips_before}
use Rattle.session.proofs.surfaces.slices_before.Given as goal

abbrev pub invariant-loop-mip : goal.invariant-loop-mip
invariant-loop-mip l = (l.sum ≡ mips_before l.t l.mip) × (l.sum ≤ 4294967296 * l.mip)
