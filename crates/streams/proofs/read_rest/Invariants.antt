-- What is counted is what was counted at the start and what was read. Each turn but the last reads a byte or more, and none is made past the
-- bound.
use Rattle.std.proofs.Common.{◌≡◌, ℕ, List, ◌+◌, ◌-◌, ◌≤◌, length}
use Rattle.std.specs.Io.KnownBytes.{Consumes}
use Rattle.report.specs.Oversize.{length_bound}
use Rattle.streams.proofs.read_rest.Given as goal

abbrev pub invariant-loop-space : goal.invariant-loop-space
invariant-loop-space g l = record {
  grown : l.from ≤ l.bytes;
  read : (bs : List ℕ) × (l.bytes ≡ l.from + length bs) × Consumes (g.R.Read.remaining l.initial.input) (g.R.Read.remaining l.input) bs;
}

abbrev pub decreases-loop-space : goal.decreases-loop-space
decreases-loop-space g l = length_bound - l.bytes
