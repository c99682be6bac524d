-- Layers of one slice of a mip meet exactly where their intervals do.
use Rattle.laws.proofs.Overlap.{spans_meet, layers_meet_lem}
use Rattle.view_checks.proofs.overlap.layers_meet.Goals as goal

pub returns : goal.returns
unfolding spans_meet
returns c = simp layers_meet_lem
