use Rattle.definition.specs.Verdict.{◌then◌}
use Rattle.definition.proofs.verdicts.then.Goals as goal

pub returns : goal.returns
unfolding ◌then◌
returns c = simp (c.either.ensures, c.is_accepted.ensures)
