-- What recording a pass asks of the lent lists, and how many discards it looks at.
use Rattle.std.specs.Prelude.{ℕ, List, cond, eqb}
use Rattle.definition.specs.Pass.{new_pass}
use Rattle.laws.specs.Plans.{Plan, together, Layered}
use Rattle.lists.specs.Lists.{surfaces_in}
use Rattle.lists.specs.Lent.{ListBytes, lists_in, Long, Fits}
use Rattle.memory_init.specs.declared.tally.Tally.{Tally}
use Rattle.memory_init.specs.Tally.{DiscardsInRoom, TallyOf}

-- How many of n discards are looked at: none where none leaves.
abbrev pub looked : ℕ → ℕ → ℕ
looked leaving n = cond (eqb leaving 0) 0 n

-- Lent lists that have room for what the plans leave, which t has counted.
pub record Recordable (ps : List Plan) (t : Tally) (b : ListBytes) : Type 0 where
  pub tallied : TallyOf ps (surfaces_in b.discards) t
  pub long : Long b
  pub held : DiscardsInRoom b.discards
  pub layers : Layered ps
  pub fits : Fits (together ps (new_pass (lists_in b)))
