-- A pass of a whole session: what stands for the lists, and what is said of the pass.
use Rattle.std.specs.Prelude.{ℕ, ◌≤◌, ◌≡◌, true, List, length}
use Rattle.definition.specs.Sizes.{max_actions, max_clears}
use Rattle.definition.specs.Session.{Pass, Session}
use Rattle.definition.specs.Readable.{textures_valid, views_valid}
use Rattle.definition.specs.MemoryInit.{Lists}
use Rattle.definition.specs.Pass.{Outcome, check_pass}
use Rattle.definition.specs.declared.Verdict.{Verdict}
use Rattle.lists.specs.Lists.{surfaces_in}
use Rattle.memory_init.specs.Tally.{DiscardsInRoom}
use Rattle.render_pass.specs.declared.summary.PassSummary.{PassSummary}

abbrev pub refused_summary : Verdict → ℕ → PassSummary
refused_summary v actions = record { verdict = v; width = 0; height = 0; samples = 0; clears = 0; actions = actions }

-- What the outcome o says of a pass.
abbrev pub summary : Outcome → PassSummary
summary o = record {
  verdict = o.reply.verdict;
  width = o.reply.width;
  height = o.reply.height;
  samples = o.reply.samples;
  clears = length o.reply.clears;
  actions = length o.lists.actions;
}

-- The discards d and n actions stand for the lists l.
pub record StandFor (d : List ℕ) (n : ℕ) (l : Lists) : Type 0 where
  pub discards : surfaces_in d ≡ l.discards
  pub actions : n ≡ length l.actions

-- Valid textures and views, and discards and actions in their room.
pub record Summarizable (S : Session) (d : List ℕ) (n : ℕ) : Type 0 where
  pub textures : textures_valid S ≡ true
  pub views : views_valid S ≡ true
  pub held : DiscardsInRoom d
  pub actions : n ≤ max_actions

-- Of any lists that they stand for: r says what the check says, and discards and actions then stand for the lists that it leaves.
pub record Summarized (S : Session) (p : Pass) (d : List ℕ) (n : ℕ) (r : PassSummary) (d' : List ℕ) : Type 0 where
  pub said : (l : Lists) → StandFor d n l → r ≡ summary (check_pass S p l)
  pub left : (l : Lists) → StandFor d n l → StandFor d' r.actions (check_pass S p l).lists
  pub held : DiscardsInRoom d'
  pub few_actions : r.actions ≤ max_actions
  pub few_clears : r.clears ≤ max_clears
