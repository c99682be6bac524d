-- By what refuses the pass: the check without the lists, or what `finish_summary` tells.
use mathlib.Core.Path.{sym, ap, ◌∙◌}
use Rattle.definition.specs.declared.Progress.{Progress}
use Rattle.render_pass.proofs.Summarized.{stopped}
use Rattle.render_pass.proofs.summary.summarize.Goals as goal

pub returns-then-not-is_accepted : goal.returns-then-not-is_accepted
returns-then-not-is_accepted c =
    stopped _ _ _ _ c.requires _ _ (ap (λ (q : Progress). q.verdict) c.start-judged.ensures)
    (sym c.is_accepted.ensures ∙ c.if-not-is_accepted.true) c.refused_summary.ensures
