-- By what refuses the pass: the check without the lists, or what `finish` tells.
use mathlib.Core.Path.{sym, ap, ◌∙◌}
use Rattle.definition.specs.declared.Progress.{Progress}
use Rattle.render_pass.proofs.Checked.{stopped}
use Rattle.render_pass.proofs.check_pass.Goals as goal

pub returns-then-not-is_accepted : goal.returns-then-not-is_accepted
returns-then-not-is_accepted c =
    stopped _ _ _ c.requires _ _ (ap (λ (q : Progress). q.verdict) c.start-judged.ensures)
    (sym c.is_accepted.ensures ∙ c.if-not-is_accepted.true) c.refusal.ensures
