-- A resolve target meets its colour view and what is taken before it where it meets either.
use mathlib.Core.Path.{sym, ap}
use mathlib.Core.Bool.{not}
use Rattle.definition.specs.Verdict.{unless}
use Rattle.definition.specs.Views.{takes, overlap_verdict}
use Rattle.laws.proofs.Overlap.{meets_append}
use Rattle.view_checks.proofs.overlap.check_resolve_overlap.Goals as goal

pub returns : goal.returns
unfolding takes overlap_verdict
returns c =
    simp (
      c.unless.ensures,
      c.slots_meet.ensures,
      c.layers_meet-source.ensures,
      c.slice_range.ensures,
      c.slice_range-a.ensures,
    )
    (ap (λ b. unless (not b) 41 c.args.place) (sym (meets_append (takes c.args.target 0) _ _)))
