-- A view of one layer passes all but 31; of another the tests are the definition's, put together as it puts them together.
use mathlib.Core.Path.{sym, ◌∙◌}
use Rattle.definition.specs.Verdict.{◌then◌, unless}
use Rattle.definition.specs.Views.{multiview_verdict}
use Rattle.view_checks.proofs.views.check_multiview.Goals as goal

pub returns-then-one_layer : goal.returns-then-one_layer
unfolding multiview_verdict ◌then◌ unless
returns-then-one_layer c =
    simp (
      c.either.ensures,
      c.accepted.ensures,
      c.unless-matching.ensures,
      c.is_first-first.ensures,
      sym c.one_layer.ensures ∙ c.if-one_layer.true,
    )

pub returns : goal.returns
unfolding multiview_verdict
returns c =
    simp (
      c.then-2.ensures,
      c.either-2.ensures,
      c.then.ensures,
      c.unless-most.ensures,
      c.max_multiview.ensures,
      c.unless-feature.ensures,
      c.multiview.ensures,
      c.unless-array.ensures,
      c.is_d2_array.ensures,
      c.unless-matching.ensures,
      c.is_first-first.ensures,
      sym c.one_layer.ensures ∙ c.if-one_layer.false,
    )
