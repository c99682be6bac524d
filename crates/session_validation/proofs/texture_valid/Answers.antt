-- The format and the dimension decide the answer; else the other tests do.
use mathlib.Core.Path.{refl, sym, ◌∙◌}
use Rattle.session_validation.proofs.Fields.{texture_tested}
use Rattle.session_validation.proofs.texture_valid.Goals as goal

pub returns-then-not-format_valid : goal.returns-then-not-format_valid
returns-then-not-format_valid c = texture_tested _ (sym c.if-not-format_valid.true ∙ c.format_valid.ensures) refl refl refl refl refl

pub returns : goal.returns
returns c =
    let depth = c in
    let width = depth in
    let format = width in
    texture_tested _ (sym format.if-not-format_valid.false ∙ format.format_valid.ensures) width.between.ensures depth.between-2.ensures depth.between-3.ensures c.between-4.ensures c.samples_valid.ensures
