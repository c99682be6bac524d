-- A test that fails decides the answer; the last one decides it where none does.
use mathlib.Core.Path.{refl, sym, ◌∙◌}
use borrow.Author.Tests.{le-leb, lt-leb}
use Rattle.session_validation.proofs.Views.{in_texture}
use Rattle.session_validation.proofs.view_in_texture.Goals as goal

pub returns-then-not-is_part : goal.returns-then-not-is_part
returns-then-not-is_part c = in_texture _ _ (sym c.if-not-is_part.true ∙ c.is_part.ensures) refl refl refl refl

pub returns-then-not-is_part-2 : goal.returns-then-not-is_part-2
returns-then-not-is_part-2 c =
    let mips = c in
    in_texture _ _ (sym mips.if-not-is_part.false ∙ mips.is_part.ensures) (sym c.if-not-is_part-2.true ∙ simp c.layers_for.ensures at c.is_part-2.ensures) refl refl refl

pub returns-then-not-usage_among : goal.returns-then-not-usage_among
returns-then-not-usage_among c =
    let layers = c in
    let mips = layers in
    in_texture _ _ (sym mips.if-not-is_part.false ∙ mips.is_part.ensures) (sym c.if-not-is_part-2.false ∙ simp layers.layers_for.ensures at layers.is_part-2.ensures) (sym c.if-not-usage_among.true ∙ c.usage_among.ensures) refl refl

pub returns-then-v-gt1 : goal.returns-then-v-gt1
returns-then-v-gt1 c =
    let layers = c in
    let mips = layers in
    in_texture _ _ (sym mips.if-not-is_part.false ∙ mips.is_part.ensures) (sym c.if-not-is_part-2.false ∙ simp layers.layers_for.ensures at layers.is_part-2.ensures) (sym c.if-not-usage_among.false ∙ c.usage_among.ensures) (sym (lt-leb _ _ c.if-v-gt1.true)) refl

pub returns : goal.returns
returns c =
    let usage = c in
    let layers = usage in
    let mips = layers in
    in_texture _ _ (sym mips.if-not-is_part.false ∙ mips.is_part.ensures) (sym usage.if-not-is_part-2.false ∙ simp layers.layers_for.ensures at layers.is_part-2.ensures) (sym c.if-not-usage_among.false ∙ usage.usage_among.ensures) (sym (le-leb _ _ c.if-v-gt1.false)) c.format_fits.ensures
