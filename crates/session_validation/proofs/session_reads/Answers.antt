-- Each branch is one of the definition's four tests, and they decide the number.
use mathlib.Core.Path.{refl, sym, ◌∙◌}
use Rattle.session_validation.proofs.Refusal.{refusal_of, refused_by}
use Rattle.session_validation.proofs.Valid.{views_inside, textures_inside}
use Rattle.session_validation.proofs.session_reads.Goals as goal

pub returns-then-not-length_valid : goal.returns-then-not-length_valid
unfolding refusal_of
returns-then-not-length_valid c = refused_by c.args.s.now (sym c.if-not-length_valid.true ∙ c.length_valid.ensures) refl refl refl

pub returns-then-not-header_valid : goal.returns-then-not-header_valid
unfolding refusal_of
returns-then-not-header_valid c =
    refused_by c.args.s.now (sym c.if-not-length_valid.false ∙ c.length_valid.ensures) (sym c.if-not-header_valid.true ∙ c.header_valid.ensures) refl refl

pub textures_valid-requires : goal.textures_valid-requires
textures_valid-requires c =
    let length = c in
    (c.texture_count-textures.ensures, textures_inside _ (sym length.length_valid.ensures ∙ length.if-not-length_valid.false) (sym c.header_valid.ensures ∙ c.if-not-header_valid.false) c.texture_count-textures.ensures)

pub returns-then-not-textures_valid : goal.returns-then-not-textures_valid
unfolding refusal_of
returns-then-not-textures_valid c =
    let header = c in
    let length = header in
    refused_by _ (sym length.if-not-length_valid.false ∙ length.length_valid.ensures) (sym header.if-not-header_valid.false ∙ header.header_valid.ensures) (sym c.if-not-textures_valid.true ∙ c.textures_valid.ensures) refl

pub first_views_valid-requires : goal.first_views_valid-requires
first_views_valid-requires c =
    let header = c in
    let length = header in
    (c.texture_count-textures.ensures, views_inside _ (sym length.length_valid.ensures ∙ length.if-not-length_valid.false) (sym header.header_valid.ensures ∙ header.if-not-header_valid.false) c.texture_count-textures.ensures c.view_count.ensures)

pub returns-then-not-first_views_valid : goal.returns-then-not-first_views_valid
unfolding refusal_of
returns-then-not-first_views_valid c =
    let textures = c in
    let header = textures in
    let length = header in
    refused_by _ (sym length.if-not-length_valid.false ∙ length.length_valid.ensures) (sym header.if-not-header_valid.false ∙ header.header_valid.ensures) (sym textures.if-not-textures_valid.false ∙ textures.textures_valid.ensures) (sym c.if-not-first_views_valid.true ∙ simp c.view_count.ensures at c.first_views_valid.ensures)

pub returns : goal.returns
unfolding refusal_of
returns c =
    let textures = c in
    let header = textures in
    let length = header in
    refused_by _ (sym length.if-not-length_valid.false ∙ length.length_valid.ensures) (sym header.if-not-header_valid.false ∙ header.header_valid.ensures) (sym textures.if-not-textures_valid.false ∙ textures.textures_valid.ensures) (sym c.if-not-first_views_valid.false ∙ simp c.view_count.ensures at c.first_views_valid.ensures)
