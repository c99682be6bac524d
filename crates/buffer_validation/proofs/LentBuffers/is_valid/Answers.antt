-- A count out of range decides; otherwise each test is what its call promises.
use mathlib.Core.Path.{◌≡◌, sym, ◌∙◌}
use mathlib.Core.Bool.{Bool, true, false}
use native.Mathlib.Omega.{arith}
use Rattle.definition.specs.Calls.{counts_valid, lent_valid}
use Rattle.session_validation.proofs.Valid.{valid_of}
use Rattle.lists.specs.Lent.{lists_in}
use Rattle.buffer_validation.specs.Buffers.{Buffers, RecordsInside, too_short}
use Rattle.buffer_validation.proofs.Fits.{rows_inside, few_surfaces}
use Rattle.buffer_validation.proofs.Lent.{long_of, status_long, records_inside, counts_fit}
use Rattle.buffer_validation.proofs.LentBuffers.is_valid.Goals as goal

-- The records lie inside: the buffers are long enough, and the counts are in range.
inside : (b : Buffers) {v : Bool} → too_short b ≡ false → v ≡ counts_valid (lists_in b.lists) → v ≡ true → RecordsInside b.lists
inside b h e v = records_inside b.lists (long_of b h) (counts_fit (lists_in b.lists) (sym e ∙ v))

pub returns-then-not-counts_valid : goal.returns-then-not-counts_valid
unfolding lent_valid
returns-then-not-counts_valid c = simp (sym c.counts_valid.ensures ∙ c.if-not-counts_valid.true)

pub new-textures-requires : goal.new-textures-requires
new-textures-requires c = rows_inside _ (valid_of _ c.args.s.readable)

pub surfaces_valid-requires : goal.surfaces_valid-requires
surfaces_valid-requires c = omega (arith, inside _ c.requires.long c.counts_valid.ensures c.if-not-counts_valid.false)

pub actions_valid-requires : goal.actions_valid-requires
actions_valid-requires c = omega (arith, inside _ c.requires.long c.counts_valid.ensures c.if-not-counts_valid.false)

pub surfaces_valid-requires-2 : goal.surfaces_valid-requires-2
surfaces_valid-requires-2 c = omega (arith, inside _ c.requires.long c.counts_valid.ensures c.if-not-counts_valid.false)

pub surface_count-requires : goal.surface_count-requires
surface_count-requires c = rw c.new-textures.ensures (few_surfaces _ (valid_of _ c.args.s.readable))

pub bytes_valid-requires : goal.bytes_valid-requires
bytes_valid-requires c =
    omega (arith, simp c.new-textures.ensures at c.surface_count.ensures, few_surfaces _ (valid_of _ c.args.s.readable), status_long _ c.requires.long)

pub returns : goal.returns
unfolding lent_valid
returns c =
    simp (
      sym c.counts_valid.ensures ∙ c.if-not-counts_valid.false,
      c.surfaces_valid.ensures,
      c.actions_valid.ensures,
      c.surfaces_valid-2.ensures,
      c.bytes_valid.ensures,
      c.surface_count.ensures,
      c.new-textures.ensures,
    )
