-- A case for each dimension that goes with a texture, and for any other.
use Rattle.session_validation.proofs.Views.{layers_two, layers_one, layers_volume, layers_none}
use Rattle.session_validation.proofs.layers_for.Goals as goal

pub returns-then-between-t : goal.returns-then-between-t
returns-then-between-t c = layers_two _ _ (simp c.between.ensures at c.if-between-t.true)

pub returns-then-v-t : goal.returns-then-v-t
returns-then-v-t c = layers_one _ _ c.if-v-t.true

pub returns-then-v-t-2 : goal.returns-then-v-t-2
returns-then-v-t-2 c = layers_volume _ _ c.if-v-t-2.true

pub returns : goal.returns
returns c =
    let first = c in
    layers_none _ _ (simp first.between.ensures at first.if-between-t.false) c.if-v-t.false c.if-v-t-2.false
