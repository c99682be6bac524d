-- The branch is the definition's.
use Rattle.std.proofs.Common.{eq-eqb, ne_eqb}
use Rattle.definition.specs.Session.{array_layers}
use Rattle.session.proofs.derived.array_layers.Goals as goal

pub returns-then-t-eq-TEXTURE_D3 : goal.returns-then-t-eq-TEXTURE_D3
unfolding array_layers
returns-then-t-eq-TEXTURE_D3 c = simp (eq-eqb _ _ c.if-t-eq-TEXTURE_D3.true)

pub returns-else-t-eq-TEXTURE_D3 : goal.returns-else-t-eq-TEXTURE_D3
unfolding array_layers
returns-else-t-eq-TEXTURE_D3 c = simp (ne_eqb _ _ c.if-t-eq-TEXTURE_D3.false)
