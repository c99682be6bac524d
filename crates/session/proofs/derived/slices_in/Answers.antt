-- The branch is the definition's.
use Rattle.std.proofs.Common.{eq-eqb, ne_eqb}
use Rattle.definition.specs.Session.{slices_in}
use Rattle.session.proofs.derived.slices_in.Goals as goal

pub returns-then-t-eq-TEXTURE_D3 : goal.returns-then-t-eq-TEXTURE_D3
unfolding slices_in
returns-then-t-eq-TEXTURE_D3 c = simp (c.mip_size.ensures, eq-eqb _ _ c.if-t-eq-TEXTURE_D3.true)

pub returns-else-t-eq-TEXTURE_D3 : goal.returns-else-t-eq-TEXTURE_D3
unfolding slices_in
returns-else-t-eq-TEXTURE_D3 c = simp (ne_eqb _ _ c.if-t-eq-TEXTURE_D3.false)
