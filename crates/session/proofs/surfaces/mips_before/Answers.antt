-- A 3D texture's mips are counted one by one, the others' are alike.
use Rattle.std.proofs.Common.{rules, ne_eqb}
use Rattle.session.proofs.Counted.{flat_before}
use Rattle.session.proofs.surfaces.mips_before.Goals as goal

pub returns-else-t-eq-TEXTURE_D3 : goal.returns-else-t-eq-TEXTURE_D3
returns-else-t-eq-TEXTURE_D3 c =
    let a = c.args in
    (simp c.array_layers.ensures (flat_before a.t a.n (ne_eqb _ _ c.if-t-eq-TEXTURE_D3.false)), search rules)
