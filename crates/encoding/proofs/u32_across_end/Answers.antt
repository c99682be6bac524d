-- The four bytes are the definition's, seen from the place on.
use mathlib.Core.Path.{◌≡◌, ◌∙◌}
use native.Mathlib.Omega.{arith}
use Rattle.definition.specs.Bytes.{u32_at}
use Rattle.encoding.proofs.Reading.{number_from}
use Rattle.encoding.proofs.u32_across_end.Goals as goal

pub returns : goal.returns
unfolding u32_at
returns c =
    let whole : c.from_le_bytes.result ≡ u32_at c.rest-rest.result.now 0 = omega (arith, c.from_le_bytes.ensures, c.byte.ensures, c.byte-2.ensures, c.byte-3.ensures, c.byte-4.ensures) in
    whole ∙ number_from c.rest-rest.result.now c.args.s.now c.args.at c.rest-rest.ensures
