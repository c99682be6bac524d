-- The texture's dimension and its tests decide, where there is one.
use mathlib.Core.Path.{ap, ◌∙◌}
use mathlib.Core.Bool.{not}
use lib.Dec.{eqb}
use Rattle.definition.specs.Session.{session}
use Rattle.buffer_validation.proofs.Fits.{flat_found, flat_refused, flat_missing}
use Rattle.buffer_validation.proofs.Textures.has_flat.Goals as goal

pub returns-then-t-ne-TEXTURE_D3 : goal.returns-then-t-ne-TEXTURE_D3
returns-then-t-ne-TEXTURE_D3 c = c.range_fits.ensures ∙ flat_found (session c.args.self.now.bytes.now) c.args.x c.in-Some.t c.in-Some.ensures c.if-t-ne-TEXTURE_D3.true

pub returns-else-t-ne-TEXTURE_D3 : goal.returns-else-t-ne-TEXTURE_D3
returns-else-t-ne-TEXTURE_D3 c = ap (λ d. not (eqb d 3)) c.if-t-ne-TEXTURE_D3.false ∙ flat_refused (session c.args.self.now.bytes.now) c.args.x c.in-Some.t c.in-Some.ensures c.if-t-ne-TEXTURE_D3.false

pub returns-in-None : goal.returns-in-None
returns-in-None c = flat_missing (session c.args.self.now.bytes.now) c.args.x c.in-None.ensures
