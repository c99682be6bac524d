-- The texture's tests decide, where there is one.
use mathlib.Core.Path.{◌∙◌}
use Rattle.definition.specs.Session.{session}
use Rattle.buffer_validation.proofs.Fits.{surface_found, surface_missing}
use Rattle.buffer_validation.proofs.Textures.has.Goals as goal

pub returns-in-Some : goal.returns-in-Some
returns-in-Some c = c.surface_fits.ensures ∙ surface_found (session c.args.self.now.bytes.now) c.args.x c.in-Some.t c.in-Some.ensures

pub returns-in-None : goal.returns-in-None
returns-in-None c = surface_missing (session c.args.self.now.bytes.now) c.args.x c.in-None.ensures
