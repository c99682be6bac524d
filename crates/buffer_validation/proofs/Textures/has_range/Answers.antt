-- The texture's tests decide, where there is one.
use mathlib.Core.Path.{◌∙◌}
use Rattle.definition.specs.Session.{session}
use Rattle.buffer_validation.proofs.Fits.{range_found, range_missing}
use Rattle.buffer_validation.proofs.Textures.has_range.Goals as goal

pub returns-in-Some : goal.returns-in-Some
returns-in-Some c = c.range_fits.ensures ∙ range_found (session c.args.self.now.bytes.now) c.args.x c.in-Some.t c.in-Some.ensures

pub returns-in-None : goal.returns-in-None
returns-in-None c = range_missing (session c.args.self.now.bytes.now) c.args.x c.in-None.ensures
