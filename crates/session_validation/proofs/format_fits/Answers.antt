-- Equal formats fit; else what the calls promise, put together as the definition puts it together.
use mathlib.Core.Path.{sym, ap}
use borrow.Author.Tests.{eq-eqb}
use Rattle.definition.specs.Formats.{remove_srgb_suffix}
use Rattle.definition.specs.Readable.{format_fits}
use Rattle.session_validation.proofs.format_fits.Goals as goal

pub returns-then-v-t : goal.returns-then-v-t
unfolding format_fits
returns-then-v-t c = sym (eq-eqb _ _ (ap remove_srgb_suffix c.if-v-t.true))

pub returns : goal.returns
unfolding format_fits
returns c = cc
