-- The library's text of the number is the definition's.
use mathlib.Core.Path.{sym, ◌∙◌}
use native.Mathlib.Omega.{arith}
use Rattle.report.proofs.Appended.{appended_as}
use Rattle.report.proofs.Decimal.{decimal_same, decimal_says}
use Rattle.report.proofs.text.Text.push_decimal.Goals as goal

pub returns-clause-appended : goal.returns-clause-appended
returns-clause-appended c = appended_as (c.as_bytes.ensures.value ∙ c.format.ensures.text ∙ sym (decimal_same c.args.n (omega arith))) c.push.ensures

pub returns-clause-says : goal.returns-clause-says
returns-clause-says c = decimal_says c.args.n (omega arith)
