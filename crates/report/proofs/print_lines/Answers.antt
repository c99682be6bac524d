-- The text is that of the lines.
use mathlib.Core.Path.{refl}
use native.Mathlib.Omega.{arith}
use borrow.Author.Rules.{rules}
use Rattle.report.proofs.Appended.{appended_as, printed_left}
use Rattle.report.proofs.Printed.{printed_lines}
use Rattle.report.proofs.print_lines.Goals as goal

pub returns : goal.returns
returns c =
    printed_left (appended_as (printed_lines _ c.args.session.readable) c.push_lines.ensures.appended) refl (omega arith) (search rules)
