-- The line at the front of the buffer.
use mathlib.Core.Path.{refl, ap}
use native.Mathlib.Omega.{arith}
use borrow.Author.Rules.{rules}
use Rattle.report.specs.Text.{refusal_text}
use Rattle.report.proofs.Appended.{appended_as, printed_left}
use Rattle.report.proofs.print_refusal.Goals as goal

pub returns-clause-printed : goal.returns-clause-printed
returns-clause-printed c = printed_left (appended_as (ap refusal_text c.number.ensures) c.push_refusal.ensures.appended) refl (omega arith) (search rules)
