-- A readable session has its lines: that needs no answer.
-- A refused one has the line of its number.
use mathlib.Core.Path.{sym, ap, ◌∙◌}
use Rattle.definition.specs.Refusals.{number_in}
use Rattle.report.proofs.Put.{printed_as}
use Rattle.session_validation.proofs.Refusal.{numbered}
use Rattle.report.proofs.Printed.{printed_refusal}
use Rattle.report.proofs.print_session.Goals as goal

pub returns-in-Err : goal.returns-in-Err
returns-in-Err c =
    printed_as (printed_refusal _ _ (sym (ap number_in c.in-Err.is) ∙ c.validate_session.ensures.number) (numbered c.in-Err.refusal)) c.print_refusal.ensures.printed
