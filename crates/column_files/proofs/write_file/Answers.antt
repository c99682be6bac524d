-- A readable session is held whole, and is rearranged; what `deskcheck` prints for any other is its refusal.
use mathlib.Core.Path.{sym, ap, ◌∙◌}
use mathlib.Core.Logic.{◌≢◌}
use Rattle.definition.specs.Readable.{session_refusal}
use Rattle.definition.specs.Refusals.{number_in}
use Rattle.report.proofs.Put.{printed_as}
use Rattle.session_validation.proofs.Refusal.{numbered}
use Rattle.column_files.proofs.Written.{readable_held, refused_held, readable_file, refused_file}
use Rattle.column_files.proofs.write_file.Goals as goal

pub returns-in-Ok : goal.returns-in-Ok
returns-in-Ok c =
    let same = simp c.in-Ok.is at c.validate_session.ensures.same in
    let readable = simp same at c.in-Ok.session.readable in
    let text = simp same at c.put_rearranged.ensures in
    record {
      printed = printed_as (readable_held c.args.way _ _ readable) text;
      defined = λ whole holds. text.front ∙ readable_file c.args.way holds c.args.file.enough readable;
    }

pub returns-in-Err : goal.returns-in-Err
returns-in-Err c =
    let refused : session_refusal c.args.file.head.now ≢ 0 = λ z. numbered _ (sym (ap number_in c.in-Err.is) ∙ c.validate_session.ensures.number ∙ z) in
    let text = c.print_file.ensures in
    record {
      printed = printed_as (refused_held c.args.way _ _ refused) text.printed;
      defined = λ whole holds. text.defined whole holds ∙ refused_file c.args.way holds c.args.file.enough refused;
    }
