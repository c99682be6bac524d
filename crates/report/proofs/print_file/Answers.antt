-- Of few bytes the file is held whole, and printed; of many it is longer than any session, and refused as such a file is.
use mathlib.Core.Path.{sym, ap, ◌∙◌}
use native.Mathlib.Omega.{arith}
use borrow.Author.Tests.{le-leb, lt-leb}
use lib.ListN.{length}
use Rattle.definition.specs.Sizes.{longest_session}
use Rattle.laws.proofs.Tests.{cond_on, cond_off}
use Rattle.report.specs.Text.{refusal_text}
use Rattle.report.specs.Output.{output}
use Rattle.report.specs.Held.{held_text}
use Rattle.report.proofs.Put.{printed_as}
use Rattle.report.proofs.Held.{held_whole, held_refusal}
use Rattle.report.proofs.print_file.Goals as goal

pub returns-then-file-le-LONGEST_SESSION : goal.returns-then-file-le-LONGEST_SESSION
unfolding held_text
returns-then-file-le-LONGEST_SESSION c =
    let p = c.print_session.ensures in
    record {
      printed = printed_as (sym (cond_on _ _ _ (le-leb (length c.args.file.head.now) longest_session (omega arith)))) p;
      defined = λ whole holds. p.front ∙ ap output (held_whole holds c.args.file.enough (omega arith));
    }

pub returns : goal.returns
unfolding held_text
returns c =
    let told = c.oversize_refusal.ensures in
    let p = printed_as (ap refusal_text told.number) c.print_refusal.ensures.printed in
    record {
      printed = printed_as (sym (cond_off _ _ _ (lt-leb (length c.args.file.head.now) longest_session (omega arith)))) p;
      defined = λ whole holds. p.front ∙ held_refusal holds (omega arith) told.below_the_bound;
    }
