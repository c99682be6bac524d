-- The row and a newline.
use Rattle.report.specs.Text.{line_text}
use Rattle.report.proofs.Appended.{appended_then}
use Rattle.report.proofs.text.Text.push_line.Goals as goal

pub returns-clause-appended : goal.returns-clause-appended
unfolding line_text
returns-clause-appended c = appended_then c.push_row.ensures.appended c.push.ensures
