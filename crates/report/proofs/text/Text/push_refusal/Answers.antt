-- The word, the number, the newline.
use Rattle.report.specs.Text.{refusal_text, line_text, joined}
use Rattle.report.proofs.Appended.{appended_then}
use Rattle.report.proofs.text.Text.push_refusal.Goals as goal

pub returns-clause-appended : goal.returns-clause-appended
unfolding refusal_text line_text joined
returns-clause-appended c = appended_then c.push.ensures (appended_then c.push_decimal.ensures.appended c.push-2.ensures)
