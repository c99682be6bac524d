-- Before the first pass an array of zeros has no discards, and all that `deskcheck` says is to come.
use native.Mathlib.Omega.{arith}
use Rattle.whole_session.proofs.Rows.{reached_fresh, lines_first}
use Rattle.whole_session.proofs.Walk.new.Goals as goal

pub invariant_of-result : goal.invariant_of-result
invariant_of-result c = record { within = omega arith; reached = reached_fresh _ _ }

pub returns : goal.returns
returns c = lines_first _ _ c.args.session.readable c.pass_count.ensures
