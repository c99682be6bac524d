-- The invariant: a line of each row so far is written, and with those to come the rows are what `deskcheck` says.
use mathlib.Core.Path.{sym, ap, ◌∙◌}
use mathlib.Core.List.{[], ◌∷◌}
use native.Mathlib.Omega.{arith}
use lib.ListN.{length, length-append}
use Rattle.session_validation.proofs.Valid.{valid_of}
use Rattle.whole_session.proofs.Rows.{deskcheck_count, row_there, row_given, rows_given}
use Rattle.report.specs.Text.{lines_text}
use Rattle.report.proofs.Appended.{appended_none, appended_as, appended_then}
use Rattle.report.proofs.Lines.{lines_more}
use Rattle.report.proofs.push_lines.Goals as goal

pub loop-row-init : goal.loop-row-init
unfolding lines_text
loop-row-init c = record {
  so_far = c.into_iter-row-iterator.ensures.into_iter_gives ∙ c.new-row-items.ensures;
  written = appended_none _;
  room = omega arith;
}

pub push_line-requires : goal.push_line-requires
push_line-requires c =
    let l = c.loop-row in
    let there = row_there c.args.s.bytes.now l.yielded c.args.s.readable l.invariant.so_far c.in-Some.ensures.steps in
    omega (arith, there, l.invariant.room, l.invariant.written.same_length, c.requires.room, (valid_of c.args.s.bytes.now c.args.s.readable).passes)

pub loop-row-preserved : goal.loop-row-preserved
loop-row-preserved c =
    let l = c.loop-row in
    record {
      so_far = row_given c.args.s.bytes.now l.yielded c.args.s.readable l.invariant.so_far c.in-Some.ensures.steps;
      written = appended_as (sym (lines_more _ _)) (appended_then l.invariant.written c.push_line.ensures.appended);
      room = omega (arith, l.invariant.room, c.push_line.ensures.at_most_a_line, length-append l.yielded (c.in-Some.row ∷ []));
    }

pub returns : goal.returns
returns c =
    let l = c.loop-row in
    let all = rows_given c.args.s.bytes.now l.yielded l.invariant.so_far c.in-None.ensures.steps.0 in
    record {
      appended = appended_as (ap lines_text all) l.invariant.written;
      a_line_each = omega (arith, l.invariant.room, ap length all, deskcheck_count c.args.s.bytes.now c.args.s.readable, (valid_of c.args.s.bytes.now c.args.s.readable).passes);
    }
