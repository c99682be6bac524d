-- The invariant: the rows so far stand in the bytes, and with those to come they are what `deskcheck` says.
use mathlib.Core.Path.{◌≡◌, refl, sym, ap, ap₂, ◌∙◌}
use mathlib.Core.List.{[], ◌∷◌, ◌++◌}
use Prim.Native.Nat.{◌+◌}
use native.Mathlib.Omega.{arith}
use borrow.Author.Rules.{rules}
use lib.ListN.{length, length-append}
use Rattle.definition.specs.Sizes.{row_numbers}
use Rattle.session_validation.proofs.Valid.{valid_of}
use Rattle.whole_session.specs.Numbers.{numbers_at, put_numbers}
use Rattle.whole_session.specs.Rows.{rows_in}
use Rattle.whole_session.proofs.Rows.{deskcheck_count, row_there, row_given, rows_given, none_put, row_put, rest_stays}
use Rattle.whole_session.proofs.session_rows.Goals as goal

pub loop-row-init : goal.loop-row-init
loop-row-init c = (c.into_iter-row-iterator.ensures.into_iter_gives ∙ c.new-row-items.ensures, refl, none_put _, refl, refl)

pub write_numbers-requires : goal.write_numbers-requires
write_numbers-requires c =
    let l = c.loop-row in
    let nine : length c.in-Some.row ≡ row_numbers = search rules in
    let there = row_there c.args.s.bytes.now l.yielded c.args.s.readable l.invariant.0 c.in-Some.ensures.steps in
    omega (arith, nine, there, l.invariant.1, l.invariant.4, c.requires, (valid_of c.args.s.bytes.now c.args.s.readable).passes)

pub overflow_add-at : goal.overflow_add-at
overflow_add-at c =
    let l = c.loop-row in
    let there = row_there c.args.s.bytes.now l.yielded c.args.s.readable l.invariant.0 c.in-Some.ensures.steps in
    omega (arith, there, l.invariant.1, (valid_of c.args.s.bytes.now c.args.s.readable).passes)

pub loop-row-preserved : goal.loop-row-preserved
loop-row-preserved c =
    let l = c.loop-row in
    let x = c.in-Some.row in
    let b = c.write_numbers.new.b in
    let nine : length x ≡ row_numbers = search rules in
    let more : length (l.yielded ++ (x ∷ [])) ≡ length l.yielded + 1 = length-append l.yielded (x ∷ []) in
    let put = c.write_numbers.ensures.written ∙ ap₂ (λ q n. put_numbers l.rows q x n) l.invariant.1 nine in (
      row_given c.args.s.bytes.now l.yielded c.args.s.readable l.invariant.0 c.in-Some.ensures.steps,
      omega (arith, l.invariant.1, more),
      ap (rows_in b) more ∙ row_put _ _ _ _ put _ l.invariant.2 (ap₂ (numbers_at b) (sym l.invariant.1) (sym nine) ∙ c.write_numbers.ensures.read_back),
      rest_stays _ _ _ _ put _ _ (row_there c.args.s.bytes.now l.yielded c.args.s.readable l.invariant.0 c.in-Some.ensures.steps) l.invariant.3,
      c.write_numbers.auto.b ∙ l.invariant.4,
    )

pub returns-clause-written : goal.returns-clause-written
returns-clause-written c =
    let l = c.loop-row in
    let all = rows_given c.args.s.bytes.now l.yielded l.invariant.0 c.in-None.ensures.steps.0 in
    ap (rows_in l.rows) (sym (ap length all ∙ deskcheck_count c.args.s.bytes.now c.args.s.readable)) ∙ l.invariant.2 ∙ all
