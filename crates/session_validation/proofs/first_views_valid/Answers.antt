-- The invariant: the first k view rows decide the answer, since each of the others can be read. One that cannot be read decides it.
use mathlib.Core.Path.{◌≡◌, sym, ap, ◌∙◌}
use native.Mathlib.Omega.{arith}
use Prim.Native.Nat.{◌-◌}
use Rattle.definition.specs.Readable.{view_valid, first_views_valid}
use Rattle.laws.proofs.Folds.{views_none}
use Rattle.session_validation.proofs.Views.{view_own, last_read, last_refused}
use Rattle.session_validation.proofs.first_views_valid.Goals as goal

pub returns-then-not-view_valid : goal.returns-then-not-view_valid
returns-then-not-view_valid c =
    let at = c in
    let start = at in
    let row = view_own _ _ (at.loop-k.k - 1) c.view_inside.ensures start.requires.0 in
    let refused = sym (ap (view_valid _) row) ∙ sym c.view_valid.ensures ∙ c.if-not-view_valid.true in
    sym (at.loop-k.invariant ∙ last_refused _ at.loop-k.k (omega arith) refused)

pub loop-k-preserved : goal.loop-k-preserved
loop-k-preserved c =
    let at = c in
    let start = at in
    let row = view_own _ _ (at.loop-k.k - 1) c.view_inside.ensures start.requires.0 in
    let valid = sym (ap (view_valid _) row) ∙ sym c.view_valid.ensures ∙ c.if-not-view_valid.false in
    at.loop-k.invariant ∙ last_read _ at.loop-k.k (omega arith) valid

pub returns : goal.returns
returns c =
    let e : c.loop-k.k ≡ 0 = omega arith in
    sym (c.loop-k.invariant ∙ ap (first_views_valid _) e ∙ views_none _)
