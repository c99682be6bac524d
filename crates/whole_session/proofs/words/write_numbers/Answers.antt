-- The invariant: the first i numbers are written.
use mathlib.Core.Path.{◌≡◌, refl, ap, ◌∙◌}
use native.Mathlib.Omega.{arith}
use native.Mathlib.Numerals.{add-one}
use native.Mathlib.Nat.{le_refl}
use lib.ListN.{length}
use lib.Seq.{take_all}
use Rattle.whole_session.specs.Numbers.{numbers_at, put_numbers}
use Rattle.whole_session.proofs.Numbers.{numbers_read}
use Rattle.whole_session.proofs.words.write_numbers.Goals as goal

pub loop-i-init : goal.loop-i-init
unfolding put_numbers
loop-i-init c = (refl, refl)

pub loop-i-preserved : goal.loop-i-preserved
unfolding put_numbers
loop-i-preserved c =
    let put = c.put_u32 in
    let at = c.loop-i in
    (rw add-one (put.ensures ∙ simp at.invariant.0), put.auto.s ∙ at.invariant.1)

pub returns-clause-read_back : goal.returns-clause-read_back
returns-clause-read_back c =
    let a = c.args in
    let n = length a.xs.now in
    let e : c.loop-i.i ≡ n = omega arith in
    ap (λ l. numbers_at l a.at n) (c.loop-i.invariant.0 ∙ ap (put_numbers _ _ _) e)
    ∙ numbers_read _ a.at _ n c.requires (le_refl n) (λ i h. (c.type_inv.xs i).fits) ∙ take_all n a.xs.now (le_refl n)
