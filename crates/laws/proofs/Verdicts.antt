-- Laws of verdicts: what a accepted verdict says of its parts, and what a chain is at the first refusal.
use mathlib.Core.Path.{◌≡◌, refl, sym, ap, ◌∙◌}
use mathlib.Core.Bool.{Bool, true, false}
use Prim.Native.Nat.{ℕ}
use lib.Dec.{eqb}
use Rattle.definition.specs.Verdict.{accepted, is_accepted, refused_at, ◌then◌, unless}
use Rattle.definition.specs.declared.Verdict.{Verdict}
use Rattle.laws.proofs.Tests.{clash}

-- ── a accepted verdict taken apart

-- Both checks of a chain that is accepted.
pub then_left : (v w : Verdict) → is_accepted (v then w) ≡ true → is_accepted v ≡ true
unfolding ◌then◌
then_left v w h = go (is_accepted v) refl
  where
    go : (b : Bool) → is_accepted v ≡ b → is_accepted v ≡ true
    go true e = e
    go false e = rw e at h

pub then_right : (v w : Verdict) → is_accepted (v then w) ≡ true → is_accepted w ≡ true
unfolding ◌then◌
then_right v w h = go (is_accepted v) refl
  where
    go : (b : Bool) → is_accepted v ≡ b → is_accepted w ≡ true
    go true e = rw e at h
    go false e = clash (rw e at h) e

-- The test of a check that is accepted.
pub unless_on : (b : Bool) (n p : ℕ) → eqb n 0 ≡ false → is_accepted (unless b n p) ≡ true → b ≡ true
unfolding unless
unless_on true n p z h = refl
unless_on false n p z h = clash h z

-- ── a chain at the first refusal

pub then_stop : (v w : Verdict) → is_accepted v ≡ false → v then w ≡ v
unfolding ◌then◌
then_stop v w h = rw h

pub then_go : (v w : Verdict) → is_accepted v ≡ true → v then w ≡ w
unfolding ◌then◌
then_go v w h = rw h

pub then_assoc : (u v w : Verdict) → (u then v) then w ≡ u then v then w
then_assoc u v w = go (is_accepted u) refl
  where
    go : (b : Bool) → is_accepted u ≡ b → (u then v) then w ≡ u then v then w
    go true e = ap (λ x. x then w) (then_go u v e) ∙ sym (then_go u (v then w) e)
    go false e = ap (λ x. x then w) (then_stop u v e) ∙ then_stop u w e ∙ sym (then_stop u (v then w) e)

pub unless_accepted : (b : Bool) (n p : ℕ) → b ≡ true → unless b n p ≡ accepted
unfolding unless
unless_accepted b n p h = rw h

pub unless_refused : (b : Bool) (n p : ℕ) → b ≡ false → unless b n p ≡ refused_at n p
unfolding unless
unless_refused b n p h = rw h
