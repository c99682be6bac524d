-- A call at an entry point is refused, or it is the definition's.
use mathlib.Core.Path.{◌≡◌, refl, ◌∙◌}
use mathlib.Core.Logic.{◌≢◌}
use mathlib.Core.Bool.{Bool, true, false, cond}
use mathlib.Core.List.{List}
use Prim.Native.Nat.{ℕ}
use native.Mathlib.Omega.{arith}
use lib.Dec.{eqb}
use borrow.Author.Tests.{eq-eqb, ne_eqb, eqb-true, eqb-false}
use Rattle.definition.specs.Session.{session}
use Rattle.definition.specs.Readable.{session_refusal}
use Rattle.definition.specs.Calls.{Call, pass, submit, State, lent_valid, called, not_lent, call}
use Rattle.definition.specs.Refusals.{number_of}
use Rattle.definition.specs.declared.refusals.Refusal.{Refusal}
use Rattle.session_validation.proofs.Refusal.{refused}
use Rattle.laws.proofs.Tests.{cond_on, cond_off}
use Rattle.buffer_validation.specs.Buffers.{Buffers, held_in, too_short}
use Rattle.desk.specs.Entry.{refused_call, entry, Opened, entry_refusal}

-- A refusal does not pass the test for 0.
pub refused_test : (refusal : Refusal) (n : ℕ) → number_of refusal ≡ n → eqb n 0 ≡ false
refused_test refusal n e = ne_eqb n 0 (refused refusal n e)

-- What is lent is refused as 6.
not_lent_is : (k : Call) (σ : State) → not_lent k σ ≡ refused_call 6 k σ
not_lent_is (pass i) σ = refl
not_lent_is submit σ = refl

module _ (s : List ℕ) (b : Buffers) where
  -- Nothing refuses: long buffers, a readable session, and what is lent is valid.
  pub not_refused : entry_refusal s b ≡ 0 → Opened s b × (lent_valid (session s) (held_in b) ≡ true)
  unfolding entry_refusal
  not_refused h = go (too_short b) (eqb (session_refusal s) 0) (lent_valid (session s) (held_in b)) refl refl refl h
    where
      go : (x y z : Bool) → too_short b ≡ x → eqb (session_refusal s) 0 ≡ y → lent_valid (session s) (held_in b) ≡ z
          → cond x 6 (cond y (cond z 0 6) (session_refusal s)) ≡ 0 → Opened s b × (lent_valid (session s) (held_in b) ≡ true)
      go true y z ex ey ez e = absurd (omega (arith, e))
      go false true true ex ey ez e = (record { long = ex; readable = eqb-true (session_refusal s) 0 ey }, ez)
      go false true false ex ey ez e = absurd (omega (arith, e))
      go false false z ex ey ez e = absurd (eqb-false (session_refusal s) 0 ey e)

  module _ (k : Call) where
    -- Long buffers and a readable session: the call itself.
    pub entry_call : Opened s b → entry s k b ≡ call (session s) k (held_in b)
    unfolding entry
    entry_call h = cond_off (too_short b) _ _ h.long ∙ cond_on (eqb (session_refusal s) 0) _ _ (eq-eqb (session_refusal s) 0 h.readable)

    -- The call of what is lent and valid.
    pub entry_called : Opened s b → lent_valid (session s) (held_in b) ≡ true → entry s k b ≡ called (session s) k (held_in b)
    unfolding call
    entry_called h g = entry_call h ∙ cond_on (lent_valid (session s) (held_in b)) _ _ g

    -- A call that is refused.
    pub entry_refused : entry_refusal s b ≢ 0 → entry s k b ≡ refused_call (entry_refusal s b) k (held_in b)
    unfolding entry entry_refusal call
    entry_refused h = go (too_short b) (eqb (session_refusal s) 0) (lent_valid (session s) (held_in b)) h
      where
        go : (x y z : Bool) → cond x 6 (cond y (cond z 0 6) (session_refusal s)) ≢ 0
            → cond x (refused_call 6 k (held_in b)) (cond y (cond z (called (session s) k (held_in b)) (not_lent k (held_in b))) (refused_call (session_refusal s) k (held_in b)))
            ≡ refused_call (cond x 6 (cond y (cond z 0 6) (session_refusal s))) k (held_in b)
        go true y z g = refl
        go false true true g = absurd (g refl)
        go false true false g = not_lent_is k (held_in b)
        go false false z g = refl
