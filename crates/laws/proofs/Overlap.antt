-- Laws of lists of surfaces that meet: two spans of layers meet exactly where their intervals do, so that code may compare intervals.
use mathlib.Core.Path.{◌≡◌, refl, sym, ap, ◌∙◌}
use mathlib.Core.Bool.{Bool, true, false, ◌&&◌, ◌||◌, and-false, or_assoc}
use mathlib.Core.List.{List, [], ◌∷◌, ◌++◌}
use Prim.Native.Nat.{ℕ, zero, suc, ◌+◌, ◌≤◌, ◌<◌}
use native.Mathlib.Omega.{arith}
use lib.Dec.{ltb, eqb}
use borrow.Author.Tests.{lt-ltb, le-ltb, lt-leb}
use Rattle.definition.specs.Surfaces.{same, within, layers_from, elem, meets}
use Rattle.definition.specs.declared.Surface.{Surface}
use Rattle.laws.proofs.Tests.{clash, by_order, or_swap, or_factor, or_off_left, or_off_right}
use Rattle.laws.proofs.Surfaces.{same_eq, elem_append, elem_layers, within_on}

-- ── lists

-- Nothing meets no list, and a list meets two that are joined where it meets either.
pub meets_nil : (a : List Surface) → meets a [] ≡ false
meets_nil [] = refl
meets_nil (s ∷ a) = meets_nil a

pub meets_append : (a l k : List Surface) → meets a (l ++ k) ≡ (meets a l || meets a k)
meets_append [] l k = refl
meets_append (s ∷ a) l k = rw (elem_append s l k, meets_append a l k) (or_swap (elem s l) (elem s k) (meets a l) (meets a k))

pub append_meets : (a b l : List Surface) → meets (a ++ b) l ≡ (meets a l || meets b l)
append_meets [] b l = refl
append_meets (s ∷ a) b l = rw (append_meets a b l) (sym (or_assoc (elem s l) (meets a l) (meets b l)))

-- Lists that do not meet have no surface in common.
pub apart_elem : (a l : List Surface) (s : Surface) → meets a l ≡ false → elem s l ≡ true → elem s a ≡ false
apart_elem [] l s h e = refl
apart_elem (t ∷ a) l s h e = go (same s t) refl (apart_elem a l s (or_off_right (elem t l) (meets a l) h) e)
  where
    go : (p : Bool) → same s t ≡ p → elem s a ≡ false → (same s t || elem s a) ≡ false
    go true f ih = clash e (ap (λ u. elem u l) (same_eq s t f) ∙ or_off_left (elem t l) (meets a l) h)
    go false f ih = rw f ih

-- ── spans of layers

-- The n layers from f on and the k from g on have one in common.
unfoldable pub spans_meet : ℕ → ℕ → ℕ → ℕ → Bool
spans_meet f n g k = ltb f (g + k) && ltb g (f + n) && ltb 0 n && ltb 0 k

module _ (f n g k : ℕ) where
  meet_on : f < g + k → g < f + n → 0 < n → 0 < k → spans_meet f n g k ≡ true
  unfolding spans_meet
  meet_on a b p q = simp (lt-ltb f (g + k) a, lt-ltb g (f + n) b, lt-ltb 0 n p, lt-ltb 0 k q)

  meet_past : g + k ≤ f → spans_meet f n g k ≡ false
  unfolding spans_meet
  meet_past h = simp (le-ltb f (g + k) h)

  meet_before : f + n ≤ g → spans_meet f n g k ≡ false
  unfolding spans_meet
  meet_before h = simp (le-ltb g (f + n) h, and-false)

  meet_none : n ≤ 0 → spans_meet f n g k ≡ false
  unfolding spans_meet
  meet_none h = simp (le-ltb 0 n h, and-false)

  meet_none' : k ≤ 0 → spans_meet f n g k ≡ false
  unfolding spans_meet
  meet_none' h = simp (le-ltb 0 k h, and-false)

within_low : (a n x : ℕ) → x < a → within a n x ≡ false
unfolding within
within_low a n x h = simp (lt-leb a x h)

within_high : (a n x : ℕ) → a + n ≤ x → within a n x ≡ false
unfolding within
within_high a n x h = simp (le-ltb x (a + n) h, and-false)

-- One layer more of the first span.
meet_more : (f n g k : ℕ) → (within g k f || spans_meet (f + 1) n g k) ≡ spans_meet f (suc n) g k
meet_more f n g k =
    by_order (g + k) f
    (λ h. simp (within_high g k f h, meet_past (f + 1) n g k (omega arith), meet_past f (suc n) g k h))
    (λ h. by_order g f
    (λ a. simp (within_on g k f a h, meet_on f (suc n) g k h (omega arith) (omega arith) (omega arith)))
    (λ a. by_order k 0
    (λ p. simp (within_low g k f a, meet_none' (f + 1) n g k p, meet_none' f (suc n) g k p))
    (λ p. by_order (f + 1 + n) g
    (λ q. simp (within_low g k f a, meet_before (f + 1) n g k q, meet_before f (suc n) g k (omega arith)))
    (λ q. simp (within_low g k f a, meet_on (f + 1) n g k (omega arith) q (omega arith) p, meet_on f (suc n) g k h (omega arith) (omega arith) p)))))

-- The layers of two spans meet where texture, mip and slice are the same and the intervals meet.
pub layers_meet_lem : (t m c f n t' m' c' g k : ℕ)
    → meets (layers_from t m c f n) (layers_from t' m' c' g k) ≡ (eqb t t' && eqb m m' && eqb c c' && spans_meet f n g k)
layers_meet_lem t m c f zero t' m' c' g k =
    sym (ap (λ q. eqb t t' && eqb m m' && eqb c c' && q) (meet_none f 0 g k (omega arith)) ∙ and-false (eqb t t' && eqb m m' && eqb c c'))
layers_meet_lem t m c f (suc n) t' m' c' g k =
    rw (elem_layers t' m' c' g k (record { texture = t; mip = m; layer = f; slice = c }), layers_meet_lem t m c (f + 1) n t' m' c' g k)
    (or_factor (eqb t t' && eqb m m' && eqb c c') (within g k f) (spans_meet (f + 1) n g k) ∙ ap (λ q. eqb t t' && eqb m m' && eqb c c' && q) (meet_more f n g k))
