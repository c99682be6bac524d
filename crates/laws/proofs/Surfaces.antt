-- Laws of surfaces, ranges and lists of surfaces: a range has a surface exactly where three tests on numbers pass.
use mathlib.Core.Path.{◌≡◌, refl, sym, ap, ap₂, ◌∙◌}
use mathlib.Core.Bool.{Bool, true, false, ◌&&◌, ◌||◌, cond, or_assoc, and-false}
use mathlib.Core.List.{List, [], ◌∷◌, ◌++◌}
use Prim.Native.Nat.{ℕ, zero, suc, ◌+◌, ◌-◌, ◌≤◌, ◌<◌}
use native.Mathlib.Omega.{arith}
use lib.Dec.{leb, ltb, eqb}
use lib.ListN.{length}
use borrow.Author.Tests.{eqb-true, eqb-false, eq-eqb, ne_eqb, leb-true, leb-false, ltb-true, ltb-false, le-leb, lt-ltb}
use Rattle.definition.specs.Surfaces.{same, within, hits, only_range, layers_from, layers_of, elem}
use Rattle.definition.specs.Session.{Session, array_layers, slices_in}
use Rattle.definition.specs.MemoryInit.{retain}
use Rattle.definition.specs.Calls.{surface_valid, range_valid}
use Rattle.definition.specs.declared.Texture.{Texture}
use Rattle.definition.specs.declared.Surface.{Surface}
use Rattle.definition.specs.declared.Range.{Range}
use Rattle.laws.specs.Surfaces.{InRange, Inside, RangeInside}
use Rattle.laws.proofs.Conjunctions.{each}
use Rattle.laws.proofs.Tests.{clash, and_left, and_right, bool_iff, or_factor, or_on_left, or_on_right}

-- ── equal surfaces

pub same_refl : (a : Surface) → same a a ≡ true
unfolding same
same_refl a = simp (eq-eqb a.texture a.texture refl, eq-eqb a.mip a.mip refl, eq-eqb a.slice a.slice refl, eq-eqb a.layer a.layer refl)

pub same_eq : (a b : Surface) → same a b ≡ true → a ≡ b
unfolding same
same_eq a b h =
    let test = each (eqb a.texture b.texture ∷ eqb a.mip b.mip ∷ eqb a.slice b.slice ∷ eqb a.layer b.layer ∷ []) h in
    λ i. record {
      texture = eqb-true a.texture b.texture (test 0) i;
      mip = eqb-true a.mip b.mip (test 1) i;
      layer = eqb-true a.layer b.layer (test 3) i;
      slice = eqb-true a.slice b.slice (test 2) i;
    }

pub same_ne : (a b : Surface) → (a ≡ b → ⊥) → same a b ≡ false
same_ne a b h = bool_iff _ _ (λ e. absurd (h (same_eq a b e))) (λ e. clash {b = false} e refl)

-- ── one of n numbers

low_within : (a n x : ℕ) → within a n x ≡ true → a ≤ x
unfolding within
low_within a n x h = leb-true a x (and_left (leb a x) (ltb x (a + n)) h)

high_within : (a n x : ℕ) → within a n x ≡ true → x < a + n
unfolding within
high_within a n x h = ltb-true x (a + n) (and_right (leb a x) (ltb x (a + n)) h)

pub within_none : (a x : ℕ) → within a 0 x ≡ false
within_none a x = bool_iff _ _ (λ h. absurd (omega (arith, low_within a 0 x h, high_within a 0 x h))) (λ h. clash {b = false} h refl)

pub within_one : (a x : ℕ) → within a 1 x ≡ eqb x a
unfolding within
within_one a x = go (leb a x) refl (ltb x (a + 1)) refl
  where
    go : (p : Bool) → leb a x ≡ p → (q : Bool) → ltb x (a + 1) ≡ q → (leb a x && ltb x (a + 1)) ≡ eqb x a
    go true e true f = simp (e, f, eq-eqb x a (omega (arith, leb-true a x e, ltb-true x (a + 1) f)))
    go true e false f = simp (e, f, ne_eqb x a (λ h. omega (arith, ltb-false x (a + 1) f)))
    go false e q f = simp (e, ne_eqb x a (λ h. omega (arith, leb-false a x e)))

-- One number more.
pub within_more : (a n x : ℕ) → within a (suc n) x ≡ (eqb x a || within (a + 1) n x)
unfolding within
within_more a n x = go (eqb x a) refl
  where
    go : (q : Bool) → eqb x a ≡ q → (leb a x && ltb x (a + suc n)) ≡ (eqb x a || (leb (a + 1) x && ltb x (a + 1 + n)))
    go true e = simp (e, le-leb a x (omega (arith, eqb-true x a e)), lt-ltb x (a + suc n) (omega (arith, eqb-true x a e)))
    go false e = rw e (ap₂ ◌&&◌ low (ap (ltb x) (omega arith)))
      where
        low : leb a x ≡ leb (a + 1) x
        low =
            bool_iff _ _ (λ h. le-leb (a + 1) x (omega (arith, leb-true a x h, eqb-false x a e)))
            (λ h. le-leb a x (omega (arith, leb-true (a + 1) x h)))

pub within_on : (a n x : ℕ) → a ≤ x → x < a + n → within a n x ≡ true
unfolding within
within_on a n x h g = simp (le-leb a x h, lt-ltb x (a + n) g)

-- ── what a range has

-- The test as facts, and from facts.
pub hits_in_lem : (r : Range) (s : Surface) → hits r s ≡ true → InRange r s
unfolding hits
hits_in_lem r s h =
    let test = each (eqb s.texture r.texture ∷ within r.mip r.mips s.mip ∷ eqb s.slice r.slice ∷ within r.layer r.layers s.layer ∷ []) h in
    record {
      texture = eqb-true s.texture r.texture (test 0);
      mip_low = low_within r.mip r.mips s.mip (test 1);
      mip_high = high_within r.mip r.mips s.mip (test 1);
      layer_low = low_within r.layer r.layers s.layer (test 3);
      layer_high = high_within r.layer r.layers s.layer (test 3);
      slice = eqb-true s.slice r.slice (test 2);
    }

-- A surface's own range has that surface alone.
pub hits_only : (t s : Surface) → hits (only_range t) s ≡ same s t
unfolding hits same
hits_only t s = simp within_one

-- ── lists of surfaces

pub elem_append : (s : Surface) (a b : List Surface) → elem s (a ++ b) ≡ (elem s a || elem s b)
elem_append s [] b = refl
elem_append s (x ∷ a) b = rw (elem_append s a b) (sym (or_assoc (same s x) (elem s a) (elem s b)))

pub elem_retain : (f : Surface → Bool) (s : Surface) (l : List Surface) → elem s (retain f l) ≡ (f s && elem s l)
elem_retain f s [] = sym (and-false (f s))
elem_retain f s (x ∷ l) = go (f x) refl (same s x) refl (elem_retain f s l)
  where
    go : (p : Bool) → f x ≡ p → (q : Bool) → same s x ≡ q → elem s (retain f l) ≡ (f s && elem s l)
        → elem s (cond (f x) (x ∷ retain f l) (retain f l)) ≡ (f s && (same s x || elem s l))
    go true e true g ih = let h : f s ≡ true = ap f (same_eq s x g) ∙ e in simp (e, g, h)
    go true e false g ih = simp (e, g, ih)
    go false e true g ih = let h : f s ≡ false = ap f (same_eq s x g) ∙ e in simp (e, ih, h)
    go false e false g ih = simp (e, g, ih)

-- A list none of whose surfaces passes a test.
pub retain_none : (f : Surface → Bool) (l : List Surface) → ((s : Surface) → elem s l ≡ true → f s ≡ false) → length (retain f l) ≡ 0
retain_none f [] h = refl
retain_none f (x ∷ l) h =
    ap (λ b. length (cond b (x ∷ retain f l) (retain f l))) (h x (or_on_left (same x x) (elem x l) (same_refl x)))
    ∙ retain_none f l (λ s e. h s (or_on_right (same s x) (elem s l) e))

-- The layers of a mip.
pub elem_layers : (t m k l n : ℕ) (s : Surface)
    → elem s (layers_from t m k l n) ≡ (eqb s.texture t && eqb s.mip m && eqb s.slice k && within l n s.layer)
unfolding same
elem_layers t m k l zero s =
    sym (ap (λ q. eqb s.texture t && eqb s.mip m && eqb s.slice k && q) (within_none l s.layer) ∙ and-false (eqb s.texture t && eqb s.mip m && eqb s.slice k))
elem_layers t m k l (suc n) s =
    rw (elem_layers t m k (l + 1) n s, within_more l n s.layer)
    (or_factor (eqb s.texture t && eqb s.mip m && eqb s.slice k) (eqb s.layer l) (within (l + 1) n s.layer))

-- As many as there are layers.
pub layers_count : (t m k l n : ℕ) → length (layers_from t m k l n) ≡ n
layers_count t m k l zero = refl
layers_count t m k l (suc n) = ap suc (layers_count t m k (l + 1) n)

-- A range of one mip has the surfaces of its layers.
pub layers_all : (r : Range) → r.mips ≡ 1 → (s : Surface) → elem s (layers_of r) ≡ hits r s
unfolding hits
layers_all r p s =
    elem_layers r.texture r.mip r.slice r.layer r.layers s
    ∙ ap (λ q. eqb s.texture r.texture && q && eqb s.slice r.slice && within r.layer r.layers s.layer)
    (sym (ap (λ n. within r.mip n s.mip) p ∙ within_one r.mip s.mip))

-- ── surfaces and ranges of a session

-- Number 6's tests as facts, and from facts.
pub surface_inside : (S : Session) (s : Surface) → surface_valid S s ≡ true → Inside S s
unfolding surface_valid
surface_inside S s h =
    let t : Texture = S.texture s.texture in
    let test = each (ltb s.texture S.texture_count ∷ ltb s.mip t.mips ∷ ltb s.layer (array_layers t) ∷ ltb s.slice (slices_in t s.mip) ∷ []) h in
    record {
      texture = ltb-true s.texture S.texture_count (test 0);
      mip = ltb-true s.mip t.mips (test 1);
      layer = ltb-true s.layer (array_layers t) (test 2);
      slice = ltb-true s.slice (slices_in t s.mip) (test 3);
    }

pub inside_surface : (S : Session) (s : Surface) → Inside S s → surface_valid S s ≡ true
unfolding surface_valid
inside_surface S s h =
    simp (
      lt-ltb s.texture S.texture_count h.texture,
      lt-ltb s.mip (S.texture s.texture).mips h.mip,
      lt-ltb s.layer (array_layers (S.texture s.texture)) h.layer,
      lt-ltb s.slice (slices_in (S.texture s.texture) s.mip) h.slice,
    )

-- The six tests of a range.
pub range_from : (S : Session) (r : Range) → ltb r.texture S.texture_count ≡ true
    → leb 1 r.mips ≡ true → leb (r.mip + r.mips) (S.texture r.texture).mips ≡ true
    → leb 1 r.layers ≡ true → leb (r.layer + r.layers) (array_layers (S.texture r.texture)) ≡ true
    → r.slice < slices_in (S.texture r.texture) (r.mip + r.mips - 1) → RangeInside S r
range_from S r texture some_mip mips some_layer layers slice = record {
  texture = ltb-true r.texture S.texture_count texture;
  some_mip = leb-true 1 r.mips some_mip;
  mips = leb-true (r.mip + r.mips) (S.texture r.texture).mips mips;
  some_layer = leb-true 1 r.layers some_layer;
  layers = leb-true (r.layer + r.layers) (array_layers (S.texture r.texture)) layers;
  slice = slice;
}

pub range_inside : (S : Session) (r : Range) → range_valid S r ≡ true → RangeInside S r
unfolding range_valid
range_inside S r h =
    let t : Texture = S.texture r.texture in
    let test = each (ltb r.texture S.texture_count ∷ leb 1 r.mips ∷ leb (r.mip + r.mips) t.mips ∷ leb 1 r.layers ∷ leb (r.layer + r.layers) (array_layers t) ∷ ltb r.slice (slices_in t (r.mip + r.mips - 1)) ∷ []) h in
    range_from S r (test 0) (test 1) (test 2) (test 3) (test 4) (ltb-true r.slice (slices_in t (r.mip + r.mips - 1)) (test 5))

pub inside_range : (S : Session) (r : Range) → RangeInside S r → range_valid S r ≡ true
unfolding range_valid
inside_range S r h =
    simp (
      lt-ltb r.texture S.texture_count h.texture,
      le-leb 1 r.mips h.some_mip,
      le-leb (r.mip + r.mips) (S.texture r.texture).mips h.mips,
      le-leb 1 r.layers h.some_layer,
      le-leb (r.layer + r.layers) (array_layers (S.texture r.texture)) h.layers,
      lt-ltb r.slice (slices_in (S.texture r.texture) (r.mip + r.mips - 1)) h.slice,
    )
