-- The bits of a are among those of b exactly where a & b is a: the lowest bit by itself, and the others of the halves.
use mathlib.Core.Path.{◌≡◌, refl, sym, ap, ◌∙◌}
use mathlib.Core.Logic.{◌≢◌}
use mathlib.Core.Bool.{Bool, true, false, not, ◌&&◌, ◌||◌, and-true, and_assoc}
use Prim.Native.Nat.{ℕ, zero, suc, ◌+◌, ◌*◌, ◌/◌, ◌%◌, ◌^◌, ◌<◌, min}
use native.Mathlib.Omega.{arith}
use native.Mathlib.Nat.{div-div-eq-div-mul, mul_comm, pow-suc}
use lib.Dec.{leb, eqb}
use lib.Bits.{bit_and, and_step}
use borrow.Author.Tests.{eqb-true, eqb-false, eq-eqb, ne_eqb, leb-true}
use Rattle.definition.specs.Sizes.{max_usage}
use Rattle.definition.specs.Bytes.{bit}
use Rattle.definition.specs.Readable.{bits_below, usage_among}
use Rattle.laws.proofs.Tests.{bool_iff, and_on, and_left, and_right, or_on_left, or_on_right, implies_on, not_on}

-- Bit n of a is one of b.
abbrev among : ℕ → ℕ → ℕ → Bool
among a b n = not (bit a n) || bit b n

-- Bit n + 1 is bit n of the half.
bit_half : (a n : ℕ) → bit a (suc n) ≡ bit (a / 2) n
bit_half a n =
    let halved : a / 2 ^ suc n ≡ a / 2 / 2 ^ n = ap (λ m. a / m) (pow-suc 2 n ∙ mul_comm (2 ^ n) 2) ∙ sym (div-div-eq-div-mul a 2 (2 ^ n)) in
    ap (λ m. eqb (m % 2) 1) halved

-- The lowest bit apart.
lowest : (a b n : ℕ) → bits_below a b (suc n) ≡ (among a b 0 && bits_below (a / 2) (b / 2) n)
unfolding bits_below
lowest a b zero = sym (and-true (among a b 0))
lowest a b (suc n) =
    ap (λ x. x && among a b (suc n)) (lowest a b n)
    ∙ and_assoc (among a b 0) (bits_below (a / 2) (b / 2) n) (among a b (suc n))
    ∙ ap (λ x. among a b 0 && (bits_below (a / 2) (b / 2) n && x)) (λ i. not (bit_half a n i) || bit_half b n i)

-- The lowest digit of a & b is that of a exactly where it is one of b.
low_on : (a b x : ℕ) → x * 2 + min (a % 2) (b % 2) ≡ a → among a b 0 ≡ true
low_on a b x q = go (bit b 0) refl
  where
    go : (t : Bool) → bit b 0 ≡ t → among a b 0 ≡ true
    go true e = or_on_right (not (bit a 0)) (bit b 0) e
    go false e =
        let off = eqb-false (b / 2 ^ 0 % 2) 1 e in
        let none : a / 2 ^ 0 % 2 ≢ 1 = omega (arith, q, off) in
        or_on_left (not (bit a 0)) (bit b 0) (not_on (bit a 0) (ne_eqb _ _ none))

low_same : (a b x : ℕ) → among a b 0 ≡ true → x ≡ a / 2 → x * 2 + min (a % 2) (b % 2) ≡ a
low_same a b x h q = go (bit a 0) refl
  where
    go : (t : Bool) → bit a 0 ≡ t → x * 2 + min (a % 2) (b % 2) ≡ a
    go true e = omega (arith, q, eqb-true (a / 2 ^ 0 % 2) 1 e, eqb-true (b / 2 ^ 0 % 2) 1 (implies_on (bit a 0) (bit b 0) h e))
    go false e = omega (arith, q, eqb-false (a / 2 ^ 0 % 2) 1 e)

digit : (a b x : ℕ) → (among a b 0 && eqb x (a / 2)) ≡ eqb (x * 2 + min (a % 2) (b % 2)) a
digit a b x =
    bool_iff _ _
    (λ e. eq-eqb _ _ (low_same a b x (and_left (among a b 0) _ e) (eqb-true _ _ (and_right (among a b 0) _ e))))
    (λ e. let q = eqb-true (x * 2 + min (a % 2) (b % 2)) a e in let half : x ≡ a / 2 = omega (arith, q) in and_on _ _ (low_on a b x q) (eq-eqb _ _ half))

-- A number of n bits.
below_is : (n a b : ℕ) → a < 2 ^ n → bits_below a b n ≡ eqb (bit_and a b) a
unfolding bits_below
below_is zero a b h = let e : a ≡ 0 = omega arith in rw e
below_is (suc n) a b h =
    let half : a / 2 < 2 ^ n = omega (arith, h, pow-suc 2 n) in
    lowest a b n ∙ ap (λ t. among a b 0 && t) (below_is n (a / 2) (b / 2) half) ∙ digit a b (bit_and (a / 2) (b / 2)) ∙ ap (λ m. eqb m a) (sym (and_step a b))

-- A usage field has six bits.
pub usage_is : (a b : ℕ) → (leb a max_usage && eqb (bit_and a b) a) ≡ usage_among a b
unfolding usage_among
usage_is a b = go (leb a max_usage) refl
  where
    go : (t : Bool) → leb a max_usage ≡ t → (t && eqb (bit_and a b) a) ≡ (t && bits_below a b 6)
    go true e = sym (below_is 6 a b (omega (arith, leb-true a max_usage e)))
    go false e = refl
