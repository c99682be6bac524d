-- Laws of masks and powers of two: a mask's top bit is below n exactly where the mask is below 2 ^ n, and 2 ^ n - 1 has every bit below n.
use mathlib.Core.Path.{◌≡◌, sym, ap, ◌∙◌}
use mathlib.Core.Bool.{true, false}
use Prim.Native.Nat.{ℕ, suc, ◌+◌, ◌-◌, ◌*◌, ◌%◌, ◌^◌, ◌<◌, ◌≤◌}
use native.Mathlib.Nat.{one-mul, le_trans, lt_of_lt_of_le}
use native.Mathlib.Omega.{arith}
use lib.Dec.{ltb, eqb}
use lib.Count.{count_leading_zeros, leading_top}
use lib.Pow.{pow_mono, pow_pos, shl_exact}
use borrow.Author.Tests.{lt-ltb, le-ltb, eq-eqb, ne_eqb, eqb-true}
use Rattle.laws.proofs.Tests.{by_order, bool_iff}

-- No mask at all.
pub none_below : (n : ℕ) → true ≡ ltb 0 (2 ^ n)
none_below n = sym (lt-ltb 0 (2 ^ n) (pow_pos n))

-- A mask of 32 bits that is not 0 has at most 31 leading zeros.
pub zeros_few : (m : ℕ) → 0 < m → m < 2 ^ 32 → count_leading_zeros 32 m ≤ 31
zeros_few m p h = let t = leading_top 32 m p h in omega (arith, t.1)

-- A bit's place is below n where the numbers of which it is the top bit are below 2 ^ n.
bit_below : (m n r : ℕ) → 2 ^ r ≤ m → m < 2 ^ suc r → ltb r n ≡ ltb m (2 ^ n)
bit_below m n r low high =
    by_order n r (λ h. le-ltb r n h ∙ sym (le-ltb m (2 ^ n) (le_trans (pow_mono h) low)))
    (λ h. lt-ltb r n h ∙ sym (lt-ltb m (2 ^ n) (lt_of_lt_of_le high (pow_mono h))))

-- The top bit, from the leading zeros.
pub top_below : (m n : ℕ) → 0 < m → m < 2 ^ 32 → ltb (31 - count_leading_zeros 32 m) n ≡ ltb m (2 ^ n)
top_below m n p h =
    let t = leading_top 32 m p h in
    let e : 31 - count_leading_zeros 32 m ≡ t.0 = omega (arith, t.1) in
    ap (λ r. ltb r n) e ∙ bit_below m n t.0 t.2 t.3

-- One bit, moved up by fewer than 32.
pub one_shl : (n : ℕ) → n < 32 → 1 * 2 ^ n % 4294967296 ≡ 2 ^ n
one_shl n h = shl_exact 1 n 32 (omega arith) (omega arith) ∙ one-mul (2 ^ n)

-- A mask is one less than p where it and one more are p.
pub one_less : (m p : ℕ) → 0 < p → eqb m (p - 1) ≡ eqb (m + 1) p
one_less m p h =
    bool_iff _ _ (λ e. eq-eqb (m + 1) p (omega (arith, eqb-true m (p - 1) e))) (λ e. eq-eqb m (p - 1) (omega (arith, eqb-true (m + 1) p e)))

-- No mask of 32 bits is full at more than 32 layers.
pub never_full : (m n : ℕ) → m < 4294967296 → 32 < n → false ≡ eqb (m + 1) (2 ^ n)
never_full m n h k = let p : 2 ^ 33 ≤ 2 ^ n = pow_mono k in sym (ne_eqb (m + 1) (2 ^ n) (λ e. omega arith))
