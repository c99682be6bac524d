-- What is left of a number after k bytes is n / 256 ^ k, and a byte that is written is not written again.
use mathlib.Core.Path.{◌≡◌, refl, sym, ap, ◌∙◌}
use mathlib.Core.List.{List}
use mathlib.Core.Bool.{Bool, true, false}
use mathlib.Core.Logic.{◌≢◌}
use Prim.Native.Nat.{ℕ, zero, suc, ◌+◌, ◌*◌, ◌/◌, ◌%◌, ◌^◌, ◌≤◌, ◌<◌}
use native.Mathlib.Omega.{arith}
use lib.Dec.{eqb}
use lib.ListN.{length, get_or, set, length-set}
use lib.Seq.{sets, get_or-set_same, get_or-set_other}
use native.Mathlib.Nat.{div-div-eq-div-mul, div-one, mod-eq_of_lt, not-suc-le-zero}
use native.Mathlib.Numerals.{unary_clauses}
use Rattle.std.specs.Int.{w32, to_le_bytes}
use borrow.Author.Tests.{le-leb, lt-leb, eqb-true, eqb-false}
use Rattle.definition.specs.Bytes.{u32_at}
use Rattle.encoding.proofs.Reading.{four}
use Rattle.encoding.specs.Writing.{put_bytes, put_number}

-- Writing keeps the length.
pub put_length : (s : List ℕ) (at n k : ℕ) → length (put_bytes s at n k) ≡ length s
unfolding put_bytes
put_length s at n zero = refl
put_length s at n (suc k) = simp length-set (put_length s at n k)

-- Dividing by 256 once more.
pub shifted : (b n k : ℕ) → n / b ^ k / b ≡ n / b ^ suc k
shifted b n k = simp unary_clauses (div-div-eq-div-mul n (b ^ k) b)

-- Inside, a number is its bytes; elsewhere nothing is written.
pub put_inside : (k : ℕ) (s : List ℕ) (at n : ℕ) → at + k ≤ length s → put_bytes s at n k ≡ put_number k s at n
unfolding put_number
put_inside k s at n h = simp (le-leb (at + k) (length s) h)

pub put_nowhere : (k : ℕ) (s : List ℕ) (at n : ℕ) → length s < at + k → s ≡ put_number k s at n
unfolding put_number
put_nowhere k s at n h = simp (lt-leb (at + k) (length s) h)

-- Four stores in a row are those of the number's bytes.
pub four_stores : (bs s : List ℕ) (at n : ℕ) → bs ≡ to_le_bytes w32 n
    → set (set (set (set s at (get_or bs 0 0)) (at + 1) (get_or bs 1 0)) (at + 2) (get_or bs 2 0)) (at + 3) (get_or bs 3 0) ≡ sets s at (to_le_bytes w32 n)
four_stores bs s at n e =
    let e₁ : at + 1 ≡ suc at = omega arith in
    let e₂ : at + 2 ≡ suc (suc at) = omega arith in
    let e₃ : at + 3 ≡ suc (suc (suc at)) = omega arith in
    λ q. set (set (set (set s at (get_or (e q) 0 0)) (e₁ q) (get_or (e q) 1 0)) (e₂ q) (get_or (e q) 2 0)) (e₃ q) (get_or (e q) 3 0)

-- The four bytes of a u32, stored one after the other, write it.
pub put_four : (s : List ℕ) (at n : ℕ) → at + 4 ≤ length s → sets s at (to_le_bytes w32 n) ≡ put_number 4 s at n
unfolding put_bytes
put_four s at n h =
    let e₀ : at ≡ at + 0 = omega arith in
    let e₁ : suc at ≡ at + 1 = omega arith in
    let e₂ : suc (suc at) ≡ at + 2 = omega arith in
    let e₃ : suc (suc (suc at)) ≡ at + 3 = omega arith in
    let e : n ≡ n / 1 = sym (div-one n) in
    (λ q. set (set (set (set s (e₀ q) (e q % 256)) (e₁ q) (n / 256 % 256)) (e₂ q) (n / 65536 % 256)) (e₃ q) (n / 16777216 % 256)) ∙ put_inside 4 s at n h

-- Byte j of what is written is byte j of the number.
pub put_byte : (s : List ℕ) (at n k j : ℕ) → at + k ≤ length s → j < k → get_or (put_bytes s at n k) (at + j) 0 ≡ n / 256 ^ j % 256
unfolding put_bytes
put_byte s at n zero j h l = absurd (not-suc-le-zero l)
put_byte s at n (suc k) j h l = go (put_byte s at n k j (omega arith)) (eqb j k) refl
  where
    go : (j < k → get_or (put_bytes s at n k) (at + j) 0 ≡ n / 256 ^ j % 256) → (t : Bool) → eqb j k ≡ t → get_or (put_bytes s at n (suc k)) (at + j) 0 ≡ n / 256 ^ j % 256
    go before true e =
        let q : j ≡ k = eqb-true j k e in
        let room : at + k < length (put_bytes s at n k) = rw (put_length s at n k) (omega arith) in
        rw q (get_or-set_same (put_bytes s at n k) (at + k) (n / 256 ^ k % 256) 0 room)
    go before false e =
        let apart : at + j ≢ at + k = λ z. eqb-false j k e (omega arith) in
        get_or-set_other (put_bytes s at n k) (at + k) (at + j) (n / 256 ^ k % 256) 0 apart ∙ before (omega arith)

-- Four digits at base 256 make a number below 256 ^ 4.
digits : (n a b c : ℕ) → n / 256 ≡ a → a / 256 ≡ b → b / 256 ≡ c → c < 256 → n ≡ n % 256 + 256 * (a % 256) + 65536 * (b % 256) + 16777216 * c
digits n a b c ea eb ec h = omega arith

-- A u32 that is written is read back.
pub put_read : (s : List ℕ) (at n : ℕ) → at + 4 ≤ length s → n < 4294967296 → n ≡ u32_at (put_number 4 s at n) at
put_read s at n h l =
    let w = put_bytes s at n 4 in
    let b : (j : ℕ) → j < 4 → get_or w (at + j) 0 ≡ n / 256 ^ j % 256 = λ j i. put_byte s at n 4 j h i in
    let top : n / 256 ^ 3 < 256 = omega arith in
    let e₀ : n / 256 ^ 0 % 256 ≡ n % 256 = ap (λ m. m % 256) (div-one n) in
    let e₃ : n / 256 ^ 3 % 256 ≡ n / 256 ^ 3 = mod-eq_of_lt top in
    digits n (n / 256) (n / 65536) (n / 16777216) refl (shifted 256 n 1) (shifted 256 n 2) top
    ∙ four w at (at + 0) (at + 1) (at + 2) (at + 3) _ _ _ _ (sym (b 0 (omega arith) ∙ e₀)) (sym (b 1 (omega arith))) (sym (b 2 (omega arith))) (sym (b 3 (omega arith) ∙ e₃)) (omega arith) (omega arith) (omega arith) (omega arith)
    ∙ ap (λ x. u32_at x at) (put_inside 4 s at n h)
