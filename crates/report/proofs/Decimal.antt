-- A number's text is the library's, and right: it reads back as the number, and only that of 0 starts with "0".
use mathlib.Core.Path.{◌≡◌, refl, sym, ap, ◌∙◌}
use mathlib.Core.List.{List, [], ◌∷◌, ◌++◌}
use Prim.Native.Nat.{ℕ, zero, suc, ◌+◌, ◌/◌, ◌%◌, ◌^◌, ◌≤◌, ◌<◌}
use native.Mathlib.Omega.{arith}
use native.Mathlib.Nat.{pow-succ', div-div-eq-div-mul}
use mathlib.Core.Bool.{true, false, Bool}
use borrow.Author.Rules.{rules}
use borrow.Author.Tests.{lt-ltb, le-ltb}
use lib.Dec.{ltb}
use Rattle.std.proofs.lemmas.Fmt.{AppendsLastDigit, decimal_from_appends, length-decimal-le, digits_value-decimal, first_decimal}
use Rattle.std.proofs.lemmas.Str.Parse.{IsNumeralModel, numerals_by_fold, tells_digits}
use Rattle.std.specs.Str.Parse.{AllDigits}
use Rattle.std.specs.Fmt.{decimal as library_decimal}
use Rattle.report.specs.Text.{zero_digit, max_digits, places, digits, decimal, reads, Says}

-- ── the library's text

-- One that was counted already is one more.
places_more : (f k n : ℕ) → places f (k + 1) n ≡ places f k n + 1
unfolding places
places_more zero k n = refl
places_more (suc f) k n = go (places_more f (k + 1) (n / 10)) (ltb n 10) refl
  where
    go : places f (k + 1 + 1) (n / 10) ≡ places f (k + 1) (n / 10) + 1 → (b : Bool) → ltb n 10 ≡ b → places (suc f) (k + 1) n ≡ places (suc f) k n + 1
    go rest true e = simp e refl
    go rest false e = simp e rest

-- The last digit stands behind the digits of a tenth.
digits_last : (m n : ℕ) → digits (suc m) n ≡ digits m (n / 10) ++ ((zero_digit + n % 10) ∷ [])
unfolding digits
digits_last zero n =
    let whole : n / 10 ^ 0 ≡ n = omega arith in
    ap (λ (k : ℕ). (zero_digit + k % 10) ∷ []) whole
digits_last (suc m) n =
    let tenth : n / 10 ^ suc m ≡ n / 10 / 10 ^ m = ap (λ (k : ℕ). n / k) (pow-succ' 10 m) ∙ sym (div-div-eq-div-mul n 10 (10 ^ m)) in
    ap (λ (k : ℕ). (zero_digit + k % 10) ∷ digits (suc m) n) tenth ∙ ap (λ l. (zero_digit + n / 10 / 10 ^ m % 10) ∷ l) (digits_last m n)

-- At most so many digits.
text_within : ℕ → ℕ → List ℕ
text_within zero n = []
text_within (suc k) n = digits (places k 1 n) n

one_digit : (k n : ℕ) → n < 10 → text_within (suc k) n ≡ (zero_digit + n) ∷ []
unfolding places digits text_within
one_digit k n h = ap (λ (i : ℕ). digits i n) (counted k) ∙ digits_last 0 n ∙ ap (λ (d : ℕ). (zero_digit + d) ∷ []) (omega arith)
  where
    counted : (k : ℕ) → places k 1 n ≡ 1
    counted zero = refl
    counted (suc k) = simp (lt-ltb n 10 h) refl

more_digits : (k n : ℕ) → 10 ≤ n → text_within (suc k) n ≡ text_within k (n / 10) ++ ((zero_digit + n % 10) ∷ [])
unfolding places digits text_within
more_digits zero n h = digits_last 0 n
more_digits (suc k) n h =
    let counted : places (suc k) 1 n ≡ suc (places k 1 (n / 10)) = simp (le-ltb n 10 h) (places_more k 1 (n / 10) ∙ omega arith) in
    ap (λ (i : ℕ). digits i n) counted ∙ digits_last (places k 1 (n / 10)) n

appends : AppendsLastDigit text_within
appends = record { one = one_digit; more = more_digits }

pub decimal_same : (n : ℕ) → n < 10 ^ max_digits → decimal n ≡ library_decimal n
unfolding decimal text_within
decimal_same n h = decimal_from_appends text_within appends max_digits n (omega arith) (length-decimal-le max_digits n (omega arith) (omega arith) (omega arith))

-- ── so the text of a u32 says it

own : IsNumeralModel (AllDigits 10) (reads 0)
own = numerals_by_fold _ tells_digits reads (search rules)

pub decimal_says : (n : ℕ) → n < 10 ^ max_digits → Says n (decimal n)
decimal_says n h =
    let e = decimal_same n h in
    let big : n < 2 ^ 64 = omega arith in
    rw e (record { number = digits_value-decimal own n big; no_leading_zero = λ l z. omega (arith, z, first_decimal n l big) })
