-- Laws of texts that are written: a digit more, a number more, a line more.
use mathlib.Core.Path.{◌≡◌, refl, sym, ap, ◌∙◌}
use mathlib.Core.List.{List, [], ◌∷◌, ◌++◌, append_assoc, append-nil}
use Prim.Native.Nat.{ℕ, zero, suc, ◌+◌, ◌-◌, ◌/◌, ◌%◌, ◌^◌, ◌≤◌, ◌<◌}
use native.Mathlib.Omega.{arith}
use native.Mathlib.Nat.{not-suc-le-zero}
use native.Mathlib.Numerals.{add-one}
use borrow.Author.Tests.{lt-ltb, le-ltb}
use lib.ListN.{length, get_or, take, drop}
use lib.Seq.{sets, take-suc}
use Rattle.report.specs.Text.{zero_digit, max_digits, places, digits, decimal, space, joined, line_text, lines_text}
use Rattle.report.specs.Put.{Put}
use Rattle.report.proofs.Put.{put_as, put_then}

-- ── digits of a number

-- Counting digits stops below ten and after the most digits, and else goes on with a tenth.
pub count_stops : (k n : ℕ) → k < max_digits → n < 10 → places (max_digits - k) k n ≡ k
unfolding places
count_stops k n h l =
    let e : max_digits - k ≡ suc (max_digits - (k + 1)) = omega arith in
    rw e (simp (lt-ltb n 10 l))

pub count_ends : (k n : ℕ) → k ≡ max_digits → places (max_digits - k) k n ≡ k
unfolding places
count_ends k n h = rw h

pub count_goes : (k n : ℕ) → k < max_digits → 10 ≤ n → places (max_digits - k) k n ≡ places (max_digits - (k + 1)) (k + 1) (n / 10)
unfolding places
count_goes k n h l =
    let e : max_digits - k ≡ suc (max_digits - (k + 1)) = omega arith in
    rw e (simp (le-ltb n 10 l))

-- A digit that is written is the first of those that are left.
pub digit_more : {l l' : List ℕ} {p p' b : ℕ} (m k n : ℕ) → k ≡ suc m → b ≡ zero_digit + n / 10 ^ m % 10 → Put l p (b ∷ []) l' p'
    → sets l' p' (digits m n) ≡ sets l p (digits k n)
unfolding digits
digit_more m k n e d put = rw (put.behind, put.bytes, d, e, add-one)

-- k digits are k bytes.
pub digits_length : (k n : ℕ) → length (digits k n) ≡ k
unfolding digits
digits_length zero n = refl
digits_length (suc k) n = ap suc (digits_length k n)

-- ── numbers of a row, lines

-- A further number at the end.
joined_append : (x : ℕ) (xs : List ℕ) (y : ℕ) → joined (x ∷ (xs ++ (y ∷ []))) ≡ joined (x ∷ xs) ++ (space ∷ decimal y)
unfolding joined
joined_append x [] y = refl
joined_append x (a ∷ xs) y =
    ap (λ t. decimal x ++ (space ∷ t)) (joined_append a xs y) ∙ sym (append_assoc (decimal x) (space ∷ joined (a ∷ xs)) (space ∷ decimal y))

-- The first i numbers behind one, and one number more.
pub joined_more : (x : ℕ) (xs : List ℕ) (i : ℕ) → i < length xs
    → joined (x ∷ take i xs) ++ (space ∷ decimal (get_or xs i 0)) ≡ joined (x ∷ take (i + 1) xs)
joined_more x xs i h =
    sym (joined_append x (take i xs) (get_or xs i 0)) ∙ ap (λ l. joined (x ∷ l)) (sym (take-suc xs i 0 h)) ∙ ap (λ (k : ℕ). joined (x ∷ take k xs)) (sym (add-one i))

-- The first of a row and those behind it are the row.
pub joined_whole : (xs : List ℕ) → 0 < length xs → joined (get_or xs 0 0 ∷ drop 1 xs) ≡ joined xs
joined_whole [] h = absurd (not-suc-le-zero h)
joined_whole (x ∷ xs) h = refl

-- The first number of a row is written.
pub number_first : {l m : List ℕ} {at p : ℕ} (xs : List ℕ) → 0 < length xs → Put l at (decimal (get_or xs 0 0)) m p → Put l at (joined (take 1 xs)) m p
unfolding joined
number_first xs h put = put_as (ap joined (sym (take-suc xs 0 0 h))) put

-- The first i numbers of a row, and one number more.
pub number_more : {l m n : List ℕ} {at p q : ℕ} (xs : List ℕ) (i : ℕ) → 0 < i → i < length xs → Put l at (joined (take i xs)) m p
    → Put m p (space ∷ decimal (get_or xs i 0)) n q
    → Put l at (joined (take (i + 1) xs)) n q
number_more xs zero h less so_far put = absurd (not-suc-le-zero h)
number_more [] (suc i) h less so_far put = absurd (not-suc-le-zero less)
number_more (x ∷ xs) (suc i) h less so_far put =
    let e : suc i + 1 ≡ suc (i + 1) = omega arith in
    rw e (put_as (joined_more x xs i (omega arith)) (put_then so_far put))

-- A further line at the end of a list of lines.
pub lines_more : (ls : List (List ℕ)) (l : List ℕ) → lines_text (ls ++ (l ∷ [])) ≡ lines_text ls ++ line_text l
unfolding lines_text
lines_more [] l = append-nil (line_text l)
lines_more (a ∷ ls) l = ap (λ t. line_text a ++ t) (lines_more ls l) ∙ sym (append_assoc (line_text a) (lines_text ls) (line_text l))

-- Some lines, and one line more.
pub line_more : {l m n : List ℕ} {p q : ℕ} (rows : List (List ℕ)) (row : List ℕ) → Put l 0 (lines_text rows) m p → Put m p (line_text row) n q
    → Put l 0 (lines_text (rows ++ (row ∷ []))) n q
line_more rows row so_far put = put_as (sym (lines_more rows row)) (put_then so_far put)
