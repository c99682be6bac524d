-- What is written is read back, and what stands elsewhere stays.
use mathlib.Core.Path.{◌≡◌, refl, sym, ap, ap₂, ◌∙◌}
use mathlib.Core.Logic.{◌≢◌}
use mathlib.Core.List.{List, [], ◌∷◌, ◌++◌, append_assoc, append-nil}
use mathlib.Core.Bool.{Bool, true, false, cond}
use Prim.Native.Nat.{ℕ, zero, suc, ◌+◌, ◌*◌, ◌/◌, ◌%◌, ◌^◌, ◌≤◌, ◌<◌}
use native.Mathlib.Nat.{add-zero, add-suc, not-suc-le-zero}
use native.Mathlib.Omega.{arith}
use lib.Dec.{leb}
use lib.ListN.{length, take, drop, get_or, length-append}
use lib.Seq.{get_or-set_other, get_or_at, get_or-take, take_at, drop-set-lt, take-suc, take_all}
use Rattle.definition.specs.Bytes.{u32_at}
use Rattle.laws.proofs.Tests.{by_order}
use Rattle.encoding.specs.Writing.{put_bytes, put_number}
use Rattle.encoding.proofs.Writing.{put_length, put_read}
use Rattle.whole_session.specs.Numbers.{numbers_at, put_numbers}

-- ── one number of k bytes

-- A byte that is none of the k bytes stays.
byte_stays : (s : List ℕ) (at n k j : ℕ) → ((i : ℕ) → i < k → j ≢ at + i) → get_or (put_bytes s at n k) j 0 ≡ get_or s j 0
unfolding put_bytes
byte_stays s at n zero j h = refl
byte_stays s at n (suc k) j h =
    get_or-set_other (put_bytes s at n k) (at + k) j (n / 256 ^ k % 256) 0 (h k (omega arith)) ∙ byte_stays s at n k j (λ i l. h i (omega arith))

-- The same of a number, which is written whole or not at all.
number_stays : (s : List ℕ) (at n k j : ℕ) → ((i : ℕ) → i < k → j ≢ at + i) → get_or (put_number k s at n) j 0 ≡ get_or s j 0
unfolding put_number
number_stays s at n k j h = go (leb (at + k) (length s))
  where
    go : (b : Bool) → get_or (cond b (put_bytes s at n k) s) j 0 ≡ get_or s j 0
    go true = byte_stays s at n k j h
    go false = refl

-- The bytes past it stay.
pub number_past : (s : List ℕ) (at n k m : ℕ) → at + k ≤ m → drop m (put_number k s at n) ≡ drop m s
unfolding put_number put_bytes
number_past s at n k m h = go (leb (at + k) (length s))
  where
    bytes : (i : ℕ) → i ≤ k → drop m (put_bytes s at n i) ≡ drop m s
    bytes zero l = refl
    bytes (suc i) l = drop-set-lt m (put_bytes s at n i) (at + i) (n / 256 ^ i % 256) (omega arith) ∙ bytes i (omega arith)

    go : (b : Bool) → drop m (cond b (put_bytes s at n k) s) ≡ drop m s
    go true = bytes k (omega arith)
    go false = refl

-- Writing keeps the length.
pub number_length : (s : List ℕ) (at n k : ℕ) → length (put_number k s at n) ≡ length s
unfolding put_number
number_length s at n k = go (leb (at + k) (length s))
  where
    go : (b : Bool) → length (cond b (put_bytes s at n k) s) ≡ length s
    go true = put_length s at n k
    go false = refl

-- ── numbers one after the other

pub numbers_length : (b : List ℕ) (at : ℕ) (xs : List ℕ) (n : ℕ) → length (put_numbers b at xs n) ≡ length b
unfolding put_numbers
numbers_length b at xs zero = refl
numbers_length b at xs (suc n) = number_length (put_numbers b at xs n) (at + 4 * n) (get_or xs n 0) 4 ∙ numbers_length b at xs n

-- A number that ends where a later one starts stays when that is written.
u32_before : (s : List ℕ) (at n j : ℕ) → j + 4 ≤ at → u32_at (put_number 4 s at n) j ≡ u32_at s j
unfolding u32_at
u32_before s at n j h =
    let e : (k : ℕ) → k < 4 → get_or (put_number 4 s at n) (j + k) 0 ≡ get_or s (j + k) 0 = λ k l. number_stays s at n 4 (j + k) (λ i g z. omega arith) in
    simp (number_stays s at n 4 j (λ i g z. omega arith), e 1 (omega arith), e 2 (omega arith), e 3 (omega arith))

-- And so does one that starts where it ends.
u32_after : (s : List ℕ) (at n j : ℕ) → at + 4 ≤ j → u32_at (put_number 4 s at n) j ≡ u32_at s j
unfolding u32_at
u32_after s at n j h =
    let e : (k : ℕ) → k < 4 → get_or (put_number 4 s at n) (j + k) 0 ≡ get_or s (j + k) 0 = λ k l. number_stays s at n 4 (j + k) (λ i g z. omega arith) in
    simp (number_stays s at n 4 j (λ i g z. omega arith), e 1 (omega arith), e 2 (omega arith), e 3 (omega arith))

numbers_after : (s : List ℕ) (at n j m : ℕ) → at + 4 ≤ j → numbers_at (put_number 4 s at n) j m ≡ numbers_at s j m
unfolding numbers_at
numbers_after s at n j zero h = refl
numbers_after s at n j (suc m) h = ap₂ (λ l x. l ++ (x ∷ [])) (numbers_after s at n j m h) (u32_after s at n (j + 4 * m) (omega arith))

-- So the numbers before it, and any number before the first, stay.
numbers_before : (s : List ℕ) (at at' n m : ℕ) → at + 4 * m ≤ at' → numbers_at (put_number 4 s at' n) at m ≡ numbers_at s at m
unfolding numbers_at
numbers_before s at at' n zero h = refl
numbers_before s at at' n (suc m) h = ap₂ (λ l x. l ++ (x ∷ [])) (numbers_before s at at' n m (omega arith)) (u32_before s at' n (at + 4 * m) (omega arith))

pub number_kept : (b : List ℕ) (at : ℕ) (xs : List ℕ) (n j : ℕ) → j + 4 ≤ at → u32_at (put_numbers b at xs n) j ≡ u32_at b j
unfolding put_numbers
number_kept b at xs zero j h = refl
number_kept b at xs (suc n) j h = u32_before (put_numbers b at xs n) (at + 4 * n) (get_or xs n 0) j (omega arith) ∙ number_kept b at xs n j h

-- The bytes past the last number stay.
pub numbers_past : (b : List ℕ) (at : ℕ) (xs : List ℕ) (n m : ℕ) → at + 4 * n ≤ m → drop m (put_numbers b at xs n) ≡ drop m b
unfolding put_numbers
numbers_past b at xs zero m h = refl
numbers_past b at xs (suc n) m h = number_past (put_numbers b at xs n) (at + 4 * n) (get_or xs n 0) 4 m (omega arith) ∙ numbers_past b at xs n m (omega arith)

-- Numbers that are written are read back.
pub numbers_read : (b : List ℕ) (at : ℕ) (xs : List ℕ) (n : ℕ) → at + 4 * n ≤ length b → n ≤ length xs → ((i : ℕ) → i < n → get_or xs i 0 < 4294967296)
    → numbers_at (put_numbers b at xs n) at n ≡ take n xs
unfolding numbers_at put_numbers
numbers_read b at xs zero h l small = refl
numbers_read b at xs (suc n) h l small =
    let w : List ℕ = put_numbers b at xs n in
    let room : at + 4 * n + 4 ≤ length w = rw (numbers_length b at xs n) (omega arith) in
    ap₂ (λ l x. l ++ (x ∷ []))
    (numbers_before w at (at + 4 * n) (get_or xs n 0) n (omega arith) ∙ numbers_read b at xs n (omega arith) (omega arith) (λ i g. small i (omega arith)))
    (sym (put_read w (at + 4 * n) (get_or xs n 0) room (small n (omega arith))))
    ∙ sym (take-suc xs n 0 (omega arith))

-- So many numbers are read as are asked for.
pub length_numbers : (b : List ℕ) (at n : ℕ) → length (numbers_at b at n) ≡ n
unfolding numbers_at
length_numbers b at zero = refl
length_numbers b at (suc n) = length-append (numbers_at b at n) (u32_at b (at + 4 * n) ∷ []) ∙ omega (arith, length_numbers b at n)

pub whole_numbers : (b : List ℕ) (at n : ℕ) → take n (numbers_at b at n) ≡ numbers_at b at n
whole_numbers b at n = take_all n (numbers_at b at n) (omega (arith, length_numbers b at n))

-- Numbers that stand before the place stay.
pub numbers_kept : (b : List ℕ) (at : ℕ) (xs : List ℕ) (n j m : ℕ) → j + 4 * m ≤ at → numbers_at (put_numbers b at xs n) j m ≡ numbers_at b j m
unfolding numbers_at
numbers_kept b at xs n j zero h = refl
numbers_kept b at xs n j (suc m) h = λ q. numbers_kept b at xs n j m (omega arith) q ++ (number_kept b at xs n (j + 4 * m) (omega arith) q ∷ [])

-- Numbers one after the other are the first of them and then the others.
numbers_append : (b : List ℕ) (at m n : ℕ) → numbers_at b at (m + n) ≡ numbers_at b at m ++ numbers_at b (at + 4 * m) n
unfolding numbers_at
numbers_append b at m zero = ap (numbers_at b at) (add-zero m) ∙ sym (append-nil (numbers_at b at m))
numbers_append b at m (suc n) =
    let place : at + 4 * (m + n) ≡ at + 4 * m + 4 * n = omega arith in
    ap (numbers_at b at) (add-suc m n)
    ∙ ap₂ (λ l (q : ℕ). l ++ (u32_at b q ∷ [])) (numbers_append b at m n) place
    ∙ append_assoc (numbers_at b at m) (numbers_at b (at + 4 * m) n) (u32_at b (at + 4 * m + 4 * n) ∷ [])

-- One of them, where it stands.
pub number_of : (b : List ℕ) (at n j : ℕ) → j < n → get_or (numbers_at b at n) j 0 ≡ u32_at b (at + 4 * j)
unfolding numbers_at
number_of b at zero j h = absurd (not-suc-le-zero h)
number_of b at (suc n) j h =
    let first : List ℕ = numbers_at b at n in
    let last : List ℕ = u32_at b (at + 4 * n) ∷ [] in
    by_order {P = get_or (first ++ last) j 0 ≡ u32_at b (at + 4 * j)} n j
    (λ g. let e : n ≡ j = omega arith in get_or_at first _ [] 0 j (length_numbers b at n ∙ e) ∙ ap (λ (q : ℕ). u32_at b (at + 4 * q)) e)
    (λ g. sym (get_or-take n (first ++ last) j 0 g) ∙ ap (λ l. get_or l j 0) (take_at first last n (length_numbers b at n)) ∙ number_of b at n j g)

-- After the first number is written, and others behind h that follow it, these stand behind the h.
pub numbers_behind : (b xs ys : List ℕ) (x h n : ℕ) → numbers_at (put_numbers (put_number 4 b 0 x) (4 + 4 * h) xs n) (4 + 4 * h) n ≡ ys
    → numbers_at (put_numbers (put_number 4 b 0 x) (4 + 4 * h) xs n) 4 (h + n) ≡ numbers_at b 4 h ++ ys
numbers_behind b xs ys x h n e =
    numbers_append _ 4 h n ∙ ap₂ ◌++◌ (numbers_kept (put_number 4 b 0 x) (4 + 4 * h) xs n 4 h (omega arith) ∙ numbers_after b 0 x 4 h (omega arith)) e
