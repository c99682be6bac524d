-- Rows by columns: lengths, where each byte stands, the way back, and one turn of each loop.
use mathlib.Core.Path.{◌≡◌, refl, sym, ap, ◌∙◌}
use mathlib.Core.List.{List, [], ◌∷◌, ◌++◌, append_assoc}
use Prim.Native.Nat.{ℕ, zero, suc, ◌+◌, ◌*◌, ◌/◌, ◌%◌, ◌≤◌, ◌<◌}
use native.Mathlib.Nat.{mul-suc, mul-zero, mul_comm, mul-le-mul_left, div-add-mod, mod-lt, div-lt_iff_lt-mul}
use native.Mathlib.Omega.{arith}
use native.Mathlib.Numerals.{add-one}
use borrow.Rule.Slice.PartMut.{put_mid}
use lib.ListN.{length, get_or, take, drop, set, length-append, get_or-append, take-append-drop}
use lib.Seq.{take-suc-set, get_or-append-add, get_or-append_seam, ext_get_or}
use Rattle.std.proofs.lemmas.Slice.{take-put_mid, drop-put_mid}
use Rattle.laws.proofs.Tests.{by_order}
use Rattle.laws.proofs.Records.{drop_more}
use Rattle.columns.specs.Columns.{column, columns, transposed}

pub mul_add_one : (m n : ℕ) → m * (n + 1) ≡ m * n + m
mul_add_one m n = rw add-one (mul-suc m n)

-- ── lengths

pub column_length : (c : ℕ) (b : List ℕ) (j n : ℕ) → length (column c b j n) ≡ n
unfolding column
column_length c b j zero = refl
column_length c b j (suc n) = length-append (column c b j n) _ ∙ omega (arith, column_length c b j n)

pub columns_length : (r c : ℕ) (b : List ℕ) (m : ℕ) → length (columns r c b m) ≡ r * m
unfolding columns
columns_length r c b zero = sym (mul-zero r)
columns_length r c b (suc m) =
    length-append (columns r c b m) (column c b m r)
    ∙ omega (arith, columns_length r c b m, column_length c b m r, mul-suc r m)

-- ── where each byte stands

pub column_at : (c : ℕ) (b : List ℕ) (j n i : ℕ) → i < n → get_or (column c b j n) i 0 ≡ get_or b (c * i + j) 0
unfolding column
column_at c b j zero i h = absurd (omega arith)
column_at c b j (suc n) i h =
    by_order {P = get_or (column c b j n ++ (get_or b (c * n + j) 0 ∷ [])) i 0 ≡ get_or b (c * i + j) 0} n i
    (λ g. let e : i ≡ n = omega arith in
    ap (λ k. get_or (column c b j n ++ (get_or b (c * n + j) 0 ∷ [])) k 0) (e ∙ sym (column_length c b j n))
    ∙ get_or-append_seam (column c b j n) _ [] 0 ∙ ap (λ k. get_or b (c * k + j) 0) (sym e))
    (λ g. get_or-append (column c b j n) _ 0 i (omega (arith, column_length c b j n)) ∙ column_at c b j n i g)

pub columns_at : (r c : ℕ) (b : List ℕ) (m j i : ℕ) → j < m → i < r → get_or (columns r c b m) (r * j + i) 0 ≡ get_or b (c * i + j) 0
unfolding columns
columns_at r c b zero j i h g = absurd (omega arith)
columns_at r c b (suc m) j i h g =
    by_order {P = get_or (columns r c b m ++ column c b m r) (r * j + i) 0 ≡ get_or b (c * i + j) 0} m j
    (λ q. let e : j ≡ m = omega arith in
    ap (λ (k : ℕ). get_or (columns r c b m ++ column c b m r) (k + i) 0) (ap (λ (k : ℕ). r * k) e ∙ sym (columns_length r c b m))
    ∙ get_or-append-add (columns r c b m) (column c b m r) i 0
    ∙ column_at c b m r i g
    ∙ ap (λ (k : ℕ). get_or b (c * i + k) 0) (sym e))
    (λ q. get_or-append (columns r c b m) (column c b m r) 0 (r * j + i)
    (omega (arith, columns_length r c b m, mul-suc r j, mul-le-mul_left r q))
    ∙ columns_at r c b m j i q g)

-- ── back

-- Of r rows of c bytes: by columns and back by rows.
pub transposed_back : (r c : ℕ) (b : List ℕ) → length b ≡ c * r → transposed c r (transposed r c b) ≡ b
transposed_back r c b h = ext_get_or 0 (transposed c r (transposed r c b)) b (size ∙ sym h) (λ k g. go c refl k (omega (arith, size)))
  where
    size : length (transposed c r (transposed r c b)) ≡ c * r
    size = columns_length c r (transposed r c b) r

    go : (d : ℕ) → c ≡ d → (k : ℕ) → k < c * r → get_or (transposed c r (transposed r c b)) k 0 ≡ get_or b k 0
    go zero e k l = absurd (omega (arith, ap (λ (x : ℕ). x * r) e, mul_comm zero r, mul-zero r))
    go (suc d) e k l =
        let pos : 0 < c = omega arith in
        let whole : c * (k / c) + k % c ≡ k = div-add-mod k c in
        let low : k % c < c = mod-lt k pos in
        let high : k / c < r = (div-lt_iff_lt-mul pos).1 (omega (arith, l, mul_comm c r)) in
        ap (λ (x : ℕ). get_or (transposed c r (transposed r c b)) x 0) (sym whole)
        ∙ columns_at c r (transposed r c b) r (k / c) (k % c) high low
        ∙ columns_at r c b c (k % c) (k / c) low high
        ∙ ap (λ (x : ℕ). get_or b x 0) whole

-- ── a turn of each loop

-- A byte more of a column that stands from `at` on.
pub column_turn : (c : ℕ) (b : List ℕ) (j at i : ℕ) (out₀ out : List ℕ) (v : ℕ) → at + i < length out → v ≡ get_or b (c * i + j) 0
    → take (at + i) out ≡ take at out₀ ++ column c b j i → take (at + (i + 1)) (set out (at + i) v) ≡ take at out₀ ++ column c b j (i + 1)
unfolding column
column_turn c b j at i out₀ out v h e p =
    let q : at + (i + 1) ≡ suc (at + i) = omega arith in
    ap (λ k. take k (set out (at + i) v)) q
    ∙ take-suc-set out (at + i) v h
    ∙ ap (λ l. l ++ (v ∷ [])) p
    ∙ append_assoc (take at out₀) (column c b j i) (v ∷ [])
    ∙ rw add-one (ap (λ x. take at out₀ ++ (column c b j i ++ (x ∷ []))) e)

-- The same of one that stands alone.
pub column_put : (c : ℕ) (b : List ℕ) (j i : ℕ) (out : List ℕ) → i < length out → take i out ≡ column c b j i
    → take (i + 1) (set out i (get_or b (c * i + j) 0)) ≡ column c b j (i + 1)
unfolding column
column_put c b j i out h p = rw add-one (take-suc-set out i _ h ∙ ap (λ l. l ++ (get_or b (c * i + j) 0 ∷ [])) p)

-- A column more at the front.
pub columns_turn : (r c : ℕ) (b : List ℕ) (at j : ℕ) (out out' : List ℕ) → take at out ≡ columns r c b j
    → take (at + r) out' ≡ take at out ++ column c b j r → take (at + r) out' ≡ columns r c b (j + 1)
unfolding columns
columns_turn r c b at j out out' p q = rw add-one (q ∙ ap (λ l. l ++ column c b j r) p)

-- A column more, behind those in front; what is behind it stays.
module _ (r c : ℕ) (b : List ℕ) (j : ℕ) (out out₀ : List ℕ) (col : List ℕ) (room : r * j + r ≤ length out) (written : col ≡ column c b j r)
    (behind : drop (r * j) out ≡ drop (r * j) out₀) where
  long : length col ≡ r
  long = ap length written ∙ column_length c b j r

  pub columns_put : take (r * j) out ≡ columns r c b j → take (r * (j + 1)) (put_mid (r * j) r out col) ≡ columns r c b (j + 1)
  unfolding columns
  columns_put p =
      take-put_mid (r * j) r out col (r * (j + 1)) (omega (arith, long, mul_add_one r j)) (omega arith)
      ∙ rw add-one (ap (λ l. l ++ col) p ∙ ap (λ l. columns r c b j ++ l) written)

  pub columns_stay : drop (r * (j + 1)) (put_mid (r * j) r out col) ≡ drop (r * (j + 1)) out₀
  columns_stay =
      drop-put_mid (r * j) r out col (r * (j + 1)) (omega (arith, mul_add_one r j)) (omega arith) long
      ∙ drop_more (r * j) (r * (j + 1)) out₀ out (omega (arith, mul_add_one r j)) behind

-- There is room for column j.
pub column_room : (r c j n : ℕ) → j < c → r * c ≤ n → r * j + r ≤ n
column_room r c j n h g = omega (arith, mul-suc r j, mul-le-mul_left r h)

-- What stands in front and what stays behind it are the whole target.
pub both_parts : (k m : ℕ) (f out out₀ : List ℕ) → k ≡ m → take k out ≡ f → drop k out ≡ drop k out₀ → out ≡ f ++ drop m out₀
both_parts k m f out out₀ e p q = sym (take-append-drop k out) ∙ ap (λ l. l ++ drop k out) p ∙ ap (λ l. f ++ l) (q ∙ ap (λ (x : ℕ). drop x out₀) e)
