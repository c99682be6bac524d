-- Laws of texts that are written: one behind another is both; at the front of a buffer, the text is what its first bytes are.
use mathlib.Core.Path.{◌≡◌, refl, sym, ap, ◌∙◌}
use mathlib.Core.List.{List, [], ◌∷◌, ◌++◌, append_assoc}
use Prim.Native.Nat.{ℕ, suc, ◌+◌, ◌-◌, ◌≤◌}
use native.Mathlib.Omega.{arith}
use native.Mathlib.Nat.{add-zero}
use lib.ListN.{length, take, drop, set, length-append, length-take}
use borrow.Rule.Slice.PartMut.{put_mid}
use lib.Seq.{sets, sets-eq, length-sets, take_at, drop_at, drop-drop}
use Rattle.report.specs.Put.{Put}
use Rattle.report.specs.Printed.{Printed}

-- Bytes that are stored one run after the other.
sets_append : (xs ys l : List ℕ) (i : ℕ) → sets l i (xs ++ ys) ≡ sets (sets l i xs) (i + length xs) ys
sets_append [] ys l i = ap (λ k. sets l k ys) (sym (add-zero i))
sets_append (x ∷ xs) ys l i =
    let e : suc i + length xs ≡ i + suc (length xs) = omega arith in
    sets_append xs ys (set l i x) (suc i) ∙ ap (λ k. sets (sets (set l i x) (suc i) xs) k ys) e

-- Bytes that are copied into the middle.
pub put_middle : (l xs copied : List ℕ) (i : ℕ) → i + length xs ≤ length l → copied ≡ xs
    → Put l i xs (put_mid i (i + length xs - i) l copied) (i + length xs)
put_middle l xs copied i h e =
    let count : i + length xs - i ≡ length xs = omega arith in
    record {
      bytes =
          ap (λ (k : ℕ). put_mid i k l copied) count
          ∙ ap (λ m. take i l ++ (m ++ drop (length xs) (drop i l))) e
          ∙ ap (λ m. take i l ++ (xs ++ m)) (drop-drop (length xs) i l)
          ∙ sym (append_assoc (take i l) xs (drop (i + length xs) l))
          ∙ sym (sets-eq xs l i h);
      behind = refl;
    }

-- The buffer has the length that it had.
pub put_length : {l m xs : List ℕ} {i k : ℕ} → Put l i xs m k → length m ≡ length l
put_length {l} {xs = xs} {i = i} p = ap length p.bytes ∙ length-sets l i xs

-- Nothing is written.
pub put_none : (l : List ℕ) (i : ℕ) → Put l i [] l i
put_none l i = record { bytes = refl; behind = sym (add-zero i) }

-- A text, and another behind it.
pub put_then : {l m n xs ys : List ℕ} {i j k : ℕ} → Put l i xs m j → Put m j ys n k → Put l i (xs ++ ys) n k
put_then {l} {m} {n} {xs} {ys} {i} {j} {k} p q = record {
  bytes = q.bytes ∙ rw (p.bytes, p.behind) (sym (sets_append xs ys l i));
  behind = q.behind ∙ omega (arith, p.behind, length-append xs ys);
}

-- A text that is the same.
pub put_as : {l m xs ys : List ℕ} {i j : ℕ} → xs ≡ ys → Put l i xs m j → Put l i ys m j
put_as {l} {i = i} e p = record { bytes = p.bytes ∙ ap (sets l i) e; behind = p.behind ∙ ap (λ zs. i + length zs) e }

pub printed_as : {l m xs ys : List ℕ} {n : ℕ} → xs ≡ ys → Printed l xs m n → Printed l ys m n
printed_as e p = record { front = p.front ∙ e; behind = p.behind; fits = p.fits; counted = p.counted }

-- At the front of a buffer that has room for it.
pub printed : {l m xs : List ℕ} {n : ℕ} → Put l 0 xs m n → n ≤ length l → Printed l xs m n
printed {l} {m} {xs} {n} p h = record {
  front = ap (take n) split ∙ take_at xs (drop n l) n size;
  behind = ap (drop n) split ∙ drop_at xs (drop n l) n size;
  fits = long;
  counted = simp length-take (omega (arith, long));
}
  where
    size : length xs ≡ n
    size = omega (arith, p.behind)

    split : m ≡ xs ++ drop n l
    split = p.bytes ∙ sets-eq xs l 0 (omega arith) ∙ ap (λ k. xs ++ drop k l) (sym p.behind)

    long : n ≤ length m
    long = rw p.bytes (rw (length-sets l 0 xs) h)
