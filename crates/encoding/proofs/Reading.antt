-- Four bytes at four places in a row are the number there, past the end the number is 0, and behind a place the numbers are those of the bytes there.
use mathlib.Core.Path.{◌≡◌, refl, sym, ap, ◌∙◌}
use mathlib.Core.List.{List}
use Prim.Native.Nat.{ℕ, ◌+◌, ◌*◌, ◌≤◌}
use native.Mathlib.Omega.{arith}
use lib.ListN.{length, get_or, drop, get_or-eq_default}
use lib.Seq.{get_or-drop}
use Rattle.definition.specs.Bytes.{u32_at}
use Rattle.encoding.specs.Reading.{eight_at}

-- The four places are given by equations, so that whoever cites the law need not write them as the definition does.
pub four : (s : List ℕ) (at i j k l a b c d : ℕ) → a ≡ get_or s i 0 → b ≡ get_or s j 0 → c ≡ get_or s k 0 → d ≡ get_or s l 0
    → i ≡ at → j ≡ at + 1 → k ≡ at + 2 → l ≡ at + 3 → a + 256 * b + 65536 * c + 16777216 * d ≡ u32_at s at
unfolding u32_at
four s at i j k l a b c d ea eb ec ed ei ej ek el = simp (ea, eb, ec, ed, ei, ej, ek, el)

-- Past the end a byte is 0.
pub no_byte : (s : List ℕ) (i : ℕ) → length s ≤ i → 0 ≡ get_or s i 0
no_byte s i h = sym (get_or-eq_default s 0 {n = i} h)

pub no_number : (s : List ℕ) (at : ℕ) → length s ≤ at → 0 ≡ u32_at s at
no_number s at h =
    four s at at (at + 1) (at + 2) (at + 3) 0 0 0 0
    (no_byte s at h) (no_byte s (at + 1) (omega arith)) (no_byte s (at + 2) (omega arith)) (no_byte s (at + 3) (omega arith))
    (omega arith) (omega arith) (omega arith) (omega arith)

pub no_eight : (s : List ℕ) (at : ℕ) → length s ≤ at → record { n0 = 0; n1 = 0; n2 = 0; n3 = 0; n4 = 0; n5 = 0; n6 = 0; n7 = 0 } ≡ eight_at s at
no_eight s at h = λ i. record {
  n0 = no_number s at h i;
  n1 = no_number s (at + 4) (omega arith) i;
  n2 = no_number s (at + 8) (omega arith) i;
  n3 = no_number s (at + 12) (omega arith) i;
  n4 = no_number s (at + 16) (omega arith) i;
  n5 = no_number s (at + 20) (omega arith) i;
  n6 = no_number s (at + 24) (omega arith) i;
  n7 = no_number s (at + 28) (omega arith) i;
}

-- A number behind a place.
pub number_behind : (s : List ℕ) (at k : ℕ) → u32_at (drop at s) k ≡ u32_at s (at + k)
unfolding u32_at
number_behind s at k =
    four s (at + k) (at + k) (at + (k + 1)) (at + (k + 2)) (at + (k + 3)) _ _ _ _
    (get_or-drop at s k 0) (get_or-drop at s (k + 1) 0) (get_or-drop at s (k + 2) 0) (get_or-drop at s (k + 3) 0)
    refl (omega arith) (omega arith) (omega arith)

-- Of the bytes from a place on, the first numbers are those at the place.
pub number_from : (rest s : List ℕ) (at : ℕ) → rest ≡ drop at s → u32_at rest 0 ≡ u32_at s at
number_from rest s at e = ap (λ b. u32_at b 0) e ∙ number_behind s at 0 ∙ ap (u32_at s) (omega arith)

pub eight_from : (rest s : List ℕ) (at : ℕ) → rest ≡ drop at s → eight_at rest 0 ≡ eight_at s at
eight_from rest s at e =
    let later : (k : ℕ) → u32_at rest k ≡ u32_at s (at + k) = λ k. ap (λ b. u32_at b k) e ∙ number_behind s at k in
    λ i. record {
      n0 = number_from rest s at e i;
      n1 = later 4 i;
      n2 = later 8 i;
      n3 = later 12 i;
      n4 = later 16 i;
      n5 = later 20 i;
      n6 = later 24 i;
      n7 = later 28 i;
    }
