-- A texture's samples by a bit each, its format with its dimension, and all of its tests as the definition has them.
use mathlib.Core.Path.{◌≡◌, refl, sym, ap, ◌∙◌}
use mathlib.Core.Logic.{◌≢◌}
use mathlib.Core.Bool.{Bool, true, false, not, ◌&&◌, and-true}
use Prim.Native.Nat.{ℕ, zero, suc, ◌/◌, ◌^◌, ◌≤◌}
use native.Mathlib.Omega.{arith}
use native.Mathlib.Nat.{div-eq_of_lt, lt_of_lt_of_le}
use lib.Dec.{leb, eqb}
use lib.Pow.{pow_mono}
use borrow.Author.Tests.{leb-true, leb-false, eqb-true, ne_eqb}
use Rattle.definition.specs.Sizes.{max_size, max_layers, max_mips, max_usage}
use Rattle.definition.specs.Bytes.{bit}
use Rattle.definition.specs.Formats.{is_color, is_format, is_depth_stencil}
use Rattle.definition.specs.Readable.{between, samples_valid, texture_valid}
use Rattle.definition.specs.declared.Texture.{Texture}
use Rattle.laws.proofs.Tests.{and_off_right}
use Rattle.laws.proofs.Folds.{and_each}
use Rattle.session_validation.specs.Tests.{format_valid}

-- ── samples

-- The numbers of samples, each by its bit.
abbrev pub samples : ℕ
samples = 65814

-- Whether two answers are one.
abbrev alike : Bool → Bool → Bool
alike true b = b
alike false b = not b

alike_is : (a b : Bool) → alike a b ≡ true → a ≡ b
alike_is true b h = sym h
alike_is false true h = h
alike_is false false h = refl

-- Each of the first n numbers has its bit exactly where it may be a number of samples.
abbrev told : ℕ → Bool
told n = alike (bit samples n) (samples_valid n)

all_told : ℕ → Bool
all_told zero = true
all_told (suc n) = all_told n && told n

few_told : all_told 17 ≡ true
unfolding all_told samples_valid
few_told = refl

-- From 17 on there is neither.
many_told : (n : ℕ) → 17 ≤ n → bit samples n ≡ samples_valid n
unfolding samples_valid
many_told n h =
    let none : samples / 2 ^ n ≡ 0 = div-eq_of_lt (lt_of_lt_of_le (omega arith) (pow_mono h)) in
    let n₁ : n ≢ 1 = omega arith in
    let n₂ : n ≢ 2 = omega arith in
    let n₄ : n ≢ 4 = omega arith in
    let n₈ : n ≢ 8 = omega arith in
    let n₁₆ : n ≢ 16 = omega arith in
    simp (none, ne_eqb n 1 n₁, ne_eqb n 2 n₂, ne_eqb n 4 n₄, ne_eqb n 8 n₈, ne_eqb n 16 n₁₆)

pub samples_told : (n : ℕ) → bit samples n ≡ samples_valid n
unfolding all_told
samples_told n = go (leb 17 n) refl
  where
    go : (b : Bool) → leb 17 n ≡ b → bit samples n ≡ samples_valid n
    go true e = many_told n (leb-true 17 n e)
    go false e = alike_is _ _ (and_each all_told told (λ k. refl) 17 few_told n (leb-false 17 n e))

-- ── the format with the dimension

pub format_color : (f d : ℕ) → is_color f ≡ true → between 1 3 d ≡ format_valid f d
unfolding format_valid is_format
format_color f d e = rw e (sym (and-true (between 1 3 d)))

pub format_depth : (f d : ℕ) → is_color f ≡ false → (is_depth_stencil f && eqb d 2) ≡ format_valid f d
unfolding format_valid is_format between
format_depth f d e = rw e (go (eqb d 2) refl)
  where
    go : (b : Bool) → eqb d 2 ≡ b → (is_depth_stencil f && b) ≡ (is_depth_stencil f && between 1 3 d && b)
    go true h =
        let within : between 1 3 d ≡ true = ap (between 1 3) (eqb-true d 2 h) in
        rw within (sym (and-true (is_depth_stencil f && true)))
    go false h = and_off_right (is_depth_stencil f) false refl ∙ sym (and_off_right (is_depth_stencil f && between 1 3 d) false refl)

-- ── the row

pub texture_tested : (t : Texture) {format width height depth mips samples : Bool} → format ≡ format_valid t.format t.dimension
    → width ≡ between 1 max_size t.width → height ≡ between 1 max_size t.height → depth ≡ between 1 max_layers t.depth
    → mips ≡ between 1 max_mips t.mips → samples ≡ samples_valid t.samples
    → (format && width && height && depth && mips && samples && leb t.usage max_usage) ≡ texture_valid t
unfolding texture_valid format_valid
texture_tested t ef ew eh ed em es = λ i. ef i && ew i && eh i && ed i && em i && es i && leb t.usage max_usage
