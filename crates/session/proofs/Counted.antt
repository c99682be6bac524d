-- The mips of a texture that is not 3D are alike, and so are those of a 3D texture from mip 32 on. A sum that stops at a limit is the whole sum
-- stopped there, so the count of surfaces may be cut at every step.
use Rattle.std.proofs.Common.{◌≡◌, ℕ, zero, suc, ◌+◌, ◌-◌, ◌*◌, ◌<◌, ◌≤◌, min, Bool, true, false, eqb, leb, refl, ap, ◌∙◌, suc-mul, mul-le-mul, zero-mul, arith, eq-eqb, leb-false, leb-true}
use Rattle.encoding.proofs.Bits.{shifted_out}
use Rattle.definition.specs.Formats.{mip_size}
use Rattle.definition.specs.declared.Texture.{Texture}
use Rattle.definition.specs.Sizes.{max_surfaces}
use Rattle.definition.specs.Session.{Session, array_layers, slices_in, mips_before, surfaces_before, surfaces_in}
use Rattle.session.specs.Counted.{surfaces_up_to}

-- The product of two u32 is below 2 ^ 64.
pub product : (a b : ℕ) → a < 4294967296 → b < 4294967296 → a * b ≤ 18446744065119617025
product a b h k =
    let p : a ≤ 4294967295 = omega arith in
    let q : b ≤ 4294967295 = omega arith in
    mul-le-mul p q

-- ── mips

-- The mips before n of a texture that is not 3D.
pub flat_before : (x : Texture) (n : ℕ) → eqb x.dimension 3 ≡ false → n * array_layers x ≡ mips_before x n
unfolding mips_before slices_in
flat_before x zero h = zero-mul (array_layers x)
flat_before x (suc n) h = rw h (omega (arith, suc-mul n (array_layers x), flat_before x n h))

-- One mip more of a 3D texture.
pub slices_suc : (x : Texture) (n : ℕ) → x.dimension ≡ 3 → mips_before x n + slices_in x n ≡ mips_before x (suc n)
unfolding mips_before array_layers
slices_suc x n h = rw (eq-eqb x.dimension 3 h) (omega arith)

-- From mip 32 on a mip is one slice.
slices_last : (x : Texture) (n : ℕ) → x.dimension ≡ 3 → x.depth < 4294967296 → 32 ≤ n → slices_in x n ≡ 1
unfolding slices_in mip_size
slices_last x n h d k = simp (eq-eqb x.dimension 3 h, shifted_out x.depth n d k)

slices_rest : (x : Texture) (n i : ℕ) → x.dimension ≡ 3 → x.depth < 4294967296 → 32 ≤ n → mips_before x n + i ≡ mips_before x (n + i)
slices_rest x n zero h d k = let e : n ≡ n + 0 = omega arith in omega arith ∙ ap (mips_before x) e
slices_rest x n (suc i) h d k =
    let e : suc (n + i) ≡ n + suc i = omega arith in
    omega (arith, slices_rest x n i h d k, slices_suc x (n + i) h, slices_last x (n + i) h d (omega arith)) ∙ ap (mips_before x) e

pub slices_all : (x : Texture) (n k : ℕ) → x.dimension ≡ 3 → x.depth < 4294967296 → k ≡ min n 32 → mips_before x k + (n - k) ≡ mips_before x n
slices_all x n k h d e = go (leb n 32) refl
  where
    go : (b : Bool) → leb n 32 ≡ b → mips_before x k + (n - k) ≡ mips_before x n
    go true f = let g : k ≡ n = omega (arith, leb-true n 32 f) in omega arith ∙ ap (mips_before x) g
    go false f = let g : k + (n - k) ≡ n = omega (arith, leb-false n 32 f) in slices_rest x k (n - k) h d (omega (arith, leb-false n 32 f)) ∙ ap (mips_before x) g

-- ── textures

-- One more texture.
pub up_to_suc : (S : Session) (k : ℕ) → min (suc max_surfaces) (surfaces_up_to S k + surfaces_in (S.texture k)) ≡ surfaces_up_to S (suc k)
unfolding surfaces_up_to surfaces_before
up_to_suc S k = omega arith

-- Where no more surfaces are counted than a session has at most, nothing is cut off.
pub up_to_is : (S : Session) (n : ℕ) → surfaces_before S n ≤ max_surfaces → surfaces_up_to S n ≡ surfaces_before S n
unfolding surfaces_up_to
up_to_is S n h = omega arith
