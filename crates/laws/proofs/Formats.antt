-- Colour formats and depth-stencil formats are apart; a view's format has what its texture's has.
use mathlib.Core.Path.{◌≡◌, refl, sym, ap, ◌∙◌}
use mathlib.Core.Bool.{Bool, true, false, cond}
use Prim.Native.Nat.{ℕ, ◌<◌}
use native.Mathlib.Omega.{arith}
use lib.Dec.{leb, eqb}
use borrow.Author.Tests.{eqb-true, ne_eqb, leb-true}
use Rattle.definition.specs.Formats.{is_color, aspects, has_depth, has_stencil, is_depth_stencil, remove_srgb_suffix}
use Rattle.definition.specs.Readable.{format_fits}
use Rattle.laws.proofs.Tests.{clash, and_right}

-- A colour format is no number past 14.
color_below : (f : ℕ) → is_color f ≡ true → (n : ℕ) → 14 < n → eqb f n ≡ false
unfolding is_color
color_below f h n g = ne_eqb f n (λ e. omega (arith, leb-true f 14 (and_right (leb 1 f) (leb f 14) h)))

-- A colour format has neither aspect.
color_neither : (f : ℕ) → is_color f ≡ true → aspects f ≡ record { depth = false; stencil = false }
unfolding aspects
color_neither f h =
    let other = color_below f h in
    simp (other 20 (omega arith), other 21 (omega arith), other 22 (omega arith), other 23 (omega arith), other 24 (omega arith), other 25 (omega arith))

pub color_depth : (f : ℕ) → is_color f ≡ true → has_depth f ≡ false
color_depth f h = ap (λ a. a.depth) (color_neither f h)

pub color_stencil : (f : ℕ) → is_color f ≡ true → has_stencil f ≡ false
color_stencil f h = ap (λ a. a.stencil) (color_neither f h)

-- A depth-stencil format is no colour format.
pub depth_color : (f : ℕ) → is_depth_stencil f ≡ true → is_color f ≡ false
depth_color f h = go (is_color f) refl
  where
    go : (b : Bool) → is_color f ≡ b → is_color f ≡ false
    go true e = clash h (rw (color_depth f e, color_stencil f e))
    go false e = e

-- ── siblings

-- What 3 shares with 4, and 5 with 6, a format shares with itself without its suffix.
suffix_same : {A : Type 0} (P : ℕ → A) → P 3 ≡ P 4 → P 5 ≡ P 6 → (f : ℕ) → P (remove_srgb_suffix f) ≡ P f
unfolding remove_srgb_suffix
suffix_same P p q f = go (eqb f 4) refl (eqb f 6) refl
  where
    go : (b : Bool) → eqb f 4 ≡ b → (c : Bool) → eqb f 6 ≡ c → P (cond b 3 (cond c 5 f)) ≡ P f
    go true e c d = p ∙ ap P (sym (eqb-true f 4 e))
    go false e true d = q ∙ ap P (sym (eqb-true f 6 d))
    go false e false d = refl

-- What siblings share is a view's as it is its texture's.
pub fits_same : {A : Type 0} (P : ℕ → A) → P 3 ≡ P 4 → P 5 ≡ P 6 → (v t : ℕ) → format_fits v t ≡ true → P v ≡ P t
unfolding format_fits
fits_same P p q v t h = sym (suffix_same P p q v) ∙ ap P (eqb-true (remove_srgb_suffix v) (remove_srgb_suffix t) h) ∙ suffix_same P p q t

pub fits_color : (v t : ℕ) → format_fits v t ≡ true → is_color v ≡ is_color t
unfolding is_color
fits_color = fits_same is_color refl refl

pub fits_aspects : (v t : ℕ) → format_fits v t ≡ true → aspects v ≡ aspects t
unfolding aspects
fits_aspects = fits_same aspects refl refl
