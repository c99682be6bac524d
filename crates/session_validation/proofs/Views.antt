-- A view's tests: its dimension and its layers in one, and all of them as the definition has them.
use mathlib.Core.Path.{◌≡◌, refl, sym, ap, ◌∙◌}
use mathlib.Core.Logic.{◌≢◌}
use mathlib.Core.Bool.{Bool, true, false, ◌&&◌, ◌||◌, and-true}
use mathlib.Core.List.{List}
use Prim.Native.Nat.{ℕ, zero, suc, ◌+◌, ◌-◌, ◌<◌}
use native.Mathlib.Omega.{arith}
use lib.Dec.{leb, eqb}
use borrow.Author.Tests.{eqb-true, ne_eqb, lt-leb}
use Rattle.definition.specs.Session.{Session, session, array_layers, view_at}
use Rattle.definition.specs.Readable.{between, usage_among, dimension_fits, format_fits, view_in_texture, view_valid, first_views_valid}
use Rattle.definition.specs.declared.Texture.{Texture}
use Rattle.definition.specs.declared.View.{View}
use Rattle.laws.proofs.Tests.{and_right, and_off_right, or_on_left, or_on_right, cond_on, cond_off}
use Rattle.laws.proofs.Folds.{views_turn}
use Rattle.session.specs.Rows.{view_row, view_after}
use Rattle.session.specs.Derived.{is_part}
use Rattle.session_validation.specs.Tests.{layers_for}

-- View rows stand after the session's own textures.
pub view_own : (s : List ℕ) (textures k : ℕ) {v : View} → v ≡ view_after s textures k → textures ≡ (session s).texture_count → v ≡ (session s).view k
unfolding session
view_own s textures k e n = e ∙ ap (λ m. view_at s (view_row m k)) n

-- The last of the first k view rows: the others decide the answer where it can be read, and it decides the answer where it cannot.
module _ (S : Session) (k : ℕ) (some : 0 < k) where
  last : first_views_valid S k ≡ (first_views_valid S (k - 1) && view_valid S (S.view (k - 1)))
  last = let e : k ≡ k - 1 + 1 = omega arith in ap (first_views_valid S) e ∙ views_turn S (k - 1)

  pub last_read : view_valid S (S.view (k - 1)) ≡ true → first_views_valid S k ≡ first_views_valid S (k - 1)
  last_read h = last ∙ ap (λ b. first_views_valid S (k - 1) && b) h ∙ and-true (first_views_valid S (k - 1))

  pub last_refused : view_valid S (S.view (k - 1)) ≡ false → first_views_valid S k ≡ false
  last_refused h = last ∙ and_off_right (first_views_valid S (k - 1)) (view_valid S (S.view (k - 1))) h

-- The layers of each dimension that goes with the texture's, and of any other.
module _ (v : ℕ) (t : Texture) where
  abbrev one : Bool
  one = eqb v 1 && eqb t.dimension 1

  abbrev two : Bool
  two = between 2 5 v && eqb t.dimension 2

  abbrev volume : Bool
  volume = eqb v 6 && eqb t.dimension 3

  -- A texture that is not 3D has as many as it is deep.
  flat : (d : ℕ) → t.dimension ≡ d → d ≢ 3 → array_layers t ≡ t.depth
  unfolding array_layers
  flat d e n = cond_off (eqb t.dimension 3) 1 t.depth (ap (λ m. eqb m 3) e ∙ ne_eqb d 3 n)

  pub layers_two : two ≡ true → t.depth ≡ layers_for v t
  unfolding layers_for dimension_fits
  layers_two e =
      let h : t.dimension ≡ 2 = eqb-true t.dimension 2 (and_right (between 2 5 v) (eqb t.dimension 2) e) in
      sym (cond_on (one || volume || two) (array_layers t) 0 (or_on_right (one || volume) two e) ∙ flat 2 h (λ z. omega arith))

  pub layers_one : one ≡ true → t.depth ≡ layers_for v t
  unfolding layers_for dimension_fits
  layers_one e =
      let h : t.dimension ≡ 1 = eqb-true t.dimension 1 (and_right (eqb v 1) (eqb t.dimension 1) e) in
      sym (cond_on (one || volume || two) (array_layers t) 0 (or_on_left (one || volume) two (or_on_left one volume e)) ∙ flat 1 h (λ z. omega arith))

  pub layers_volume : volume ≡ true → 1 ≡ layers_for v t
  unfolding layers_for dimension_fits array_layers
  layers_volume e =
      sym (cond_on (one || volume || two) (array_layers t) 0 (or_on_left (one || volume) two (or_on_right one volume e)) ∙ cond_on (eqb t.dimension 3) 1 t.depth (and_right (eqb v 6) (eqb t.dimension 3) e))

  pub layers_none : two ≡ false → one ≡ false → volume ≡ false → 0 ≡ layers_for v t
  unfolding layers_for dimension_fits
  layers_none e₂ e₁ e₃ = sym (cond_off (one || volume || two) (array_layers t) 0 (rw (e₁, e₃, e₂)))

-- No range that is non-empty ends by 0.
part_none : (first count : ℕ) → is_part first count 0 ≡ false
unfolding is_part
part_none first zero = refl
part_none first (suc n) = let h : 0 < first + suc n = omega arith in and_off_right (leb 1 (suc n)) _ (lt-leb _ _ h)

part_for : (v first count : ℕ) (t : Texture) → is_part first count (layers_for v t) ≡ (dimension_fits v t.dimension && is_part first count (array_layers t))
unfolding layers_for
part_for v first count t = go (dimension_fits v t.dimension) refl
  where
    go : (b : Bool) → dimension_fits v t.dimension ≡ b → is_part first count (layers_for v t) ≡ (b && is_part first count (array_layers t))
    go true e = ap (is_part first count) (cond_on (dimension_fits v t.dimension) (array_layers t) 0 e)
    go false e = ap (is_part first count) (cond_off (dimension_fits v t.dimension) (array_layers t) 0 e) ∙ part_none first count

-- The dimension's test first.
ordered : (d a b x y : Bool) → ((a && b) && (d && (x && y))) ≡ (d && a && b && x && y)
ordered d false b x y = go d
  where
    go : (d : Bool) → false ≡ (d && false && b && x && y)
    go true = refl
    go false = refl
ordered d true false x y = go d
  where
    go : (d : Bool) → false ≡ (d && true && false && x && y)
    go true = refl
    go false = refl
ordered true true true x y = refl
ordered false true true x y = refl

-- The tests of a view in its texture, one by one.
pub in_texture : (t : Texture) (v : View) {mips layers usage resolvable format : Bool}
    → mips ≡ is_part v.mip v.mips t.mips → layers ≡ is_part v.layer v.layers (layers_for v.dimension t)
    → usage ≡ usage_among v.usage t.usage → resolvable ≡ leb v.resolvable 1 → format ≡ format_fits v.format t.format
    → (mips && layers && usage && resolvable && format) ≡ view_in_texture t v
unfolding view_in_texture is_part
in_texture t v em el eu er ef =
    (λ i. em i && el i && eu i && er i && ef i)
    ∙ ap (λ b. is_part v.mip v.mips t.mips && b && usage_among v.usage t.usage && leb v.resolvable 1 && format_fits v.format t.format) (part_for v.dimension v.layer v.layers t)
    ∙ ap (λ b. b && usage_among v.usage t.usage && leb v.resolvable 1 && format_fits v.format t.format) (ordered (dimension_fits v.dimension t.dimension) (leb 1 v.mips) (leb (v.mip + v.mips) t.mips) (leb 1 v.layers) (leb (v.layer + v.layers) (array_layers t)))
