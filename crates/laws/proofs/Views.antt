-- What number 4 says of a view: its surfaces are the session's, and only a 3D texture has D3 views.
use mathlib.Core.Path.{◌≡◌, refl, sym, ap, subst, ◌∙◌}
use mathlib.Core.Bool.{Bool, true, false, ◌&&◌, ◌||◌, cond, or-false}
use mathlib.Core.List.{List, [], ◌∷◌}
use Prim.Native.Nat.{ℕ, ◌+◌, ◌-◌, ◌/◌, ◌^◌, max, ◌≤◌, ◌<◌}
use native.Mathlib.Nat.{div-le_self, div-div-eq-div-mul}
use lib.Pow.{pow-add}
use Rattle.definition.specs.Formats.{mip_size}
use native.Mathlib.Omega.{arith}
use lib.Dec.{leb, ltb, eqb}
use borrow.Author.Tests.{eqb-true, leb-true}
use Rattle.definition.specs.Surfaces.{surface_at, hits}
use Rattle.definition.specs.Session.{Session, array_layers, slices_in, view_range, render_attachment, is_d2, is_d2_array, is_d3}
use Rattle.definition.specs.Readable.{between, usage_among, dimension_fits, format_fits, view_in_texture, view_valid}
use Rattle.definition.specs.Views.{renderable}
use Rattle.definition.specs.declared.Texture.{Texture}
use Rattle.definition.specs.declared.View.{View}
use Rattle.definition.specs.declared.Surface.{Surface}
use Rattle.definition.specs.declared.Range.{Range}
use Rattle.laws.specs.Surfaces.{InRange, Inside, RangeInside}
use Rattle.laws.specs.Views.{ValidView}
use Rattle.laws.proofs.Tests.{clash, and_left, and_right}
use Rattle.laws.proofs.Conjunctions.{each}
use Rattle.laws.proofs.Surfaces.{hits_in_lem, range_from}

-- ── slices

-- A mip has a slice, and a later one no more of them.
pub slices_some : (x : Texture) (m : ℕ) → 1 ≤ slices_in x m
unfolding slices_in mip_size
slices_some x m = go (eqb x.dimension 3)
  where
    go : (b : Bool) → 1 ≤ cond b (max 1 (x.depth / 2 ^ m)) 1
    go true = omega arith
    go false = omega arith

halved : (n m i : ℕ) → n / 2 ^ (m + i) ≤ n / 2 ^ m
halved n m i =
    subst (λ q. q ≤ n / 2 ^ m) (div-div-eq-div-mul n (2 ^ m) (2 ^ i) ∙ ap (λ q. n / q) (sym (pow-add 2 m i))) (div-le_self (n / 2 ^ m) (2 ^ i))

slices_fewer : (x : Texture) (m i : ℕ) → slices_in x (m + i) ≤ slices_in x m
unfolding slices_in mip_size
slices_fewer x m i = go (eqb x.dimension 3)
  where
    go : (b : Bool) → cond b (max 1 (x.depth / 2 ^ (m + i))) 1 ≤ cond b (max 1 (x.depth / 2 ^ m)) 1
    go true = omega (arith, halved x.depth m i)
    go false = omega arith

pub slices_later : (x : Texture) (m n : ℕ) → m ≤ n → slices_in x n ≤ slices_in x m
slices_later x m n h = subst (λ q. slices_in x q ≤ slices_in x m) (let e : m + (n - m) ≡ n = omega arith in e) (slices_fewer x m (n - m))

-- ── views

-- The tests of a view against its texture, in their order.
abbrev view_tests : Texture → View → List Bool
view_tests t v =
    dimension_fits v.dimension t.dimension ∷ leb 1 v.mips ∷ leb (v.mip + v.mips) t.mips
    ∷ leb 1 v.layers ∷ leb (v.layer + v.layers) (array_layers t) ∷ usage_among v.usage t.usage ∷ leb v.resolvable 1 ∷ format_fits v.format t.format ∷ []

pub valid_view : (S : Session) (v : View) → view_valid S v ≡ true → ValidView S v
unfolding view_valid view_in_texture
valid_view S v h =
    let t : Texture = S.texture v.texture in
    let test = each (view_tests t v) (and_right (ltb v.texture S.texture_count) (view_in_texture t v) h) in
    record {
      range = range_from S (view_range v) (and_left (ltb v.texture S.texture_count) (view_in_texture t v) h) (test 1) (test 2) (test 3) (test 4) (slices_some t (v.mip + v.mips - 1));
      dimension = test 0;
      usage = test 5;
      resolvable = leb-true v.resolvable 1 (test 6);
      format = test 7;
    }

-- Every surface of a range of the session is the session's, its first among them.
pub range_surface : (S : Session) (r : Range) → RangeInside S r → (s : Surface) → hits r s ≡ true → Inside S s
range_surface S r g s h =
    let i : InRange r s = hits_in_lem r s h in
    record {
      texture = omega (arith, i.texture, g.texture);
      mip = subst (λ t. s.mip < (S.texture t).mips) (sym i.texture) (omega (arith, i.mip_high, g.mips));
      layer = subst (λ t. s.layer < array_layers (S.texture t)) (sym i.texture) (omega (arith, i.layer_high, g.layers));
      slice = subst (λ t. s.slice < slices_in (S.texture t) s.mip) (sym i.texture)
          (omega (arith, i.slice, g.slice, slices_later (S.texture r.texture) s.mip (r.mip + r.mips - 1) (omega (arith, i.mip_high))));
    }

-- Each layer of a range's first mip is a surface of the session.
pub range_layer : (S : Session) (r : Range) → RangeInside S r → (l : ℕ) → l < r.layer + r.layers → Inside S (surface_at r.texture r.mip l r.slice)
range_layer S r g l h = record {
  texture = g.texture;
  mip = omega (arith, g.some_mip, g.mips);
  layer = omega (arith, h, g.layers);
  slice = omega (arith, g.slice, slices_later (S.texture r.texture) r.mip (r.mip + r.mips - 1) (omega (arith, g.some_mip)));
}

-- A D3 view goes with a 3D texture.
pub flat_view : (v t : ℕ) → dimension_fits v t ≡ true → eqb t 3 ≡ false → eqb v 6 ≡ false
unfolding dimension_fits between
flat_view v t h e = go (eqb v 6) refl
  where
    go : (b : Bool) → eqb v 6 ≡ b → eqb v 6 ≡ false
    go true f =
        let g : v ≡ 6 = eqb-true v 6 f in
        clash (ap (λ q. dimension_fits q t) (sym g) ∙ h) (or-false (eqb t 3) ∙ e)
    go false f = f

pub solid_view : (v t : ℕ) → dimension_fits v t ≡ true → eqb v 6 ≡ true → eqb t 3 ≡ true
solid_view v t h e = go (eqb t 3) refl
  where
    go : (b : Bool) → eqb t 3 ≡ b → eqb t 3 ≡ true
    go true f = f
    go false f = clash e (flat_view v t h f)

-- 34: a renderable view has one mip.
pub renderable_mip : (v : View) → renderable v ≡ true → v.mips ≡ 1
unfolding renderable
renderable_mip v h = eqb-true v.mips 1 (and_right (render_attachment v && (is_d2 v || is_d2_array v || is_d3 v)) _ h)
