-- A surface and a range of a session: the test of the texture's number, and then those of the texture. The texture rows of a valid session lie
-- inside, and it has no more surfaces than it may.
use mathlib.Core.Path.{◌≡◌, refl, sym, ap, ◌∙◌}
use mathlib.Core.Bool.{Bool, true, false, not, cond, ◌&&◌, and_assoc}
use Rattle.std.specs.Prelude.{Option, Some, None}
use borrow.Author.Tests.{ne_eqb}
use Rattle.laws.proofs.Tests.{and_off_right}
use mathlib.Core.List.{List}
use Prim.Native.Nat.{ℕ, ◌+◌, ◌-◌, ◌≤◌}
use native.Mathlib.Nat.{le_refl}
use native.Mathlib.Omega.{arith}
use lib.Dec.{eqb, leb, ltb}
use Rattle.definition.specs.Sizes.{max_surfaces}
use Rattle.definition.specs.Session.{Session, session, array_layers, slices_in, surface_count}
use Rattle.definition.specs.Calls.{surface_valid, range_valid}
use Rattle.definition.specs.declared.Texture.{Texture}
use Rattle.definition.specs.declared.Surface.{Surface}
use Rattle.definition.specs.declared.Range.{Range}
use Rattle.session_validation.specs.Valid.{Valid}
use Rattle.session.specs.Rows.{RowsInside}
use Rattle.buffer_validation.specs.Ranges.{is_flat, surface_fits, range_fits}

module _ (S : Session) where
  pub surface_valid_lem : (s : Surface) {b : Bool} → ltb s.texture S.texture_count ≡ b → (b && surface_fits (S.texture s.texture) s) ≡ surface_valid S s
  unfolding surface_valid
  surface_valid_lem s h = ap (λ q. q && surface_fits t s) (sym h) ∙ go (ltb s.texture S.texture_count)
    where
      t : Texture
      t = S.texture s.texture

      go : (b : Bool) → (b && surface_fits t s) ≡ (b && ltb s.mip t.mips && ltb s.layer (array_layers t) && ltb s.slice (slices_in t s.mip))
      go true = sym (and_assoc (ltb s.mip t.mips) (ltb s.layer (array_layers t)) (ltb s.slice (slices_in t s.mip)))
      go false = refl

  pub range_valid_lem : (r : Range) {b : Bool} → ltb r.texture S.texture_count ≡ b → (b && range_fits (S.texture r.texture) r) ≡ range_valid S r
  unfolding range_valid
  range_valid_lem r h = ap (λ q. q && range_fits t r) (sym h) ∙ go (ltb r.texture S.texture_count)
    where
      t : Texture
      t = S.texture r.texture

      mips : Bool
      mips = leb 1 r.mips && leb (r.mip + r.mips) t.mips

      go : (b : Bool) → (b && range_fits t r) ≡ (b && leb 1 r.mips && leb (r.mip + r.mips) t.mips && leb 1 r.layers && leb (r.layer + r.layers) (array_layers t) && ltb r.slice (slices_in t (r.mip + r.mips - 1)))
      go true = ap (λ q. q && ltb r.slice (slices_in t (r.mip + r.mips - 1))) (sym (and_assoc mips (leb 1 r.layers) (leb (r.layer + r.layers) (array_layers t))))
      go false = refl

-- A texture that is found has its number below the count; where none is, the number is not.
found : (b : Bool) (t u : Texture) → Some t ≡ cond b (Some u) None → (b ≡ true) × (t ≡ u)
found true t u e = (refl, cc)
found false t u e = absurd (cc)

missing : (b : Bool) (u : Texture) → None ≡ cond b (Some u) None → b ≡ false
missing true u e = absurd (cc)
missing false u e = refl

module _ (S : Session) where
  -- The texture of a number, where there is one.
  abbrev pub texture_at : ℕ → Option Texture
  texture_at k = cond (ltb k S.texture_count) (Some (S.texture k)) None

  -- A surface and a range of a texture that is found, and of none.
  pub surface_found : (x : Surface) (t : Texture) → Some t ≡ texture_at x.texture → surface_fits t x ≡ surface_valid S x
  surface_found x t e = let h = found (ltb x.texture S.texture_count) t (S.texture x.texture) e in ap (λ u. surface_fits u x) h.1 ∙ surface_valid_lem S x h.0

  pub surface_missing : (x : Surface) → None ≡ texture_at x.texture → false ≡ surface_valid S x
  surface_missing x e = surface_valid_lem S x (missing (ltb x.texture S.texture_count) (S.texture x.texture) e)

  pub range_found : (x : Range) (t : Texture) → Some t ≡ texture_at x.texture → range_fits t x ≡ range_valid S x
  range_found x t e = let h = found (ltb x.texture S.texture_count) t (S.texture x.texture) e in ap (λ u. range_fits u x) h.1 ∙ range_valid_lem S x h.0

  pub range_missing : (x : Range) → None ≡ texture_at x.texture → false ≡ range_valid S x
  range_missing x e = range_valid_lem S x (missing (ltb x.texture S.texture_count) (S.texture x.texture) e)

  -- Of a texture that is not 3D, of one that is, and of none.
  pub flat_found : (x : Range) (t : Texture) → Some t ≡ texture_at x.texture → (t.dimension ≡ 3 → ⊥) → range_fits t x ≡ (is_flat S x && range_valid S x)
  flat_found x t e n =
      let h = found (ltb x.texture S.texture_count) t (S.texture x.texture) e in
      range_found x t e ∙ sym (ap (λ q. not q && range_valid S x) (ap (λ u. eqb u.dimension 3) (sym h.1) ∙ ne_eqb t.dimension 3 n))

  pub flat_refused : (x : Range) (t : Texture) → Some t ≡ texture_at x.texture → t.dimension ≡ 3 → false ≡ (is_flat S x && range_valid S x)
  flat_refused x t e n =
      let h = found (ltb x.texture S.texture_count) t (S.texture x.texture) e in
      sym (ap (λ q. not q && range_valid S x) (ap (λ u. eqb u.dimension 3) (sym h.1) ∙ ap (λ d. eqb d 3) n))

  pub flat_missing : (x : Range) → None ≡ texture_at x.texture → false ≡ (is_flat S x && range_valid S x)
  flat_missing x e = sym (and_off_right (is_flat S x) _ (sym (range_missing x e)))

pub rows_inside : (s : List ℕ) → Valid s → RowsInside (session s).texture_count s
unfolding session
rows_inside s v = omega (arith, v.bytes)

pub few_surfaces : (s : List ℕ) → Valid s → surface_count (session s) ≤ max_surfaces
few_surfaces s v = v.surfaces _ (le_refl _)
