-- Every surface of a session has its own status byte: the list of all surfaces has it at its index, by texture, mip and layer.
use mathlib.Core.Path.{◌≡◌, refl, sym, ap, subst, ◌∙◌}
use mathlib.Core.Bool.{Bool, true, false}
use mathlib.Core.List.{List, ◌++◌}
use Prim.Native.Nat.{ℕ, zero, suc, ◌+◌, ◌-◌, ◌*◌, ◌<◌, ◌≤◌}
use native.Mathlib.Omega.{arith}
use native.Mathlib.Nat.{suc-mul, zero-mul}
use lib.Dec.{eqb}
use lib.ListN.{length, get_or, length-append, get_or-append}
use lib.Seq.{get_or-append-add}
use borrow.Author.Tests.{eqb-true, eqb-false}
use Rattle.definition.specs.Surfaces.{surface_at, layers_from}
use Rattle.definition.specs.Session.{Session, array_layers, slices_in, mips_before, surfaces_before, surface_count, surface_index, slice_surfaces, mip_surfaces, texture_surfaces, surfaces_of}
use Rattle.definition.specs.declared.Surface.{Surface}
use Rattle.definition.specs.declared.Texture.{Texture}
use Rattle.laws.specs.Surfaces.{Inside}
use Rattle.laws.proofs.Tests.{by_order}

-- An index below the first part's length, and one past it.
at_first : (a b : List Surface) (i : ℕ) (o : Surface) → i < length a → get_or (a ++ b) i o ≡ get_or a i o
at_first a b i o h = get_or-append a b o i h

at_later : (a b : List Surface) (i j : ℕ) (o : Surface) → j ≡ length a + i → get_or (a ++ b) j o ≡ get_or b i o
at_later a b i j o e = ap (λ q. get_or (a ++ b) q o) e ∙ get_or-append-add a b i o

-- ── a mip's slices and layers

pub length_layers : (t m k l n : ℕ) → length (layers_from t m k l n) ≡ n
length_layers t m k l zero = refl
length_layers t m k l (suc n) = ap suc (length_layers t m k (l + 1) n)

pub at_layers : (t m k l n i : ℕ) (o : Surface) → i < n → get_or (layers_from t m k l n) i o ≡ surface_at t m (l + i) k
at_layers t m k l zero i o h = absurd (omega arith)
at_layers t m k l (suc n) zero o h = ap (λ q. surface_at t m q k) (omega arith)
at_layers t m k l (suc n) (suc i) o h = at_layers t m k (l + 1) n i o (omega arith) ∙ ap (λ q. surface_at t m q k) (omega arith)

-- An index by slice and layer is below the number of surfaces.
pub row_within : (c n j i : ℕ) → j < n → i < c → j * c + i < n * c
row_within c zero j i h g = absurd (omega arith)
row_within c (suc n) zero i h g = omega (arith, zero-mul c, suc-mul n c)
row_within c (suc n) (suc j) i h g = omega (arith, row_within c n j i (omega arith) g, suc-mul n c, suc-mul j c)

pub length_slices : (t m c n : ℕ) → length (slice_surfaces t m c n) ≡ n * c
length_slices t m c zero = sym (zero-mul c)
length_slices t m c (suc n) = length-append (slice_surfaces t m c n) (layers_from t m n 0 c) ∙ omega (arith, length_layers t m n 0 c, length_slices t m c n, suc-mul n c)

pub at_slices : (t m c n j i : ℕ) (o : Surface) → j < n → i < c → get_or (slice_surfaces t m c n) (j * c + i) o ≡ surface_at t m i j
at_slices t m c zero j i o h g = absurd (omega arith)
at_slices t m c (suc n) j i o h g = go (eqb j n) refl (λ l. at_slices t m c n j i o l g)
  where
    go : (b : Bool) → eqb j n ≡ b → (j < n → get_or (slice_surfaces t m c n) (j * c + i) o ≡ surface_at t m i j)
        → get_or (slice_surfaces t m c n ++ layers_from t m n 0 c) (j * c + i) o ≡ surface_at t m i j
    go true e ih =
        let z : j ≡ n = eqb-true j n e in
        at_later (slice_surfaces t m c n) (layers_from t m n 0 c) i (j * c + i) o (ap (λ q. q * c + i) z ∙ omega (arith, length_slices t m c n))
        ∙ at_layers t m n 0 c i o g
        ∙ (λ q. surface_at t m (first q) (sym z q))
      where
        first : 0 + i ≡ i
        first = omega arith
    go false e ih =
        let l : j < n = omega (arith, eqb-false j n e) in
        at_first (slice_surfaces t m c n) (layers_from t m n 0 c) (j * c + i) o (omega (arith, length_slices t m c n, row_within c n j i l g)) ∙ ih l

-- ── a texture's mips

module _ (x : Texture) where
  pub length_mips : (t n : ℕ) → length (mip_surfaces x t n) ≡ mips_before x n
  unfolding mips_before
  length_mips t zero = refl
  length_mips t (suc n) =
      length-append (mip_surfaces x t n) (slice_surfaces t n (array_layers x) (slices_in x n))
      ∙ omega (arith, length_slices t n (array_layers x) (slices_in x n), length_mips t n)

  -- Where mip m, slice k and layer l stand.
  abbrev offset : ℕ → ℕ → ℕ → ℕ
  offset m k l = mips_before x m + (k * array_layers x + l)

  abbrev AtMip : ℕ → ℕ → ℕ → ℕ → ℕ → Surface → Type 0
  AtMip t n m k l o = (offset m k l < mips_before x n) × (get_or (mip_surfaces x t n) (offset m k l) o ≡ surface_at t m l k)

  pub at_mips : (t n m k l : ℕ) (o : Surface) → m < n → k < slices_in x m → l < array_layers x → AtMip t n m k l o
  unfolding mips_before
  at_mips t zero m k l o h a b = absurd (omega arith)
  at_mips t (suc n) m k l o h a b = go (eqb m n) refl (λ i. at_mips t n m k l o i a b)
    where
      here : AtMip t (suc m) m k l o
      here = (
        omega (arith, row_within (array_layers x) (slices_in x m) k l a b),
        at_later (mip_surfaces x t m) (slice_surfaces t m (array_layers x) (slices_in x m)) (k * array_layers x + l) (offset m k l) o (omega (arith, length_mips t m))
            ∙ at_slices t m (array_layers x) (slices_in x m) k l o a b,
      )

      go : (b : Bool) → eqb m n ≡ b → (m < n → AtMip t n m k l o) → AtMip t (suc n) m k l o
      go true e ih = subst (λ q. AtMip t (suc q) m k l o) (eqb-true m n e) here
      go false e ih =
          let i : AtMip t n m k l o = ih (omega (arith, eqb-false m n e)) in (
            omega (arith, i.0),
            at_first (mip_surfaces x t n) (slice_surfaces t n (array_layers x) (slices_in x n)) (offset m k l) o (omega (arith, i.0, length_mips t n)) ∙ i.1,
          )

-- ── a session's textures

module _ (S : Session) where
  pub length_textures : (n : ℕ) → length (texture_surfaces S n) ≡ surfaces_before S n
  unfolding surfaces_before
  length_textures zero = refl
  length_textures (suc n) =
      length-append (texture_surfaces S n) (mip_surfaces (S.texture n) n (S.texture n).mips)
      ∙ omega (arith, length_mips (S.texture n) n (S.texture n).mips, length_textures n)

  pub surfaces_counted : length (surfaces_of S) ≡ surface_count S
  surfaces_counted = length_textures S.texture_count

  -- Where a surface stands among those of the first n textures.
  abbrev At : ℕ → Surface → Surface → Type 0
  At n s o = (surface_index S s < surfaces_before S n) × (get_or (texture_surfaces S n) (surface_index S s) o ≡ s)

  at_textures : (n : ℕ) (s o : Surface) → s.texture < n → s.mip < (S.texture s.texture).mips
      → s.slice < slices_in (S.texture s.texture) s.mip → s.layer < array_layers (S.texture s.texture) → At n s o
  unfolding surfaces_before
  at_textures zero s o h a b c = absurd (omega arith)
  at_textures (suc n) s o h a b c = go (eqb t n) refl (λ i. at_textures n s o i a b c)
    where
      t : ℕ
      t = s.texture

      x : Texture
      x = S.texture t

      mip : AtMip x t x.mips s.mip s.slice s.layer o
      mip = at_mips x t x.mips s.mip s.slice s.layer o a b c

      here : At (suc t) s o
      here = (
        omega (arith, mip.0),
        at_later (texture_surfaces S t) (mip_surfaces x t x.mips) (offset x s.mip s.slice s.layer) (surface_index S s) o (omega (arith, length_textures t)) ∙ mip.1,
      )

      go : (b : Bool) → eqb t n ≡ b → (t < n → At n s o) → At (suc n) s o
      go true e ih = subst (λ q. At (suc q) s o) (eqb-true t n e) here
      go false e ih =
          let i : At n s o = ih (omega (arith, eqb-false t n e)) in (
            omega (arith, i.0),
            at_first (texture_surfaces S n) (mip_surfaces (S.texture n) n (S.texture n).mips) (surface_index S s) o (omega (arith, i.0, length_textures n)) ∙ i.1,
          )

  at_place : (s o : Surface) → Inside S s → At S.texture_count s o
  at_place s o h = at_textures S.texture_count s o h.texture h.mip h.slice h.layer

  -- The index of a surface is below their number, the list has the surface there, and no other surface has that index.
  pub place_counted : (s : Surface) → Inside S s → surface_index S s < surface_count S
  place_counted s h = (at_place s s h).0

  pub place_within : (s : Surface) → Inside S s → surface_index S s < length (surfaces_of S)
  place_within s h = omega (arith, place_counted s h, surfaces_counted)

  pub place_holds : (s o : Surface) → Inside S s → get_or (surfaces_of S) (surface_index S s) o ≡ s
  place_holds s o h = (at_place s o h).1

  pub place_only : (s t : Surface) → Inside S s → Inside S t → surface_index S s ≡ surface_index S t → s ≡ t
  place_only s t h g e = sym (place_holds s s h) ∙ ap (λ i. get_or (surfaces_of S) i s) e ∙ place_holds t s g

-- ── from the index to the surface

-- An index below n rows of c is that of a row and a place in it.
record Row (c n i : ℕ) : Type 0 where
  row : ℕ
  place : ℕ
  row_low : row < n
  place_low : place < c
  index : i ≡ row * c + place

row_of : (c n i : ℕ) → i < n * c → Row c n i
row_of c zero i h = absurd (omega (arith, zero-mul c))
row_of c (suc n) i h = by_order (n * c) i there (λ l. more (row_of c n i l))
  where
    there : n * c ≤ i → Row c (suc n) i
    there l = record { row = n; place = i - n * c; row_low = omega arith; place_low = omega (arith, suc-mul n c); index = omega arith }

    more : Row c n i → Row c (suc n) i
    more r = record { row = r.row; place = r.place; row_low = omega (arith, r.row_low); place_low = r.place_low; index = r.index }

-- An index below the number of surfaces of n mips is that of a mip, a slice and a layer.
record Mip (x : Texture) (n i : ℕ) : Type 0 where
  mip : ℕ
  slice : ℕ
  layer : ℕ
  mip_low : mip < n
  slice_low : slice < slices_in x mip
  layer_low : layer < array_layers x
  index : i ≡ offset x mip slice layer

mip_of_lem : (x : Texture) (n i : ℕ) → i < mips_before x n → Mip x n i
unfolding mips_before
mip_of_lem x zero i h = absurd (omega arith)
mip_of_lem x (suc n) i h = by_order (mips_before x n) i there (λ l. more (mip_of_lem x n i l))
  where
    there : mips_before x n ≤ i → Mip x (suc n) i
    there l =
        let r : Row (array_layers x) (slices_in x n) (i - mips_before x n) = row_of (array_layers x) (slices_in x n) (i - mips_before x n) (omega arith) in
        record { mip = n; slice = r.row; layer = r.place; mip_low = omega arith; slice_low = r.row_low; layer_low = r.place_low; index = omega (arith, r.index) }

    more : Mip x n i → Mip x (suc n) i
    more r = record {
      mip = r.mip;
      slice = r.slice;
      layer = r.layer;
      mip_low = omega (arith, r.mip_low);
      slice_low = r.slice_low;
      layer_low = r.layer_low;
      index = r.index;
    }

-- An index below the number of surfaces of n textures is that of a surface of one of them.
record Indexed (S : Session) (n i : ℕ) : Type 0 where
  surface : Surface
  texture : surface.texture < n
  mip : surface.mip < (S.texture surface.texture).mips
  layer : surface.layer < array_layers (S.texture surface.texture)
  slice : surface.slice < slices_in (S.texture surface.texture) surface.mip
  index : i ≡ surface_index S surface

indexed_of : (S : Session) (n i : ℕ) → i < surfaces_before S n → Indexed S n i
unfolding surfaces_before
indexed_of S zero i h = absurd (omega arith)
indexed_of S (suc n) i h = by_order (surfaces_before S n) i there (λ l. more (indexed_of S n i l))
  where
    there : surfaces_before S n ≤ i → Indexed S (suc n) i
    there l =
        let r : Mip (S.texture n) (S.texture n).mips (i - surfaces_before S n) = mip_of_lem (S.texture n) (S.texture n).mips (i - surfaces_before S n) (omega arith) in
        record {
          surface = surface_at n r.mip r.layer r.slice;
          texture = omega arith;
          mip = r.mip_low;
          layer = r.layer_low;
          slice = r.slice_low;
          index = omega (arith, r.index);
        }

    more : Indexed S n i → Indexed S (suc n) i
    more r = record { surface = r.surface; texture = omega (arith, r.texture); mip = r.mip; layer = r.layer; slice = r.slice; index = r.index }

-- What the list of all surfaces has at an index is a surface of the session, and its index is that.
pub record Placed (S : Session) (i : ℕ) (s : Surface) : Type 0 where
  pub inside : Inside S s
  pub index : surface_index S s ≡ i

pub place_of : (S : Session) (i : ℕ) (o : Surface) → i < surface_count S → Placed S i (get_or (surfaces_of S) i o)
place_of S i o h =
    let r : Indexed S S.texture_count i = indexed_of S S.texture_count i h in
    let ok : Inside S r.surface = record { texture = r.texture; mip = r.mip; layer = r.layer; slice = r.slice } in
    let e : get_or (surfaces_of S) i o ≡ r.surface = ap (λ j. get_or (surfaces_of S) j o) r.index ∙ place_holds S r.surface o ok in
    record { inside = subst (Inside S) (sym e) ok; index = ap (surface_index S) e ∙ sym r.index }
