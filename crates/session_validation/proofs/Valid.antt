-- A session that is not refused passes the four tests; each fact is one test of their conjunctions, and row k of a table is one of
-- the first n.
use mathlib.Core.Path.{◌≡◌, refl, sym, ◌∙◌}
use mathlib.Core.Bool.{Bool, true, false, ◌&&◌, ◌||◌, cond}
use mathlib.Core.List.{List, [], ◌∷◌}
use Prim.Native.Nat.{ℕ, ◌≤◌, ◌<◌}
use native.Mathlib.Nat.{le_trans, lt_of_lt_of_le}
use native.Mathlib.Omega.{arith}
use lib.Dec.{leb, ltb, eqb}
use lib.ListN.{length}
use borrow.Author.Tests.{leb-true, ltb-true, eqb-true}
use Rattle.definition.specs.Sizes.{header_bytes, max_slots, max_size, max_layers, max_mips, max_usage, max_surfaces}
use Rattle.definition.specs.Formats.{is_color, is_format}
use Rattle.definition.specs.Session.{Pass, Session, session, total_length, is_none, array_layers, surface_count}
use Rattle.definition.specs.Readable.{between, length_valid, header_valid, samples_valid, texture_valid, textures_read, textures_valid, session_refusal, channel_reads, depth_stencil_reads, resolve_reads, slot_reads, slots_read, pass_valid}
use Rattle.definition.specs.declared.Texture.{Texture}
use Rattle.definition.specs.declared.Slot.{Slot}
use Rattle.laws.proofs.Tests.{clash, and_left, and_right, or_second}
use Rattle.laws.proofs.Folds.{textures_each, views_each, slots_read_each, before_grows}
use Rattle.laws.proofs.Places.{place_counted}
use Rattle.laws.proofs.Views.{valid_view}
use Rattle.laws.proofs.Readable.{tested, within, valid_header}
use Rattle.session.specs.Rows.{RowsInside, ViewsInside}
use Rattle.session_validation.specs.Valid.{ValidTexture, Valid, ValidSlot, ValidDepthStencil, ValidPass}
use Rattle.laws.proofs.Conjunctions.{each}

-- ── a texture row

-- One layer, or as many as the texture is deep.
layered : (t : Texture) → (1 ≤ t.depth) × (t.depth ≤ max_layers) → (1 ≤ array_layers t) × (array_layers t ≤ max_layers)
unfolding array_layers
layered t h = go (eqb t.dimension 3)
  where
    go : (b : Bool) → (1 ≤ cond b 1 t.depth) × (cond b 1 t.depth ≤ max_layers)
    go true = (omega arith, omega arith)
    go false = h

abbrev texture_tests : Texture → List Bool
texture_tests t =
    is_format t.format ∷ between 1 3 t.dimension ∷ (is_color t.format || eqb t.dimension 2)
    ∷ between 1 max_size t.width ∷ between 1 max_size t.height ∷ between 1 max_layers t.depth
    ∷ between 1 max_mips t.mips ∷ samples_valid t.samples ∷ leb t.usage max_usage ∷ []

pub valid_texture : (t : Texture) → texture_valid t ≡ true → ValidTexture t
unfolding texture_valid
valid_texture t e =
    let test = each (texture_tests t) e in
    let depth = within 1 max_layers t.depth (test 5) in
    record {
      format = test 0;
      dimension = within 1 3 t.dimension (test 1);
      width = within 1 max_size t.width (test 3);
      height = within 1 max_size t.height (test 4);
      depth = depth;
      mips = within 1 max_mips t.mips (test 6);
      layers = layered t depth;
      samples = test 7;
      usage = leb-true t.usage max_usage (test 8);
    }

-- ── the session

whole : (s : List ℕ) → length_valid s ≡ true → total_length s ≡ length s
unfolding length_valid
whole s e = eqb-true (total_length s) (length s) (and_right (leb header_bytes (length s)) (eqb (total_length s) (length s)) e)

-- Where the first two tests pass, the session's view rows lie inside, after its textures, and so do these.
pub views_inside : (s : List ℕ) {textures views : ℕ} → length_valid s ≡ true → header_valid s ≡ true
    → textures ≡ (session s).texture_count → views ≡ (session s).view_count → ViewsInside textures views s
unfolding session
views_inside s l h t v = omega (arith, whole s l, (valid_header s h).end, t, v)

pub textures_inside : (s : List ℕ) {textures : ℕ} → length_valid s ≡ true → header_valid s ≡ true → textures ≡ (session s).texture_count → RowsInside textures s
textures_inside s {textures} l h t = let inside : ViewsInside textures (session s).view_count s = views_inside s l h t refl in omega (arith, inside)

texture_rows : (S : Session) → textures_valid S ≡ true → textures_read S S.texture_count ≡ true
unfolding textures_valid
texture_rows S e = and_left (textures_read S S.texture_count) (leb (surface_count S) max_surfaces) e

few_surfaces : (S : Session) → textures_valid S ≡ true → surface_count S ≤ max_surfaces
unfolding textures_valid
few_surfaces S e = leb-true (surface_count S) max_surfaces (and_right (textures_read S S.texture_count) (leb (surface_count S) max_surfaces) e)

-- A session that is not refused is valid.
pub valid_of : (s : List ℕ) → session_refusal s ≡ 0 → Valid s
unfolding session
valid_of s e =
    let S = session s in
    let t = tested s e in
    let h = valid_header s t.header in
    let few = few_surfaces S t.textures in
    record {
      bytes = sym (whole s t.length) ∙ sym h.end;
      textures = h.textures;
      views = h.views;
      passes = h.passes;
      colors = h.colors;
      multiview = h.multiview;
      flags = h.flags;
      color_bytes = h.color_bytes;
      texture = λ k i. valid_texture (S.texture k) (textures_each S S.texture_count (texture_rows S t.textures) k i);
      view = λ k i. valid_view S (S.view k) (views_each S S.view_count t.views k i);
      surfaces = λ n i. le_trans (before_grows S n S.texture_count i) few;
      surface = λ x i. lt_of_lt_of_le (place_counted S x i) few;
    }

-- ── a pass row

channels : (S : Session) (p : Pass) → depth_stencil_reads S p ≡ true → is_none p.depth_stencil ≡ false → ValidDepthStencil S p
unfolding depth_stencil_reads
channels S p e none =
    let a = ltb p.depth_stencil S.view_count in
    let test = each (a ∷ channel_reads p.depth ∷ channel_reads p.stencil ∷ []) (or_second (is_none p.depth_stencil) _ e none) in
    record { view = ltb-true p.depth_stencil S.view_count (test 0); depth = test 1; stencil = test 2 }

resolved : (S : Session) (v : ℕ) → resolve_reads S v ≡ true → is_none v ≡ false → v < S.view_count
unfolding resolve_reads
resolved S v e none = ltb-true v S.view_count (or_second (is_none v) (ltb v S.view_count) e none)

valid_slot : (S : Session) (c : Slot) → slot_reads S c ≡ true → is_none c.view ≡ false → ValidSlot S c
unfolding slot_reads
valid_slot S c e none =
    let a = ltb c.view S.view_count in
    let test = each (a ∷ leb c.sliced 1 ∷ resolve_reads S c.resolve ∷ leb c.load 2 ∷ leb c.store 1 ∷ []) (or_second (is_none c.view) _ e none) in
    record {
      view = ltb-true c.view S.view_count (test 0);
      sliced = leb-true c.sliced 1 (test 1);
      resolve = resolved S c.resolve (test 2);
      load = leb-true c.load 2 (test 3);
      store = leb-true c.store 1 (test 4);
    }

-- A pass row that can be read is valid.
pub valid_pass : (S : Session) (p : Pass) → pass_valid S p ≡ true → ValidPass S p
unfolding pass_valid
valid_pass S p e = go (leb p.colors max_slots) refl e
  where
    rest : Bool
    rest = leb p.ends 1 && depth_stencil_reads S p && slots_read S p p.colors

    go : (b : Bool) → leb p.colors max_slots ≡ b → cond b rest false ≡ true → ValidPass S p
    go false q z = clash {b = false} z refl
    go true q z =
        let test = each (leb p.ends 1 ∷ depth_stencil_reads S p ∷ slots_read S p p.colors ∷ []) z in
        record {
          colors = leb-true p.colors max_slots q;
          ends = leb-true p.ends 1 (test 0);
          depth_stencil = channels S p (test 1);
          slot = λ k h. valid_slot S (p.slot k) (slots_read_each S p p.colors (test 2) k h);
        }
