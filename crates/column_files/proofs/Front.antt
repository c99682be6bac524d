-- A session is refused by its length and by what stands before its passes alone.
use mathlib.Core.Path.{◌≡◌, refl, sym, ap, ◌∙◌}
use mathlib.Core.Bool.{Bool, true, false}
use mathlib.Core.List.{List}
use Prim.Native.Nat.{ℕ, zero, suc, ◌+◌, ◌≤◌, ◌<◌}
use native.Mathlib.Omega.{arith}
use borrow.Author.Tests.{ltb-true}
use lib.Dec.{ltb}
use lib.ListN.{length, get_or, take}
use lib.Seq.{get_or-take}
use Rattle.definition.specs.Sizes.{total_length_at, texture_bytes, view_bytes}
use Rattle.definition.specs.Bytes.{u32_at}
use Rattle.definition.specs.Session.{session, texture_count, view_count, pass_count, texture_at, view_at, pass_start, surfaces_before}
use Rattle.definition.specs.Readable.{length_valid, header_valid, textures_read, textures_valid, view_valid, first_views_valid, views_valid, session_verdict, session_refusal}
use Rattle.definition.specs.declared.View.{View}

module _ (s t : List ℕ) (same : take (pass_start s) t ≡ take (pass_start s) s) where
  -- ── numbers and rows before the passes

  byte_same : (i : ℕ) → i < pass_start s → get_or t i 0 ≡ get_or s i 0
  byte_same i h = sym (get_or-take (pass_start s) t i 0 h) ∙ ap (λ l. get_or l i 0) same ∙ get_or-take (pass_start s) s i 0 h

  number_same : (at : ℕ) → at + 4 ≤ pass_start s → u32_at t at ≡ u32_at s at
  unfolding u32_at
  number_same at h =
      simp (byte_same at (omega arith), byte_same (at + 1) (omega arith), byte_same (at + 2) (omega arith), byte_same (at + 3) (omega arith))

  texture_row : (at : ℕ) → at + texture_bytes ≤ pass_start s → texture_at t at ≡ texture_at s at
  texture_row at h = λ q. record {
    format = number_same at (omega arith) q;
    dimension = number_same (at + 4) (omega arith) q;
    width = number_same (at + 8) (omega arith) q;
    height = number_same (at + 12) (omega arith) q;
    depth = number_same (at + 16) (omega arith) q;
    mips = number_same (at + 20) (omega arith) q;
    samples = number_same (at + 24) (omega arith) q;
    usage = number_same (at + 28) (omega arith) q;
  }

  view_row_lem : (at : ℕ) → at + view_bytes ≤ pass_start s → view_at t at ≡ view_at s at
  view_row_lem at h = λ q. record {
    texture = number_same at (omega arith) q;
    dimension = number_same (at + 4) (omega arith) q;
    mip = number_same (at + 8) (omega arith) q;
    mips = number_same (at + 12) (omega arith) q;
    layer = number_same (at + 16) (omega arith) q;
    layers = number_same (at + 20) (omega arith) q;
    usage = number_same (at + 24) (omega arith) q;
    resolvable = number_same (at + 28) (omega arith) q;
    format = number_same (at + 32) (omega arith) q;
  }

  pub textures_same : texture_count t ≡ texture_count s
  textures_same = number_same 0 (omega arith)

  views_same : view_count t ≡ view_count s
  views_same = number_same 8 (omega arith)

  pub passes_same : pass_count t ≡ pass_count s
  passes_same = number_same 16 (omega arith)

  pub start_same : pass_start t ≡ pass_start s
  start_same = omega (arith, textures_same, views_same)

  texture_same : (k : ℕ) → k < texture_count s → (session t).texture k ≡ (session s).texture k
  unfolding session
  texture_same k h = texture_row _ (omega arith)

  view_same : (k : ℕ) → k < view_count s → (session t).view k ≡ (session s).view k
  unfolding session
  view_same k h = rw textures_same (view_row_lem _ (omega arith))

  -- ── the tests of 1 to 4

  length_test : length t ≡ length s → length_valid t ≡ length_valid s
  unfolding length_valid
  length_test e = simp (e, number_same total_length_at (omega arith))

  header_test : header_valid t ≡ header_valid s
  unfolding header_valid
  header_test =
      simp (
        number_same 0 (omega arith),
        number_same 4 (omega arith),
        number_same 8 (omega arith),
        number_same 12 (omega arith),
        number_same 16 (omega arith),
        number_same 20 (omega arith),
        number_same 24 (omega arith),
        number_same 28 (omega arith),
        number_same 32 (omega arith),
        number_same 36 (omega arith),
        number_same total_length_at (omega arith),
      )

  textures_read_lem : (n : ℕ) → n ≤ texture_count s → textures_read (session t) n ≡ textures_read (session s) n
  unfolding textures_read
  textures_read_lem zero h = refl
  textures_read_lem (suc n) h = simp (textures_read_lem n (omega arith), texture_same n (omega arith))

  surfaces_same : (n : ℕ) → n ≤ texture_count s → surfaces_before (session t) n ≡ surfaces_before (session s) n
  unfolding surfaces_before
  surfaces_same zero h = refl
  surfaces_same (suc n) h = simp (surfaces_same n (omega arith), texture_same n (omega arith))

  textures_counted : (session t).texture_count ≡ (session s).texture_count
  unfolding session
  textures_counted = textures_same

  all_textures : textures_read (session t) (session s).texture_count ≡ textures_read (session s) (session s).texture_count
  unfolding session
  all_textures = textures_read_lem (texture_count s) (omega arith)

  all_surfaces : surfaces_before (session t) (session s).texture_count ≡ surfaces_before (session s) (session s).texture_count
  unfolding session
  all_surfaces = surfaces_same (texture_count s) (omega arith)

  textures_test : textures_valid (session t) ≡ textures_valid (session s)
  unfolding textures_valid
  textures_test = simp (textures_counted, all_textures, all_surfaces)

  view_test : (v : View) → view_valid (session t) v ≡ view_valid (session s) v
  unfolding view_valid session
  view_test v = go (ltb v.texture (texture_count s)) refl
    where
      go : (b : Bool) → ltb v.texture (texture_count s) ≡ b → view_valid (session t) v ≡ view_valid (session s) v
      go true e = simp (textures_same, texture_same v.texture (ltb-true v.texture (texture_count s) e))
      go false e = simp (textures_same, e)

  first_views_valid_lem : (n : ℕ) → n ≤ view_count s → first_views_valid (session t) n ≡ first_views_valid (session s) n
  unfolding first_views_valid
  first_views_valid_lem zero h = refl
  first_views_valid_lem (suc n) h = simp (first_views_valid_lem n (omega arith), view_same n (omega arith), view_test)

  views_test : views_valid (session t) ≡ views_valid (session s)
  unfolding session
  views_test = ap (first_views_valid (session t)) views_same ∙ first_views_valid_lem (view_count s) (omega arith)

  -- So the refusals are equal.
  same_verdict : length t ≡ length s → session_verdict t ≡ session_verdict s
  unfolding session_verdict
  same_verdict e = simp (length_test e, header_test, textures_test, views_test)

  pub refused_alike : length t ≡ length s → session_refusal t ≡ session_refusal s
  refused_alike e = ap (λ v. v.number) (same_verdict e)
