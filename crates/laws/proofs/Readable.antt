-- A session that is not refused passes the four tests of 1 to 4, and what the second says of each field of the header; what the third says of layers.
use mathlib.Core.Path.{◌≡◌, refl}
use mathlib.Core.Bool.{Bool, true, false, ◌||◌, cond}
use mathlib.Core.List.{List, [], ◌∷◌}
use Prim.Native.Nat.{ℕ, ◌≤◌, ◌<◌}
use native.Mathlib.Omega.{arith}
use lib.Dec.{leb, eqb}
use borrow.Author.Tests.{eq-eqb, leb-true, eqb-true}
use Rattle.definition.specs.Sizes.{header_bytes, max_textures, max_views, max_passes, max_slots, max_multiviews, max_flags, max_color_bytes, max_size, max_layers, max_mips, max_usage, max_surfaces}
use Rattle.definition.specs.Formats.{is_color, is_format}
use Rattle.definition.specs.Session.{Session, session, array_layers, surface_count, texture_count, texture_offset, view_count, view_offset, pass_count, pass_offset, max_colors, max_multiview, flags, color_bytes, total_length, view_start, pass_start, pass_end}
use Rattle.definition.specs.Verdict.{nowhere, is_accepted, unless}
use Rattle.definition.specs.Readable.{between, length_valid, header_valid, samples_valid, texture_valid, textures_read, textures_valid, views_valid, session_verdict, session_refusal}
use Rattle.definition.specs.declared.Texture.{Texture}
use Rattle.laws.proofs.Tests.{and_left, and_right}
use Rattle.laws.proofs.Conjunctions.{each}
use Rattle.laws.proofs.Folds.{textures_each}
use Rattle.laws.proofs.Verdicts.{then_left, then_right, unless_on}

pub record Tested (s : List ℕ) : Type 0 where
  pub length : length_valid s ≡ true
  pub header : header_valid s ≡ true
  pub textures : textures_valid (session s) ≡ true
  pub views : views_valid (session s) ≡ true

pub tested : (s : List ℕ) → session_refusal s ≡ 0 → Tested s
unfolding session_verdict
tested s h =
    let all : is_accepted (session_verdict s) ≡ true = eq-eqb (session_refusal s) 0 h in
    let two = then_right (unless (length_valid s) 1 nowhere) _ all in
    let three = then_right (unless (header_valid s) 2 nowhere) _ two in
    record {
      length = unless_on (length_valid s) 1 nowhere refl (then_left (unless (length_valid s) 1 nowhere) _ all);
      header = unless_on (header_valid s) 2 nowhere refl (then_left (unless (header_valid s) 2 nowhere) _ two);
      textures = unless_on (textures_valid (session s)) 3 nowhere refl (then_left (unless (textures_valid (session s)) 3 nowhere) _ three);
      views = unless_on (views_valid (session s)) 4 nowhere refl (then_right (unless (textures_valid (session s)) 3 nowhere) _ three);
    }

-- A number that is between two others.
pub within : (low high n : ℕ) → between low high n ≡ true → (low ≤ n) × (n ≤ high)
unfolding between
within low high n e = (leb-true low n (and_left (leb low n) (leb n high) e), leb-true n high (and_right (leb low n) (leb n high) e))

-- Where the textures are valid, each has few layers.
pub few_layers : (S : Session) → textures_valid S ≡ true → (t : ℕ) → t < S.texture_count → array_layers (S.texture t) ≤ max_layers
unfolding textures_valid texture_valid array_layers
few_layers S h t there = go (eqb x.dimension 3)
  where
    x : Texture
    x = S.texture t

    tests : List Bool
    tests =
        is_format x.format ∷ between 1 3 x.dimension ∷ (is_color x.format || eqb x.dimension 2) ∷ between 1 max_size x.width ∷ between 1 max_size x.height
        ∷ between 1 max_layers x.depth ∷ between 1 max_mips x.mips ∷ samples_valid x.samples ∷ leb x.usage max_usage ∷ []

    deep : x.depth ≤ max_layers
    deep = (within 1 max_layers x.depth (each tests (textures_each S S.texture_count (and_left (textures_read S S.texture_count) (leb (surface_count S) max_surfaces) h) t there) 5)).1

    go : (b : Bool) → cond b 1 x.depth ≤ max_layers
    go true = omega arith
    go false = deep

-- What a valid header says of the settings and of the rows' ends.
pub record ValidHeader (s : List ℕ) : Type 0 where
  pub textures : texture_count s ≤ max_textures
  pub views : view_count s ≤ max_views
  pub passes : pass_count s ≤ max_passes
  pub colors : (1 ≤ max_colors s) × (max_colors s ≤ max_slots)
  pub multiview : max_multiview s ≤ max_multiviews
  pub flags : flags s ≤ max_flags
  pub color_bytes : (1 ≤ color_bytes s) × (color_bytes s ≤ max_color_bytes)
  pub end : pass_end s ≡ total_length s

pub valid_header : (s : List ℕ) → header_valid s ≡ true → ValidHeader s
unfolding header_valid
valid_header s e =
    let test = each tests e in
    record {
      textures = leb-true (texture_count s) max_textures (test 0);
      views = leb-true (view_count s) max_views (test 2);
      passes = leb-true (pass_count s) max_passes (test 4);
      colors = within 1 max_slots (max_colors s) (test 6);
      multiview = leb-true (max_multiview s) max_multiviews (test 7);
      flags = leb-true (flags s) max_flags (test 8);
      color_bytes = within 1 max_color_bytes (color_bytes s) (test 9);
      end = eqb-true (pass_end s) (total_length s) (test 10);
    }
  where
    tests : List Bool
    tests =
        leb (texture_count s) max_textures ∷ eqb (texture_offset s) header_bytes ∷ leb (view_count s) max_views ∷ eqb (view_offset s) (view_start s)
        ∷ leb (pass_count s) max_passes ∷ eqb (pass_offset s) (pass_start s) ∷ between 1 max_slots (max_colors s) ∷ leb (max_multiview s) max_multiviews
        ∷ leb (flags s) max_flags ∷ between 1 max_color_bytes (color_bytes s) ∷ eqb (pass_end s) (total_length s) ∷ []
