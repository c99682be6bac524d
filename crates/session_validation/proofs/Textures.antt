-- The texture table in one reading: a row that cannot be read refuses the table, and where all rows can be read the number
-- of surfaces decides.
use mathlib.Core.Path.{◌≡◌, sym, ap, ◌∙◌}
use mathlib.Core.Bool.{Bool, true, false, ◌&&◌, cond}
use Prim.Native.Nat.{ℕ, zero, suc, ◌+◌, ◌*◌, ◌/◌, ◌^◌, max, ◌<◌, ◌≤◌}
use native.Mathlib.Omega.{arith}
use native.Mathlib.Nat.{div-le_self}
use lib.Dec.{leb, eqb}
use Rattle.definition.specs.Sizes.{max_mips, max_layers, max_surfaces}
use Rattle.definition.specs.Formats.{mip_size}
use Rattle.definition.specs.Session.{Session, array_layers, slices_in, mips_before, surfaces_in, surfaces_before, surface_count}
use Rattle.definition.specs.Readable.{texture_valid, textures_read, textures_valid}
use Rattle.definition.specs.declared.Texture.{Texture}
use Rattle.laws.proofs.Tests.{and_on, and_off_right}
use Rattle.laws.proofs.Folds.{textures_none, textures_turn, textures_stop, before_none, before_turn}
use Rattle.session_validation.proofs.Valid.{valid_texture}

-- The most surfaces of a texture row that can be read.
abbrev most : ℕ
most = max_mips * max_layers

-- The first k rows: each can be read, and the sum is the number of their surfaces, so many each at most.
pub record Read (S : Session) (k sum : ℕ) : Type 0 where
  pub each : textures_read S k ≡ true
  pub counted : sum ≡ surfaces_before S k
  pub few : sum ≤ most * k

pub read_none : (S : Session) → Read S 0 0
read_none S = record { each = textures_none S; counted = sym (before_none S); few = omega arith }

-- A mip has no more surfaces than there may be slices or layers, so many mips no more than so many each, and a texture row that can be read
-- no more mips than there may be.
few_at : (t : Texture) (m : ℕ) → t.depth ≤ max_layers → slices_in t m * array_layers t ≤ max_layers
unfolding slices_in array_layers mip_size
few_at t m h = go (eqb t.dimension 3)
  where
    go : (b : Bool) → cond b (max 1 (t.depth / 2 ^ m)) 1 * cond b 1 t.depth ≤ max_layers
    go true = omega (arith, div-le_self t.depth (2 ^ m))
    go false = omega arith

few_before : (t : Texture) (n : ℕ) → t.depth ≤ max_layers → mips_before t n ≤ n * max_layers
unfolding mips_before
few_before t zero h = omega arith
few_before t (suc n) h = omega (arith, few_before t n h, few_at t n h)

few_in : (t : Texture) → texture_valid t ≡ true → surfaces_in t ≤ most
few_in t e = let v = valid_texture t e in omega (arith, few_before t t.mips v.depth.1, v.mips.1)

-- Row k, its test, and its surfaces.
module _ (S : Session) (k : ℕ) {t : Texture} {valid : Bool} (row : t ≡ S.texture k) (test : valid ≡ texture_valid t) where
  judged : valid ≡ texture_valid (S.texture k)
  judged = test ∙ ap texture_valid row

  -- One row more.
  pub read_turn : {sum m : ℕ} → Read S k sum → valid ≡ true → m ≡ surfaces_in t → Read S (k + 1) (sum + m)
  read_turn r e q =
      let m-few = few_in t (sym test ∙ e) in
      record {
        each = textures_turn S k ∙ and_on _ _ r.each (sym judged ∙ e);
        counted = simp (r.counted, q, row, before_turn);
        few = omega (arith, r.few, q, m-few);
      }

  -- A row that cannot be read refuses the table.
  pub row_refused : k < S.texture_count → valid ≡ false → false ≡ textures_valid S
  unfolding textures_valid
  row_refused h e =
      let stop = textures_stop S (k + 1) S.texture_count (omega arith) (textures_turn S k ∙ and_off_right (textures_read S k) _ (sym judged ∙ e)) in
      ap (λ b. b && leb (surface_count S) max_surfaces) (sym stop)

-- Where each row can be read, the surfaces decide.
pub read_all : (S : Session) (sum : ℕ) → Read S S.texture_count sum → leb sum max_surfaces ≡ textures_valid S
unfolding textures_valid
read_all S sum r = ap (λ m. leb m max_surfaces) r.counted ∙ ap (λ b. b && leb (surface_count S) max_surfaces) (sym r.each)
