-- The table of the surfaces before each texture, one texture further, and a surface's place from it.
use Prim.Native.Nat.{ℕ, ◌+◌, ◌≤◌, ◌<◌}
use native.Mathlib.Omega.{arith}
use mathlib.Core.Path.{◌≡◌, refl, sym, ap, subst, ◌∙◌}
use mathlib.Core.Logic.{◌≢◌}
use mathlib.Core.Bool.{Bool, true, false}
use mathlib.Core.List.{List}
use lib.Dec.{eqb}
use lib.ListN.{length, get_or, set}
use lib.Seq.{get_or-set_same, get_or-set_other}
use borrow.Author.Tests.{eqb-true, eqb-false}
use Rattle.definition.specs.Session.{Session, surfaces_in, surfaces_before, surface_count, surface_offset, surface_index}
use Rattle.definition.specs.Sizes.{max_surfaces}
use Rattle.definition.specs.declared.Surface.{Surface}
use Rattle.definition.specs.declared.Texture.{Texture}
use Rattle.laws.specs.Surfaces.{Inside}
use Rattle.laws.proofs.Folds.{before_turn, before_grows}
use Rattle.laws.proofs.Places.{place_counted}

-- Entries so far, and one more.
pub entry_further : (f : ℕ → ℕ) (bases : List ℕ) (k v : ℕ) → ((j : ℕ) → j < k → get_or bases j 0 ≡ f j) → k < length bases → v ≡ f k
    → (j : ℕ) → j < k + 1 → get_or (set bases k v) j 0 ≡ f j
entry_further f bases k v old room new j h = go (eqb j k) refl
  where
    go : (b : Bool) → eqb j k ≡ b → get_or (set bases k v) j 0 ≡ f j
    go true e =
        let z : j ≡ k = eqb-true j k e in
        ap (λ (q : ℕ). get_or (set bases k v) q 0) z ∙ get_or-set_same bases k v 0 room ∙ new ∙ ap f (sym z)
    go false e =
        let far : j ≢ k = eqb-false j k e in
        get_or-set_other bases k j v 0 far ∙ old j (omega arith)

-- The surfaces of a texture and those before it are no more than all.
pub sum_fits : (S : Session) (k : ℕ) → k < S.texture_count → surfaces_before S k + surfaces_in (S.texture k) ≤ surface_count S
sum_fits S k h = omega (arith, before_turn S k, before_grows S (k + 1) S.texture_count (omega arith))

-- A surface's place from its parts: where it stands among its texture's, few as all are.
pub index_of : (S : Session) (x : Surface) (b o : ℕ) → b ≡ surfaces_before S x.texture → o ≡ surface_offset (S.texture x.texture) x → b + o ≡ surface_index S x
index_of S x b o eb eo = λ q. eb q + eo q

pub offset_fits : (S : Session) (x : Surface) (t : Texture) → t ≡ S.texture x.texture → Inside S x → surface_count S ≤ max_surfaces → surface_offset t x ≤ max_surfaces
offset_fits S x t e ok few = subst (λ u. surface_offset u x ≤ max_surfaces) (sym e) (omega (arith, place_counted S x ok))
