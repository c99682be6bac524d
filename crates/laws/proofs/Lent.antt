-- Laws of number 6 of records: a list is valid where its parts are, and a surface of the session is a range of it.
use mathlib.Core.Path.{◌≡◌, refl, sym, ap, subst, ◌∙◌}
use mathlib.Core.Bool.{Bool, true, false, ◌&&◌, cond, and_assoc}
use mathlib.Core.List.{List, [], ◌∷◌, ◌++◌, map}
use native.Mathlib.Omega.{arith}
use Prim.Native.Nat.{ℕ, zero, suc, ◌+◌, ◌-◌, ◌<◌}
use Rattle.definition.specs.Surfaces.{surface_at, only_range, layers_from, layers_of}
use Rattle.definition.specs.Session.{Session, slices_in}
use Rattle.definition.specs.MemoryInit.{implicit_at, retain}
use Rattle.definition.specs.Calls.{surface_valid, range_valid, surfaces_valid, actions_valid}
use Rattle.definition.specs.declared.Surface.{Surface}
use Rattle.definition.specs.declared.Range.{Range}
use Rattle.definition.specs.declared.Action.{Action}
use Rattle.laws.specs.Surfaces.{Inside}
use Rattle.laws.proofs.Tests.{and_left, and_right, and_on}
use Rattle.laws.proofs.Surfaces.{surface_inside, inside_surface, range_inside, inside_range}
use Rattle.laws.proofs.Views.{range_layer}

module _ (S : Session) where
  -- Records of two lists.
  pub surfaces_append : (a b : List Surface) → surfaces_valid S (a ++ b) ≡ (surfaces_valid S a && surfaces_valid S b)
  surfaces_append [] b = refl
  surfaces_append (x ∷ a) b = ap (λ q. surface_valid S x && q) (surfaces_append a b) ∙ sym (and_assoc (surface_valid S x) (surfaces_valid S a) (surfaces_valid S b))

  pub actions_append : (a b : List Action) → actions_valid S (a ++ b) ≡ (actions_valid S a && actions_valid S b)
  actions_append [] b = refl
  actions_append (x ∷ a) b = ap (λ q. range_valid S x.range && q) (actions_append a b) ∙ sym (and_assoc (range_valid S x.range) (actions_valid S a) (actions_valid S b))

  -- Records that pass a test.
  pub surfaces_retain : (f : Surface → Bool) (d : List Surface) → surfaces_valid S d ≡ true → surfaces_valid S (retain f d) ≡ true
  surfaces_retain f [] h = refl
  surfaces_retain f (x ∷ d) h = go (f x) (surfaces_retain f d (and_right (surface_valid S x) (surfaces_valid S d) h))
    where
      go : (b : Bool) → surfaces_valid S (retain f d) ≡ true → surfaces_valid S (cond b (x ∷ retain f d) (retain f d)) ≡ true
      go true ih = and_on (surface_valid S x) _ (and_left (surface_valid S x) (surfaces_valid S d) h) ih
      go false ih = ih

  -- A surface of the session as a range, and a range's first surface.
  pub only_valid : (s : Surface) → surface_valid S s ≡ true → range_valid S (only_range s) ≡ true
  only_valid s h =
      let i : Inside S s = surface_inside S s h in
      inside_range S (only_range s) (record {
        texture = i.texture;
        some_mip = omega arith;
        mips = omega (arith, i.mip);
        some_layer = omega arith;
        layers = omega (arith, i.layer);
        slice = subst (λ m. s.slice < slices_in (S.texture s.texture) m) (let e : s.mip ≡ s.mip + 1 - 1 = omega arith in e) i.slice;
      })

  -- The layers of a range, which a discard of it lists.
  layers_from_lem : (t m k l n : ℕ) → ((i : ℕ) → i < l + n → surface_valid S (surface_at t m i k) ≡ true) → surfaces_valid S (layers_from t m k l n) ≡ true
  layers_from_lem t m k l zero h = refl
  layers_from_lem t m k l (suc n) h =
      and_on (surface_valid S (surface_at t m l k)) (surfaces_valid S (layers_from t m k (l + 1) n)) (h l (omega arith))
      (layers_from_lem t m k (l + 1) n (λ i g. h i (omega (arith, g))))

  pub layers_valid : (r : Range) → range_valid S r ≡ true → surfaces_valid S (layers_of r) ≡ true
  layers_valid r h =
      layers_from_lem r.texture r.mip r.slice r.layer r.layers
      (λ i g. inside_surface S (surface_at r.texture r.mip i r.slice) (range_layer S r (range_inside S r h) i g))

  -- The implicit actions of clears.
  pub implicits_valid : (d : List Surface) → surfaces_valid S d ≡ true → actions_valid S (map implicit_at d) ≡ true
  implicits_valid [] h = refl
  implicits_valid (s ∷ d) h =
      and_on (range_valid S (only_range s)) _ (only_valid s (and_left (surface_valid S s) (surfaces_valid S d) h))
      (implicits_valid d (and_right (surface_valid S s) (surfaces_valid S d) h))
