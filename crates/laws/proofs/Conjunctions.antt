-- A conjunction of tests holds where each of them does: the tests are a list, and a fact is taken out by its number.
use mathlib.Core.Path.{◌≡◌, refl}
use mathlib.Core.Bool.{Bool, true, ◌&&◌}
use mathlib.Core.List.{List, [], ◌∷◌}
use Prim.Native.Nat.{ℕ, zero, suc}
use lib.ListN.{get_or}
use Rattle.laws.proofs.Tests.{and_left, and_right}

-- The tests nested as a && b && c is.
abbrev pub conj : Bool → List Bool → Bool
conj a [] = a
conj a (b ∷ bs) = conj (a && b) bs

abbrev pub all_of : List Bool → Bool
all_of [] = true
all_of (b ∷ bs) = conj b bs

conj_first : (a : Bool) (bs : List Bool) → conj a bs ≡ true → a ≡ true
conj_first a [] e = e
conj_first a (b ∷ bs) e = and_left a b (conj_first (a && b) bs e)

conj_rest : (a : Bool) (bs : List Bool) → conj a bs ≡ true → (j : ℕ) → get_or bs j true ≡ true
conj_rest a [] e j = refl
conj_rest a (b ∷ bs) e zero = and_right a b (conj_first (a && b) bs e)
conj_rest a (b ∷ bs) e (suc j) = conj_rest (a && b) bs e j

-- Test j of the list.
pub each : (bs : List Bool) → all_of bs ≡ true → (j : ℕ) → get_or bs j true ≡ true
each [] e j = refl
each (b ∷ bs) e zero = conj_first b bs e
each (b ∷ bs) e (suc j) = conj_rest b bs e j
