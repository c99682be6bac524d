-- Surfaces, ranges of them, and lists of them.
use Rattle.std.specs.Prelude.{Bool, false, ◌&&◌, ◌||◌, List, [], ◌∷◌, ℕ, zero, suc, ◌+◌, leb, ltb, eqb}
use Rattle.definition.specs.declared.Surface.{Surface}
use Rattle.definition.specs.declared.Range.{Range}

abbrev pub surface_at : (texture mip layer slice : ℕ) → Surface
surface_at t m l k = record { texture = t; mip = m; layer = l; slice = k }

abbrev pub range_at : (texture mip mips layer layers slice : ℕ) → Range
range_at t m n l c k = record { texture = t; mip = m; mips = n; layer = l; layers = c; slice = k }

unfoldable pub same : Surface → Surface → Bool
same a b = eqb a.texture b.texture && eqb a.mip b.mip && eqb a.slice b.slice && eqb a.layer b.layer

-- x is one of the n numbers from a on.
unfoldable pub within : ℕ → ℕ → ℕ → Bool
within a n x = leb a x && ltb x (a + n)

-- The range has the surface.
unfoldable pub hits : Range → Surface → Bool
hits r s =
    eqb s.texture r.texture && within r.mip r.mips s.mip && eqb s.slice r.slice && within r.layer r.layers s.layer

-- One surface as a range.
abbrev pub only_range : Surface → Range
only_range s = range_at s.texture s.mip 1 s.layer 1 s.slice

-- The layers of slice k of a mip, from layer l, n to go.
abbrev pub layers_from : ℕ → ℕ → ℕ → ℕ → ℕ → List Surface
layers_from t m k l zero = []
layers_from t m k l (suc n) = surface_at t m l k ∷ layers_from t m k (l + 1) n

-- The surfaces of the range's first mip, lowest layer first.
abbrev pub layers_of : Range → List Surface
layers_of r = layers_from r.texture r.mip r.slice r.layer r.layers

-- What a discard of the range names: each layer of its first mip, lowest first.
abbrev pub named : Range → List Surface
named r = layers_of r

-- The list has the surface; two lists have one in common.
abbrev pub elem : Surface → List Surface → Bool
elem s [] = false
elem s (x ∷ xs) = same s x || elem s xs

abbrev pub meets : List Surface → List Surface → Bool
meets [] l = false
meets (s ∷ ss) l = elem s l || meets ss l
