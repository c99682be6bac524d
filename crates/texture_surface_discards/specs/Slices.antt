-- A slice of surfaces as a flat list: the numbers of its records, one after the other, as they stand in memory.
use Rattle.std.specs.Prelude.{ℕ, ◌<◌, ◌≤◌, ◌≡◌, not, List, [], ◌∷◌, ◌++◌, length, take, get_or}
use Rattle.definition.specs.Sizes.{surface_numbers}
use Rattle.definition.specs.Surfaces.{hits, surface_at, range_at}
use Rattle.definition.specs.MemoryInit.{others}
use Rattle.definition.specs.declared.Surface.{Surface}
use Rattle.definition.specs.declared.Range.{Range}
use Rattle.laws.specs.Records.{Appended, Retained}
use Rattle.texture_surface_discards.specs.declared.TextureInitRange.{TextureInitRange}

abbrev pub range_of : TextureInitRange → Range
range_of r = range_at r.texture r.mip r.mips r.layer r.layers r.slice

-- The surface of four numbers, and the numbers of a list of them.
unfoldable pub decode_surface : List ℕ → Surface
decode_surface l = surface_at (get_or l 0 0) (get_or l 1 0) (get_or l 2 0) (get_or l 3 0)

abbrev pub numbers : List Surface → List ℕ
numbers [] = []
numbers (s ∷ l) = s.texture ∷ s.mip ∷ s.layer ∷ s.slice ∷ numbers l

-- A discard is appended where there is room, as in the flat list, so that the slice has the first n and the discard; else the slice stays.
pub record Listed (n : ℕ) (s : Surface) (l l' : List Surface) (r : ℕ) : Type 0 where
  pub appended : n < length l → Appended surface_numbers decode_surface n (s ∷ []) (numbers l) (numbers l') r
  pub records : n < length l → take r l' ≡ take n l ++ (s ∷ [])
  pub refused : length l ≤ n → (l' ≡ l) × (r ≡ n)

-- The discards that the range does not hit are retained, as in the flat list, so that the slice has those that the definition keeps; where there are not n, the slice stays.
pub record Kept (n : ℕ) (range : Range) (l l' : List Surface) (r : ℕ) : Type 0 where
  pub retained : n ≤ length l → Retained surface_numbers decode_surface (λ s. not (hits range s)) n (numbers l) (numbers l') r
  pub records : n ≤ length l → take r l' ≡ others range (take n l)
  pub refused : length l < n → (l' ≡ l) × (r ≡ n)
