-- The states of a slice's compaction, and what a turn makes of one: the flat list's laws, at the records' numbers.
use Prim.Native.Nat.{ℕ, ◌+◌, ◌<◌, ◌≤◌}
use native.Mathlib.Omega.{arith}
use mathlib.Core.Path.{◌≡◌, refl}
use mathlib.Core.Bool.{Bool, true, false, not}
use mathlib.Core.List.{List}
use lib.ListN.{length, set, get_or}
use Rattle.definition.specs.Sizes.{surface_numbers}
use Rattle.definition.specs.Surfaces.{hits}
use Rattle.definition.specs.declared.Surface.{Surface}
use Rattle.laws.proofs.Compact.{Compacting, compact_passes, compact_done}
use Rattle.laws.proofs.Kept.{compact_keeps}
use Rattle.texture_surface_discards.specs.Slices.{decode_surface, numbers, range_of, Kept}
use Rattle.texture_surface_discards.specs.declared.TextureInitRange.{TextureInitRange}
use Rattle.texture_surface_discards.proofs.Slices.{none, surface_in, numbers_at_lem, slice_written}
use Rattle.texture_surface_discards.proofs.Contents.{retained_records}

-- The test of what stays.
abbrev pub outside : TextureInitRange → Surface → Bool
outside a s = not (hits (range_of a) s)

-- i of the n records are read, and k of them stand in front.
abbrev pub Going : TextureInitRange → ℕ → List Surface → List Surface → ℕ → ℕ → Type 0
Going a n l l' k i = Compacting surface_numbers decode_surface (outside a) n (numbers l) (numbers l') k i

module _
    (a : TextureInitRange) (n : ℕ) (l l' : List Surface) (k i : ℕ) (long : length l' ≡ length l) (enough : n ≤ length l)
    (g : Going a n l l' k i) (more : i < n) where
  -- The record that the turn reads.
  abbrev s : Surface
  s = get_or l' i none

  reads : s ≡ surface_in i (numbers l')
  reads = numbers_at_lem l' i (omega (arith, long, enough))

  -- What stands after the turn: the record stays, or it leaves.
  pub kept_on : outside a s ≡ true → Going a n l (set l' k s) (k + 1) (i + 1)
  kept_on h = compact_keeps g more reads refl h (slice_written l' k s (omega (arith, long, enough, g.behind))) refl

  pub left_out : outside a s ≡ false → Going a n l l' k (i + 1)
  left_out h = compact_passes g more reads refl h refl refl

module _ (a : TextureInitRange) (n : ℕ) (l : List Surface) where
  -- All are read: what stays is retained.
  pub retained : (l' : List Surface) (k i : ℕ) → length l' ≡ length l → n ≤ length l → Going a n l l' k i → n ≤ i → Kept n (range_of a) l l' k
  retained l' k i long enough g over =
      record { retained = λ _. compact_done g over; records = λ _. retained_records n k (range_of a) l l' long enough (compact_done g over); refused = λ past. absurd (omega (arith, enough, past)) }
