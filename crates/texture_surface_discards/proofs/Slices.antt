-- A slice of surfaces and the numbers of its records: a store of a record is the store of its numbers, and a read the read of them.
use Prim.Native.Nat.{ℕ, zero, suc, ◌*◌, ◌<◌}
use native.Mathlib.Omega.{arith}
use mathlib.Core.Path.{◌≡◌, refl, sym, ap, ◌∙◌}
use mathlib.Core.List.{List, [], ◌∷◌}
use lib.ListN.{length, take, drop, set, get_or}
use lib.Seq.{sets}
use Rattle.definition.specs.Sizes.{surface_numbers}
use Rattle.definition.specs.Surfaces.{surface_at}
use Rattle.definition.specs.declared.Surface.{Surface}
use Rattle.laws.specs.Records.{record_at, records, Written}
use Rattle.laws.proofs.Records.{written}
use Rattle.texture_surface_discards.specs.Slices.{decode_surface, numbers}

-- What a slice has past its end.
abbrev pub none : Surface
none = surface_at 0 0 0 0

-- The four numbers of a surface.
abbrev encode_surface : Surface → List ℕ
encode_surface s = s.texture ∷ s.mip ∷ s.layer ∷ s.slice ∷ []

-- The first n surfaces of a list of numbers.
abbrev pub surfaces : ℕ → List ℕ → List Surface
surfaces n l = records surface_numbers decode_surface n l

-- The surface at place i.
abbrev pub surface_in : ℕ → List ℕ → Surface
surface_in i l = record_at surface_numbers decode_surface i l

-- The place of the next record.
further : (i : ℕ) → surface_numbers * suc i ≡ suc (suc (suc (suc (surface_numbers * i))))
further i = omega arith

-- How many numbers there are.
pub numbers_length : (l : List Surface) → length (numbers l) ≡ surface_numbers * length l
numbers_length [] = refl
numbers_length (x ∷ l) = ap (λ (q : ℕ). suc (suc (suc (suc q)))) (numbers_length l) ∙ sym (further (length l))

-- A record that is stored is its numbers stored.
pub numbers_set : (l : List Surface) (i : ℕ) (s : Surface) → numbers (set l i s) ≡ sets (numbers l) (surface_numbers * i) (encode_surface s)
numbers_set [] i s = refl
numbers_set (x ∷ l) zero s = refl
numbers_set (x ∷ l) (suc i) s = ap (λ q. x.texture ∷ x.mip ∷ x.layer ∷ x.slice ∷ q) (numbers_set l i s) ∙ ap (λ (q : ℕ). sets (numbers (x ∷ l)) q (encode_surface s)) (sym (further i))

-- The record at place i is read.
pub numbers_at_lem : (l : List Surface) (i : ℕ) → i < length l → get_or l i none ≡ surface_in i (numbers l)
unfolding record_at decode_surface
numbers_at_lem [] i h = absurd (omega arith)
numbers_at_lem (x ∷ l) zero h = refl
numbers_at_lem (x ∷ l) (suc i) h = numbers_at_lem l i (omega arith) ∙ ap (λ (q : ℕ). decode_surface (take surface_numbers (drop q (numbers (x ∷ l))))) (sym (further i))

-- A record is written at place i.
pub slice_written : (l : List Surface) (i : ℕ) (s : Surface) → i < length l → Written surface_numbers decode_surface i s (numbers l) (numbers (set l i s))
unfolding decode_surface
slice_written l i s h = written surface_numbers decode_surface i (encode_surface s) (numbers l) (numbers (set l i s)) s refl (omega (arith, numbers_length l)) refl (numbers_set l i s)
