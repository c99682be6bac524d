-- What the contracts say of the slice's own records, the first so many of them. A call leaves a slice's length.
use Prim.Native.Nat.{ℕ, zero, suc, ◌+◌, ◌<◌, ◌≤◌}
use native.Mathlib.Omega.{arith}
use mathlib.Core.Path.{◌≡◌, refl, sym, ap, ◌∙◌}
use mathlib.Core.Bool.{not}
use mathlib.Core.List.{List, [], ◌∷◌, ◌++◌}
use lib.ListN.{length, take, set, length-set}
use lib.Seq.{take-suc}
use Rattle.definition.specs.Sizes.{surface_numbers}
use Rattle.definition.specs.Surfaces.{hits}
use Rattle.definition.specs.MemoryInit.{others}
use Rattle.definition.specs.declared.Surface.{Surface}
use Rattle.definition.specs.declared.Range.{Range}
use Rattle.laws.proofs.Lists.{retain_most}
use Rattle.laws.specs.Records.{records, Appended, Retained}
use Rattle.laws.proofs.Records.{records_length, write_append, append_count}
use Rattle.texture_surface_discards.specs.Slices.{decode_surface, numbers, Listed}
use Rattle.texture_surface_discards.proofs.Slices.{none, surfaces, numbers_at_lem, slice_written}

-- The flat list's records are the slice's.
slice_records : (n : ℕ) (l : List Surface) → n ≤ length l → surfaces n (numbers l) ≡ take n l
unfolding records
slice_records zero l h = refl
slice_records (suc n) l h = (λ q. slice_records n l (omega arith) q ++ (sym (numbers_at_lem l n h) q ∷ [])) ∙ sym (take-suc l n none h)

-- After an append: the first n and the discard.
appended_records : (n r : ℕ) (s : Surface) (l l' : List Surface) → length l' ≡ length l → n < length l → Appended surface_numbers decode_surface n (s ∷ []) (numbers l) (numbers l') r
    → take r l' ≡ take n l ++ (s ∷ [])
appended_records n r s l l' long h c =
    let count : r ≡ n + 1 = append_count surface_numbers decode_surface n r (s ∷ []) (numbers l) (numbers l') c in
    sym (slice_records r l' (omega (arith, count, long, h))) ∙ c.first ∙ ap (λ q. q ++ (s ∷ [])) (slice_records n l (omega (arith, h)))

-- With room the discard is appended.
pub listed : (n : ℕ) (s : Surface) (l : List Surface) → n < length l → Listed n s l (set l n s) (n + 1)
listed n s l h =
    let said = write_append surface_numbers decode_surface n s (numbers l) (numbers (set l n s)) (slice_written l n s h) in
    record { appended = λ _. said; records = λ _. appended_records n (n + 1) s l (set l n s) (length-set l n s) h said; refused = λ full. absurd (omega (arith, h, full)) }

-- After a compaction: those of the first n that the definition keeps.
pub retained_records : (n r : ℕ) (range : Range) (l l' : List Surface) → length l' ≡ length l → n ≤ length l → Retained surface_numbers decode_surface (λ s. not (hits range s)) n (numbers l) (numbers l') r
    → take r l' ≡ others range (take n l)
retained_records n r range l l' long h c =
    let count : r ≡ length (others range (surfaces n (numbers l))) = sym (records_length surface_numbers decode_surface r (numbers l')) ∙ ap length c.first in
    let most : r ≤ n = omega (arith, count, retain_most (λ s. not (hits range s)) (surfaces n (numbers l)), records_length surface_numbers decode_surface n (numbers l)) in
    sym (slice_records r l' (omega (arith, most, long, h))) ∙ c.first ∙ ap (others range) (slice_records n l h)
