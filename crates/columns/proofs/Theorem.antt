-- The theorems of specs/Theorem.antt.
use mathlib.Core.Path.{◌≡◌, sym, ap, ◌∙◌}
use mathlib.Core.List.{List}
use Prim.Native.Nat.{ℕ, ◌*◌, ◌<◌}
use native.Mathlib.Nat.{mul_comm}
use native.Mathlib.Omega.{arith}
use lib.ListN.{length, get_or, take, drop, length-drop}
use lib.Seq.{length-take-le, take_at, get_or-take, get_or-drop, ext_get_or}
use Rattle.definition.specs.Sizes.{pass_bytes}
use Rattle.columns.specs.Columns.{column, columns, rows_of, row_bytes_of, arranged}
use Rattle.columns.specs.Promise.{Rearranged}
use Rattle.columns.specs.Theorem.{back, Inverse, CallsInverse, Stands, PartIsColumn, RefusedIsEmpty}
use Rattle.columns.specs.declared.Way.{Way}
use Rattle.columns.specs.declared.Way.TheVariants as To
use Rattle.columns.proofs.Columns.{column_length, columns_length, column_at, columns_at, column_room, transposed_back}
use Rattle.columns.proofs.Refusals.{number_fits, way_bytes, fits_column, placed, refused_empty}

pub inverse : Inverse
inverse To.Columns n b h = transposed_back n pass_bytes b h
inverse To.Rows n b h = transposed_back pass_bytes n b (h ∙ mul_comm pass_bytes n)

-- As many bytes.
pub arranged_length : (way : Way) (n : ℕ) (b : List ℕ) → length (arranged way n b) ≡ pass_bytes * n
arranged_length way n b = columns_length (rows_of way n) (row_bytes_of way n) b (row_bytes_of way n) ∙ way_bytes way n

-- The front of a target is what was written.
written_front : (way : Way) (n : ℕ) (part before after : List ℕ) (k : ℕ) → Rearranged way n part before 0 after → k ≡ pass_bytes * n → take k after ≡ arranged way n part
written_front way n part before after k r e = ap (take k) r.target ∙ take_at (arranged way n part) _ k (arranged_length way n part ∙ sym e)

pub calls_inverse : CallsInverse
calls_inverse way n part before after before' after' r q =
    let e : length part ≡ pass_bytes * n = (number_fits n (length part) (length before) (sym r.refusal)).1 in
    written_front (back way) n (take (length part) after) before' after' (length part) q e
    ∙ ap (arranged (back way) n) (written_front way n part before after (length part) r e)
    ∙ inverse way n part e

pub stands : Stands
stands n b i j h g = columns_at n pass_bytes b pass_bytes j i g h

-- Column j, where it stands among all.
part_at : (r c : ℕ) (b : List ℕ) (j : ℕ) → j < c → take r (drop (r * j) (columns r c b c)) ≡ column c b j r
part_at r c b j h = ext_get_or 0 (take r (drop (r * j) (columns r c b c))) (column c b j r) (long ∙ sym (column_length c b j r)) same
  where
    long : length (take r (drop (r * j) (columns r c b c))) ≡ r
    long =
        length-take-le r (drop (r * j) (columns r c b c))
        (omega (arith, length-drop (r * j) (columns r c b c), columns_length r c b c, column_room r c j (r * c) h (omega arith)))

    same : (i : ℕ) → i < length (take r (drop (r * j) (columns r c b c))) → get_or (take r (drop (r * j) (columns r c b c))) i 0 ≡ get_or (column c b j r) i 0
    same i g =
        let low : i < r = omega (arith, long) in
        get_or-take r (drop (r * j) (columns r c b c)) i 0 low
        ∙ get_or-drop (r * j) (columns r c b c) i 0
        ∙ columns_at r c b c j i h low
        ∙ sym (column_at c b j r i low)

pub part_is_column : PartIsColumn
part_is_column n b j few h g =
    let b' = columns n pass_bytes b pass_bytes in
    let there = fits_column n (length b') j few (columns_length n pass_bytes b pass_bytes ∙ mul_comm n pass_bytes) g in
    ap (λ p. take p.bytes (drop p.first b')) (placed n (length b') j there) ∙ part_at n pass_bytes b j g

pub refused_is_empty : RefusedIsEmpty
refused_is_empty = refused_empty
