-- Pass rows stored by columns (document 02, (xii)): byte 0 of all passes, then byte 1, up to byte 503; and back.
use Rattle.std.specs.Prelude.{ℕ, zero, suc, ◌+◌, ◌*◌, Bool, ◌&&◌, cond, List, [], ◌∷◌, ◌++◌, leb, ltb, eqb, length, get_or, take, drop}
use Rattle.definition.specs.Sizes.{pass_bytes, max_passes}
use Rattle.columns.specs.declared.Way.{Way}
use Rattle.columns.specs.declared.Way.TheVariants as To
use Rattle.columns.specs.declared.ColumnPlace.{ColumnPlace}

-- ── rows and columns

-- Of rows of c bytes: byte j of the first n rows.
unfoldable pub column : ℕ → List ℕ → ℕ → ℕ → List ℕ
column c b j zero = []
column c b j (suc n) = column c b j n ++ (get_or b (c * n + j) 0 ∷ [])

-- Of r such rows: the first m columns, one behind the other.
unfoldable pub columns : ℕ → ℕ → List ℕ → ℕ → List ℕ
columns r c b zero = []
columns r c b (suc m) = columns r c b m ++ column c b m r

-- All c of them.
abbrev pub transposed : ℕ → ℕ → List ℕ → List ℕ
transposed r c b = columns r c b c

-- The pass part is n rows of 504 bytes; by columns it is 504 rows of n bytes.
abbrev pub rows_of : Way → ℕ → ℕ
rows_of To.Columns n = n
rows_of To.Rows n = pass_bytes

abbrev pub row_bytes_of : Way → ℕ → ℕ
row_bytes_of To.Columns n = pass_bytes
row_bytes_of To.Rows n = n

-- The pass part of n passes, rearranged to columns or back to rows.
abbrev pub arranged : Way → ℕ → List ℕ → List ℕ
arranged way n b = transposed (rows_of way n) (row_bytes_of way n) b

-- ── refusals

-- So many bytes are those of n passes, and n is no more than a session has.
unfoldable pub is_part : ℕ → ℕ → Bool
is_part n bytes = leb n max_passes && eqb bytes (pass_bytes * n)

-- 2 for the pass count or the length; then 6 for a target that is too short.
unfoldable pub rearrange_number : ℕ → ℕ → ℕ → ℕ
rearrange_number n bytes room = cond (is_part n bytes) (cond (leb bytes room) 0 6) 2

-- A part of n passes by columns has column j: no column is past 503.
unfoldable pub has_column : ℕ → ℕ → ℕ → Bool
has_column n bytes j = is_part n bytes && ltb j pass_bytes

-- Where column j stands, and its bytes; 2, and no bytes, for the pass count, the length or the column.
unfoldable pub column_place : ℕ → ℕ → ℕ → ColumnPlace
column_place n bytes j =
    cond (has_column n bytes j) (record { number = 0; first = n * j; bytes = n })
    (record { number = 2; first = 0; bytes = 0 })

-- The part of the columns that has column j.
abbrev pub column_part : ℕ → List ℕ → ℕ → List ℕ
column_part n b j = let p = column_place n (length b) j in take p.bytes (drop p.first b)
