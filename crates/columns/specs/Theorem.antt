-- The two ways are inverse to each other; where each byte stands; and the part that is handed back is byte j of all passes.
use Rattle.std.specs.Prelude.{◌≡◌, ◌≢◌, List, [], ℕ, ◌+◌, ◌*◌, ◌<◌, ◌≤◌, length, get_or, take}
use Rattle.definition.specs.Sizes.{pass_bytes, max_passes}
use Rattle.columns.specs.Columns.{column, arranged, column_place, column_part}
use Rattle.columns.specs.Promise.{Rearranged}
use Rattle.columns.specs.declared.Way.{Way}
use Rattle.columns.specs.declared.Way.TheVariants as To

-- The way that undoes a way.
abbrev pub back : Way → Way
back To.Columns = To.Rows
back To.Rows = To.Columns

-- There and back, either way first, of any number of passes.
abbrev pub Inverse : Type 0
Inverse = (way : Way) (n : ℕ) (b : List ℕ) → length b ≡ pass_bytes * n → arranged (back way) n (arranged way n b) ≡ b

-- The same of two calls that are not refused, the second on what the first wrote.
abbrev pub CallsInverse : Type 0
CallsInverse =
    (way : Way) (n : ℕ) (part before after before' after' : List ℕ) → Rearranged way n part before 0 after
    → Rearranged (back way) n (take (length part) after) before' 0 after' → take (length part) after' ≡ part

-- Byte j of pass i.
abbrev pub Stands : Type 0
Stands = (n : ℕ) (b : List ℕ) (i j : ℕ) → i < n → j < pass_bytes → get_or (arranged To.Columns n b) (n * j + i) 0 ≡ get_or b (pass_bytes * i + j) 0

-- A column that is not refused, of 0 to 100 passes.
abbrev pub PartIsColumn : Type 0
PartIsColumn =
    (n : ℕ) (b : List ℕ) (j : ℕ) → n ≤ max_passes → length b ≡ pass_bytes * n → j < pass_bytes
    → column_part n (arranged To.Columns n b) j ≡ column pass_bytes b j n

-- One that is.
abbrev pub RefusedIsEmpty : Type 0
RefusedIsEmpty = (n : ℕ) (b : List ℕ) (j : ℕ) → (column_place n (length b) j).number ≢ 0 → column_part n b j ≡ []
