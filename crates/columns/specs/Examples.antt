-- Rows by columns, computed: small ones, and the corners of the refusals.
use Rattle.std.specs.Prelude.{◌≡◌, refl, [], ◌∷◌}
use Rattle.columns.specs.Columns.{column, columns, transposed, is_part, rearrange_number, has_column, column_place}

-- Two rows of three bytes; and back.
two_rows : transposed 2 3 (1 ∷ 2 ∷ 3 ∷ 4 ∷ 5 ∷ 6 ∷ []) ≡ (1 ∷ 4 ∷ 2 ∷ 5 ∷ 3 ∷ 6 ∷ [])
unfolding column columns
two_rows = refl

three_rows : transposed 3 2 (1 ∷ 4 ∷ 2 ∷ 5 ∷ 3 ∷ 6 ∷ []) ≡ (1 ∷ 2 ∷ 3 ∷ 4 ∷ 5 ∷ 6 ∷ [])
unfolding column columns
three_rows = refl

-- No passes, 100 and 101; a length one off; a target of the length, and one byte short, also where the length is wrong.
numbers : (rearrange_number 0 0 0 ∷ rearrange_number 100 50400 50400 ∷ rearrange_number 101 50904 50904 ∷ rearrange_number 2 1007 1008 ∷ rearrange_number 2 1008 1007 ∷ rearrange_number 2 1007 0 ∷ [])
    ≡ (0 ∷ 0 ∷ 2 ∷ 2 ∷ 6 ∷ 2 ∷ [])
unfolding is_part rearrange_number
numbers = refl

-- Column 503 of 100 passes and of none, column 504, and a column of a wrong length.
last_column : column_place 100 50400 503 ≡ record { number = 0; first = 50300; bytes = 100 }
unfolding is_part has_column column_place
last_column = refl

no_passes : column_place 0 0 503 ≡ record { number = 0; first = 0; bytes = 0 }
unfolding is_part has_column column_place
no_passes = refl

past_the_last : column_place 0 0 504 ≡ record { number = 2; first = 0; bytes = 0 }
unfolding is_part has_column column_place
past_the_last = refl

wrong_length : column_place 2 1007 1 ≡ record { number = 2; first = 0; bytes = 0 }
unfolding is_part has_column column_place
wrong_length = refl
