-- Numbers that stand one after the other in bytes, four bytes each.
use Rattle.std.specs.Prelude.{ℕ, zero, suc, ◌+◌, ◌*◌, List, [], ◌∷◌, ◌++◌, get_or}
use Rattle.definition.specs.Bytes.{u32_at}
use Rattle.encoding.specs.Writing.{put_number}

-- The first n numbers from a place on.
unfoldable pub numbers_at : List ℕ → ℕ → ℕ → List ℕ
numbers_at b at zero = []
numbers_at b at (suc n) = numbers_at b at n ++ (u32_at b (at + 4 * n) ∷ [])

-- The bytes with the first n of the numbers written from a place on.
unfoldable pub put_numbers : List ℕ → ℕ → List ℕ → ℕ → List ℕ
put_numbers b at xs zero = b
put_numbers b at xs (suc n) = put_number 4 (put_numbers b at xs n) (at + 4 * n) (get_or xs n 0)
