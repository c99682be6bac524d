-- What writing a number into bytes makes of them. A number that does not fit whole leaves them as they are.
use Rattle.std.specs.Prelude.{ℕ, zero, suc, ◌+◌, ◌/◌, ◌%◌, ◌^◌, List, cond, leb, length, set}

-- The lowest k bytes of n stand from `at` on, the lowest first.
unfoldable pub put_bytes : List ℕ → ℕ → ℕ → ℕ → List ℕ
put_bytes s at n zero = s
put_bytes s at n (suc k) = set (put_bytes s at n k) (at + k) (n / 256 ^ k % 256)

-- A number of k bytes, where they all lie inside.
unfoldable pub put_number : ℕ → List ℕ → ℕ → ℕ → List ℕ
put_number k s at n = cond (leb (at + k) (length s)) (put_bytes s at n k) s
