-- Little-endian numbers and floats in a list of bytes. Past the end a byte reads as 0.
use Rattle.std.specs.Prelude.{ℕ, ◌+◌, ◌*◌, ◌/◌, ◌%◌, ◌^◌, List, Bool, get_or, eqb, Float}
use Rattle.std.specs.Float.{binary32, binary64}
use Rattle.std.specs.Float.Ieee.{of_bits}

unfoldable pub u32_at : List ℕ → ℕ → ℕ
u32_at s at = get_or s at 0 + 256 * get_or s (at + 1) 0 + 65536 * get_or s (at + 2) 0 + 16777216 * get_or s (at + 3) 0

-- Every NaN pattern is the one NaN.
abbrev pub f32_of_bits : ℕ → Float
f32_of_bits n = of_bits binary32 n

abbrev pub f64_of_bits : ℕ → Float
f64_of_bits n = of_bits binary64 n

abbrev pub f64_at : List ℕ → ℕ → Float
f64_at s at = f64_of_bits (u32_at s at + 2 ^ 32 * u32_at s (at + 4))

-- Whether bit k of n is set.
abbrev pub bit : ℕ → ℕ → Bool
bit n k = eqb (n / 2 ^ k % 2) 1
