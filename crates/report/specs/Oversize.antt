-- The refusal of a file that is longer than any session, told from its length field and its length.
use Rattle.std.specs.Prelude.{ℕ, ◌^◌, cond, eqb}

-- No length field is so large: it has 32 bits.
abbrev pub length_bound : ℕ
length_bound = 2 ^ 32

-- 1 where the length field is wrong; else 2, for then another field is.
abbrev pub oversize_number : ℕ → ℕ → ℕ
oversize_number field bytes = cond (eqb field bytes) 2 1
