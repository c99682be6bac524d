-- Numbers as text, in ASCII.
use Rattle.std.specs.Prelude.{ℕ, zero, suc, ◌+◌, ◌-◌, ◌*◌, ◌/◌, ◌%◌, ◌^◌, ◌<◌, ◌≡◌, ◌≢◌, List, [], ◌∷◌, ◌++◌, cond, ltb, length, get_or}
use Rattle.definition.specs.Sizes.{row_numbers, max_passes}

-- The digit "0".
abbrev pub zero_digit : ℕ
zero_digit = 48

-- The most digits of a u32.
abbrev pub max_digits : ℕ
max_digits = 10

-- How many digits n has, k of them counted so far: one more for each division by ten while n is ten or more, at most f times.
unfoldable pub places : ℕ → ℕ → ℕ → ℕ
places zero k n = k
places (suc f) k n = cond (ltb n 10) k (places f (k + 1) (n / 10))

-- The last k digits, the highest first.
unfoldable pub digits : ℕ → ℕ → List ℕ
digits zero n = []
digits (suc k) n = (zero_digit + n / 10 ^ k % 10) ∷ digits k n

-- A number without leading zeros; 0 is "0". Behind its first digit a u32 has nine at most.
unfoldable pub decimal : ℕ → List ℕ
decimal n = digits (places (max_digits - 1) 1 n) n

-- The number that a list of digits says, behind those that make v.
abbrev pub reads : ℕ → List ℕ → ℕ
reads v [] = v
reads v (d ∷ rest) = reads (v * 10 + (d - zero_digit)) rest

-- A text says the number n, and starts with "0" for 0 alone.
pub record Says (n : ℕ) (text : List ℕ) : Type 0 where
  pub number : reads 0 text ≡ n
  pub no_leading_zero : 0 < n → get_or text 0 0 ≢ zero_digit

-- What stands between two numbers, and what ends a line.
abbrev pub space : ℕ
space = 32

abbrev newline : ℕ
newline = 10

-- Numbers with one space between them.
unfoldable pub joined : List ℕ → List ℕ
joined [] = []
joined (x ∷ []) = decimal x
joined (x ∷ y ∷ rest) = decimal x ++ (space ∷ joined (y ∷ rest))

-- A line of numbers.
unfoldable pub line_text : List ℕ → List ℕ
line_text xs = joined xs ++ (newline ∷ [])

-- The most bytes of a number and the space or newline beside it, and of a row's line.
abbrev pub number_bytes : ℕ
number_bytes = max_digits + 1

abbrev pub line_bytes : ℕ
line_bytes = row_numbers * number_bytes

-- Lines, one after the other.
unfoldable pub lines_text : List (List ℕ) → List ℕ
lines_text [] = []
lines_text (l ∷ rest) = line_text l ++ lines_text rest

-- The most bytes of what is printed for a file: a line a pass.
abbrev pub printed_bytes : ℕ
printed_bytes = line_bytes * max_passes

-- "session "
abbrev pub session_word : List ℕ
session_word = 115 ∷ 101 ∷ 115 ∷ 115 ∷ 105 ∷ 111 ∷ 110 ∷ space ∷ []

-- The line of a refused session.
unfoldable pub refusal_text : ℕ → List ℕ
refusal_text n = session_word ++ line_text (n ∷ [])

-- The most bytes of that line.
abbrev pub refusal_bytes : ℕ
refusal_bytes = length session_word + number_bytes
