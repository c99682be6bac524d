-- The room for the list.
use Rattle.std.specs.Prelude.{ℕ}

-- Bytes that the list fits in.
abbrev pub list_bytes : ℕ
list_bytes = 600000
