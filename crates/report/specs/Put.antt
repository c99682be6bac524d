-- A text that is written into a buffer.
use Rattle.std.specs.Prelude.{◌≡◌, List, ℕ, ◌+◌, length}
use Rattle.std.proofs.lemmas.List.Edits.{sets}

-- What was `before` is `after` once `text` is written from a place on.
pub record Put (before : List ℕ) (at : ℕ) (text after : List ℕ) (end : ℕ) : Type 0 where
  -- Byte after byte from that place; every other byte stays.
  pub bytes : after ≡ sets before at text
  -- The answer is the place behind the text.
  pub behind : end ≡ at + length text
