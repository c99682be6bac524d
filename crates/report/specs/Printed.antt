-- A text at the front of a buffer.
use Rattle.std.specs.Prelude.{◌≡◌, List, ℕ, ◌≤◌, length, take, drop}

-- What was `before` is `after` once `text` is written, and n bytes are answered.
pub record Printed (before text after : List ℕ) (n : ℕ) : Type 0 where
  -- The first n bytes are the text.
  pub front : take n after ≡ text
  -- What stands behind them stays.
  pub behind : drop n after ≡ drop n before
  -- The buffer has n bytes. Both are stated so that a caller's `&out[..n]` needs no proof.
  pub fits : n ≤ length after
  pub counted : n ≡ length (take n after)
