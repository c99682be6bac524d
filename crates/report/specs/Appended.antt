-- A text that grows at its end.
use Rattle.std.specs.Prelude.{◌≡◌, List, ℕ, length}
use Rattle.report.specs.Put.{Put}
use Rattle.report.specs.declared.text.Text.{Text}

-- What was `before` is `after` once `bytes` are written behind it, in the same buffer.
pub record Appended (before : Text) (bytes : List ℕ) (after : Text) : Type 0 where
  pub put : Put before.buffer.now before.end bytes after.buffer.now after.end
  pub same_length : length after.buffer.now ≡ length before.buffer.now
  pub same_reference : after.buffer.ghost_name ≡ before.buffer.ghost_name
