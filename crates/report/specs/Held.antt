-- What is printed for a file of which the first bytes are held.
use Rattle.std.specs.Prelude.{◌≡◌, cond, List, ◌⊎◌, ℕ, ◌≤◌, ◌<◌, leb, length, take}
use Rattle.definition.specs.Sizes.{longest_session}
use Rattle.definition.specs.Session.{total_length}
use Rattle.report.specs.Text.{refusal_text}
use Rattle.report.specs.Output.{output}
use Rattle.report.specs.Oversize.{length_bound, oversize_number}

-- `held` bytes are enough of a file of `bytes` bytes: all of them, or more than any session has.
abbrev pub Enough : ℕ → ℕ → Type 0
Enough held bytes = (held ≤ bytes) × (held < bytes → longest_session < held)

-- The bytes are the first of a file whose length is told as `bytes`.
pub record Holds (head : List ℕ) (bytes : ℕ) (file : List ℕ) : Type 0 where
  -- As far as they go, they are the file's.
  pub front : take (length head) file ≡ head
  -- The file has so many bytes; or both numbers are past every length field.
  pub counted : (length file ≡ bytes) ⊎ ((length_bound ≤ length file) × (length_bound ≤ bytes))

-- The text for what is held. No more bytes than the longest session has are taken for the file; of more, the refusal is told from the
-- length field and the length.
unfoldable pub held_text : List ℕ → ℕ → List ℕ
held_text head bytes =
    cond (leb (length head) longest_session) (output head) (refusal_text (oversize_number (total_length head) bytes))
