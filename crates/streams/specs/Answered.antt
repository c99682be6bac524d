-- What a program has to write once its input is read. What is read is left free, and named here: of standard input no contract can say it.
use Rattle.std.specs.Prelude.{◌≡◌, Bool, true, false, List, ℕ, ◌≤◌, length, take}
use Rattle.report.specs.Held.{Enough, Holds}
use Rattle.report.specs.Printed.{Printed}

-- The text of n bytes for what is read. A program says which it is: `of_held` for an input's first bytes and its length, and `of_file`
-- for a whole file.
pub record TextOf (of_held : List ℕ → ℕ → List ℕ) (of_file : List ℕ → List ℕ) (before after : List ℕ) (n : ℕ) : Type 0 where
  -- The bytes that were read first, and the length of the input: all of it, or more than any session has.
  pub head : List ℕ
  pub bytes : ℕ
  pub enough : Enough (length head) bytes
  -- Their text is at the front, and what stands behind it stays.
  pub printed : Printed before (of_held head bytes) after n
  -- Of every file that they are of, it is the definition's.
  pub defined : (file : List ℕ) → Holds head bytes file → take n after ≡ of_file file

-- n bytes, and whether a read failed.
pub record Answered (of_held : List ℕ → ℕ → List ℕ) (of_file : List ℕ → List ℕ) (before after : List ℕ) (n : ℕ) (failed : Bool) : Type 0 where
  -- The buffer has n bytes.
  pub fits : n ≤ length after
  pub counted : n ≡ length (take n after)
  -- Where a read failed, there is no text, and the buffer is as it was.
  pub none : failed ≡ true → (n ≡ 0) × (after ≡ before)
  -- Else it is the text for what is read.
  pub text : failed ≡ false → TextOf of_held of_file before after n
