-- Texts, computed; and what is held of a file.
use Rattle.std.specs.Prelude.{◌≡◌, refl, List, [], ◌∷◌, ◌++◌, ℕ, length}
use Rattle.std.proofs.Common.{inl}
use Rattle.std.proofs.Math.Seq.{take-append_seam}
use Rattle.definition.specs.Sessions.{example}
use Rattle.definition.specs.Computing.{computing}
use Rattle.report.specs.Text.{places, digits, decimal, joined, line_text, lines_text, refusal_text}
use Rattle.report.specs.Output.{output}
use Rattle.report.specs.Held.{Holds}

-- "0", "9", "10", "16384", "4294967295".
numbers : (decimal 0 ∷ decimal 9 ∷ decimal 10 ∷ decimal 16384 ∷ decimal 4294967295 ∷ [])
    ≡ ((48 ∷ []) ∷ (57 ∷ []) ∷ (49 ∷ 48 ∷ []) ∷ (49 ∷ 54 ∷ 51 ∷ 56 ∷ 52 ∷ []) ∷ (52 ∷ 50 ∷ 57 ∷ 52 ∷ 57 ∷ 54 ∷ 55 ∷ 50 ∷ 57 ∷ 53 ∷ []) ∷ [])
unfolding places digits decimal
numbers = refl

-- Document 01's example: "0 0 17 17 4 4 1 0 1" and "1 0 17 17 4 4 1 1 0".
example_output : output example ≡ (
    48 ∷ 32 ∷ 48 ∷ 32 ∷ 49 ∷ 55 ∷ 32 ∷ 49 ∷ 55 ∷ 32 ∷ 52 ∷ 32 ∷ 52 ∷ 32 ∷ 49 ∷ 32 ∷ 48 ∷ 32 ∷ 49 ∷ 10
    ∷ 49 ∷ 32 ∷ 48 ∷ 32 ∷ 49 ∷ 55 ∷ 32 ∷ 49 ∷ 55 ∷ 32 ∷ 52 ∷ 32 ∷ 52 ∷ 32 ∷ 49 ∷ 32 ∷ 49 ∷ 32 ∷ 48 ∷ 10 ∷ [])
unfolding computing places digits decimal joined line_text lines_text refusal_text output
example_output = refl

-- An empty file: "session 1".
empty_output : output [] ≡ (115 ∷ 101 ∷ 115 ∷ 115 ∷ 105 ∷ 111 ∷ 110 ∷ 32 ∷ 49 ∷ 10 ∷ [])
unfolding computing places digits decimal joined line_text lines_text refusal_text output
empty_output = refl

-- A file's first bytes are held of it, and its length is told.
front_held : (first rest : List ℕ) → Holds first (length (first ++ rest)) (first ++ rest)
front_held first rest = record { front = take-append_seam first rest; counted = inl refl }
