-- A session's file can be read as a session when it is rearranged, and the way back gives the file again, byte for byte.
use Rattle.std.specs.Prelude.{◌≡◌, List, ℕ}
use Rattle.definition.specs.Readable.{session_refusal}
use Rattle.column_files.specs.Files.{rearranged, written}
use Rattle.columns.specs.declared.Way.{Way}
use Rattle.columns.specs.Theorem.{back}

-- There and back, either way first, for every readable session.
abbrev pub FilesBack : Type 0
FilesBack = (way : Way) (s : List ℕ) → session_refusal s ≡ 0 → written (back way) (written way s) ≡ s

-- A rearranged file is readable where the file is: it has the same length, and the same bytes before its passes.
abbrev pub StillReadable : Type 0
StillReadable = (way : Way) (s : List ℕ) → session_refusal s ≡ 0 → session_refusal (rearranged way s) ≡ 0
