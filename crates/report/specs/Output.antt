-- What `deskcheck` prints for the bytes of a file (document 01).
use Rattle.std.specs.Prelude.{ℕ, List, cond, eqb}
use Rattle.definition.specs.Readable.{session_refusal}
use Rattle.definition.specs.Program.{deskcheck}
use Rattle.report.specs.Text.{lines_text, refusal_text}

-- A line a pass; of a refused session "session" and the number.
unfoldable pub output : List ℕ → List ℕ
output s = cond (eqb (session_refusal s) 0) (lines_text (deskcheck s)) (refusal_text (session_refusal s))
