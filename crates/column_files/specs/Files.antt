-- Session files whose pass part is stored by columns, and back: what the programs `to_columns` and `to_rows` write.
use Rattle.std.specs.Prelude.{ℕ, cond, List, ◌++◌, eqb, take, drop}
use Rattle.definition.specs.Session.{pass_count, pass_start}
use Rattle.definition.specs.Readable.{session_refusal}
use Rattle.report.specs.Output.{output}
use Rattle.report.specs.Held.{held_text}
use Rattle.columns.specs.Columns.{arranged}
use Rattle.columns.specs.declared.Way.{Way}

-- A file with its pass part rearranged; all before it stays.
unfoldable pub rearranged : Way → List ℕ → List ℕ
rearranged way s = take (pass_start s) s ++ arranged way (pass_count s) (drop (pass_start s) s)

-- What is written for a file: a readable session rearranged, and of a refused one what `deskcheck` prints.
unfoldable pub written : Way → List ℕ → List ℕ
written way s = cond (eqb (session_refusal s) 0) (rearranged way s) (output s)

-- The same for an input of which the first bytes are held.
unfoldable pub held_written : Way → List ℕ → ℕ → List ℕ
held_written way head bytes = cond (eqb (session_refusal head) 0) (rearranged way head) (held_text head bytes)
