-- What is taken in a pass of a session file.
use Rattle.std.specs.Prelude.{List, ℕ}
use Rattle.definition.specs.Check.{taken_before}
use Rattle.definition.specs.declared.Surface.{Surface}
use Rattle.session.specs.declared.PassRow.{PassRow}
use Rattle.session.specs.Rows.{pass_in, session_in}

-- By the slots before k of the pass.
abbrev pub taken_in : PassRow → ℕ → List Surface
taken_in pass k = taken_before (session_in pass) (pass_in pass) k
