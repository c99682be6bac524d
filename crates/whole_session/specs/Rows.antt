-- The rows of a whole session, nine numbers a pass: from the lists that each pass starts from, and in lent bytes.
use Rattle.std.specs.Prelude.{ℕ, zero, suc, ◌+◌, ◌-◌, ◌*◌, ◌≤◌, ◌≡◌, List, [], ◌∷◌, ◌++◌}
use Rattle.definition.specs.Sizes.{max_actions, row_numbers, row_bytes}
use Rattle.definition.specs.Session.{Session, session}
use Rattle.definition.specs.MemoryInit.{Lists}
use Rattle.definition.specs.Pass.{check_pass}
use Rattle.definition.specs.Calls.{no_entries}
use Rattle.definition.specs.Program.{line, next_lists, lines}
use Rattle.memory_init.specs.Tally.{DiscardsInRoom}
use Rattle.render_pass.specs.Summary.{StandFor}
use Rattle.whole_session.specs.declared.Row.{Row}
use Rattle.whole_session.specs.Numbers.{numbers_at}

-- ── of a session

-- The lists from which pass k of so many starts.
unfoldable pub lists_before : Session → ℕ → ℕ → Lists
lists_before S passes zero = no_entries
lists_before S passes (suc k) = next_lists (S.pass k) (passes - suc k) (check_pass S (S.pass k) (lists_before S passes k)).lists

-- Its row, and the rows of the first k.
abbrev pub row_at : Session → ℕ → ℕ → List ℕ
row_at S passes k = line k (check_pass S (S.pass k) (lists_before S passes k))

unfoldable pub first_rows : Session → ℕ → ℕ → List (List ℕ)
first_rows S passes zero = []
first_rows S passes (suc k) = first_rows S passes k ++ (row_at S passes k ∷ [])

-- What `deskcheck` says of the passes from k on.
abbrev pub lines_from : List ℕ → ℕ → ℕ → List (List ℕ)
lines_from s passes k = lines (session s) k (passes - k) (lists_before (session s) passes k)

-- ── in a walk

-- The discards d and so many actions stand for the lists from which pass k starts.
pub record Reached (S : Session) (passes k : ℕ) (d : List ℕ) (actions : ℕ) : Type 0 where
  pub lists : StandFor d actions (lists_before S passes k)
  pub held : DiscardsInRoom d
  pub few : actions ≤ max_actions

-- Pass k has its row, and the next pass is reached.
pub record Advances (S : Session) (passes k : ℕ) (r : Row) (d : List ℕ) : Type 0 where
  pub row : r.numbers ≡ row_at S passes k
  pub next : Reached S passes (k + 1) d r.actions

-- A walk of a session, before pass k of so many.
pub record Walks (s : List ℕ) (passes k : ℕ) (d : List ℕ) (actions : ℕ) : Type 0 where
  pub within : k ≤ passes
  pub reached : Reached (session s) passes k d actions

-- ── in lent bytes

-- The first n rows.
unfoldable pub rows_in : List ℕ → ℕ → List (List ℕ)
rows_in b zero = []
rows_in b (suc n) = rows_in b n ++ (numbers_at b (row_bytes * n) row_numbers ∷ [])
