-- The whole session in one call.
use Rattle.std.specs.Prelude.{ℕ, ◌*◌, ◌≡◌, ◌≢◌, cond, List, ltb, length, drop}
use Rattle.definition.specs.Sizes.{row_bytes, rows_bytes}
use Rattle.definition.specs.Session.{session}
use Rattle.definition.specs.Readable.{session_refusal}
use Rattle.definition.specs.Program.{deskcheck}
use Rattle.whole_session.specs.Rows.{rows_in}

-- 6 for rows that are too short for every session, first of all; then the session's refusal.
abbrev pub whole_number : List ℕ → List ℕ → ℕ
whole_number s rows = cond (ltb (length rows) rows_bytes) 6 (session_refusal s)

-- The rows are what `deskcheck` says of the session; the bytes past them stay.
pub record RowsOf (s b b' : List ℕ) : Type 0 where
  pub lines : rows_in b' (session s).pass_count ≡ deskcheck s
  pub rest : drop (row_bytes * (session s).pass_count) b' ≡ drop (row_bytes * (session s).pass_count) b

-- What deskcheck_session promises of the session's bytes s, the rows b before the call, the number, and the rows b' after it.
pub record WholePromise (s b : List ℕ) (n : ℕ) (b' : List ℕ) : Type 0 where
  pub number : n ≡ whole_number s b
  -- Of a readable session every pass has its row,
  pub rows : n ≡ 0 → RowsOf s b b'
  -- and a refusal leaves every byte.
  pub refused : n ≢ 0 → b' ≡ b
