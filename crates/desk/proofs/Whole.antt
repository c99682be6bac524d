-- What the whole session in one call leaves in the rows of a session that is read: what `deskcheck` says.
use mathlib.Core.Path.{◌≡◌, refl, sym, ◌∙◌}
use mathlib.Core.List.{List}
use Prim.Native.Nat.{ℕ, ◌*◌, ◌≤◌}
use lib.Dec.{ltb}
use lib.ListN.{length, drop}
use borrow.Author.Tests.{le-ltb}
use Rattle.definition.specs.Sizes.{row_bytes, rows_bytes}
use Rattle.definition.specs.Session.{session}
use Rattle.definition.specs.Readable.{session_refusal}
use Rattle.definition.specs.Program.{deskcheck}
use Rattle.laws.proofs.Tests.{cond_off}
use Rattle.whole_session.specs.Rows.{rows_in}
use Rattle.desk.specs.Whole.{WholePromise}

-- Every pass has its row.
pub whole_read : (s b b' : List ℕ) → rows_bytes ≤ length b → session_refusal s ≡ 0 → rows_in b' (session s).pass_count ≡ deskcheck s
    → drop (row_bytes * (session s).pass_count) b' ≡ drop (row_bytes * (session s).pass_count) b → WholePromise s b 0 b'
whole_read s b b' h g rows rest = record {
  number = sym (cond_off (ltb (length b) rows_bytes) _ _ (le-ltb (length b) rows_bytes h) ∙ g);
  rows = λ _. record { lines = rows; rest = rest };
  refused = λ z. absurd (z refl);
}
