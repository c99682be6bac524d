-- What `deskcheck` prints: nine numbers a pass, or the number of a refused session.
use Rattle.std.specs.Prelude.{ℕ, zero, suc, ◌+◌, List, [], ◌∷◌, Bool, ◌||◌, cond, length, eqb}
use Rattle.definition.specs.Session.{Session, Pass, session}
use Rattle.definition.specs.Readable.{session_refusal}
use Rattle.definition.specs.MemoryInit.{Lists}
use Rattle.definition.specs.Pass.{Outcome, check_pass}
use Rattle.definition.specs.Submission.{submit_lists}
use Rattle.definition.specs.Calls.{no_entries}

-- Pass, refusal, place, earlier place, width, height, samples, clears returned, length of the discard list before any submission.
abbrev pub line : ℕ → Outcome → List ℕ
line k o =
    k ∷ o.reply.verdict.number ∷ o.reply.verdict.place ∷ o.reply.verdict.earlier
    ∷ o.reply.width ∷ o.reply.height ∷ o.reply.samples
    ∷ length o.reply.clears ∷ length o.lists.discards ∷ []

-- A buffer ends at flag 1 and at the last pass, also after a refusal.
abbrev pub ends_buffer : Pass → ℕ → Bool
ends_buffer p left = eqb p.ends 1 || eqb left 0

abbrev pub next_lists : Pass → ℕ → Lists → Lists
next_lists p left l = cond (ends_buffer p left) (submit_lists l) l

-- From pass k, n to go, from the lists l. (No line depends on the status bytes.)
abbrev pub lines : Session → ℕ → ℕ → Lists → List (List ℕ)
lines S k zero l = []
lines S k (suc n) l =
    let o = check_pass S (S.pass k) l in
    line k o ∷ lines S (k + 1) n (next_lists (S.pass k) n o.lists)

-- A refused session is one line of its number.
unfoldable pub deskcheck : List ℕ → List (List ℕ)
deskcheck s =
    cond (eqb (session_refusal s) 0) (lines (session s) 0 (session s).pass_count no_entries)
    ((session_refusal s ∷ []) ∷ [])
