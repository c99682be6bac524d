-- A call at an entry point: a short buffer is 6 first of all, then the session's own refusal, then the call.
use Rattle.std.specs.Prelude.{ℕ, List, false, cond, ◌≡◌, eqb}
use Rattle.definition.specs.Session.{session}
use Rattle.definition.specs.Readable.{session_refusal}
use Rattle.definition.specs.Verdict.{nowhere, refused_at}
use Rattle.definition.specs.Pass.{refusal}
use Rattle.definition.specs.Calls.{State, Call, pass, submit, Answer, checked, submitted, Step, lent_valid, call}
use Rattle.buffer_validation.specs.Buffers.{Buffers, held_in, too_short}

-- Refused as n: everything stays as found.
abbrev pub refused_call : ℕ → Call → State → Step
refused_call n (pass i) σ = record { state = σ; answer = checked (refusal (refused_at n nowhere)) }
refused_call n submit σ = record { state = σ; answer = submitted n σ.status }

-- The number of an answer.
abbrev pub number_in : Answer → ℕ
number_in (checked r) = r.verdict.number
number_in (submitted n status) = n

-- The session's bytes, the call, and what is lent.
unfoldable pub entry : List ℕ → Call → Buffers → Step
entry s k b =
    cond (too_short b) (refused_call 6 k (held_in b))
    (cond (eqb (session_refusal s) 0) (call (session s) k (held_in b))
    (refused_call (session_refusal s) k (held_in b)))

-- The buffers are long enough and the session is readable.
pub record Opened (s : List ℕ) (b : Buffers) : Type 0 where
  pub long : too_short b ≡ false
  pub readable : session_refusal s ≡ 0

-- What refuses a call before it is judged: 6 for a short buffer, the session's own refusal, 6 for what is lent, or nothing.
unfoldable pub entry_refusal : List ℕ → Buffers → ℕ
entry_refusal s b =
    cond (too_short b) 6
    (cond (eqb (session_refusal s) 0) (cond (lent_valid (session s) (held_in b)) 0 6)
    (session_refusal s))
