-- The calls: pass checks and submissions, each given what the one before left; number 6 of what is lent.
use Rattle.std.specs.Prelude.{ℕ, zero, suc, ◌+◌, ◌-◌, List, [], ◌∷◌, Bool, true, false, ◌&&◌, cond, length, replicate, leb, ltb}
use Rattle.definition.specs.Sizes.{max_surfaces, max_discards, max_actions, max_clears}
use Rattle.definition.specs.Session.{Session, array_layers, slices_in, surface_count, surfaces_of}
use Rattle.definition.specs.Verdict.{nowhere, refused_at}
use Rattle.definition.specs.MemoryInit.{Lists}
use Rattle.definition.specs.Pass.{Reply, refusal, Outcome, refused_pass, check_pass}
use Rattle.definition.specs.Submission.{submit_bytes, submit_lists}
use Rattle.definition.specs.declared.Surface.{Surface}
use Rattle.definition.specs.declared.Range.{Range}
use Rattle.definition.specs.declared.Action.{Action}

pub record State : Type 0 where
  pub lists : Lists
  pub status : List ℕ

-- A fresh session has status 0 and no entries.
abbrev pub no_entries : Lists
no_entries = record { discards = []; actions = []; clears = [] }

abbrev pub fresh : State
fresh = record { lists = no_entries; status = replicate max_surfaces 0 }

-- ── 6, after 4: counts, records and status bytes in range

unfoldable pub surface_valid : Session → Surface → Bool
surface_valid S s =
    ltb s.texture S.texture_count && ltb s.mip (S.texture s.texture).mips && ltb s.layer (array_layers (S.texture s.texture))
    && ltb s.slice (slices_in (S.texture s.texture) s.mip)

-- Its slice is one of each of its mips: of the last, which has the fewest.
unfoldable pub range_valid : Session → Range → Bool
range_valid S r =
    ltb r.texture S.texture_count
    && leb 1 r.mips && leb (r.mip + r.mips) (S.texture r.texture).mips
    && leb 1 r.layers && leb (r.layer + r.layers) (array_layers (S.texture r.texture))
    && ltb r.slice (slices_in (S.texture r.texture) (r.mip + r.mips - 1))

abbrev pub surfaces_valid : Session → List Surface → Bool
surfaces_valid S [] = true
surfaces_valid S (s ∷ rest) = surface_valid S s && surfaces_valid S rest

abbrev pub actions_valid : Session → List Action → Bool
actions_valid S [] = true
actions_valid S (a ∷ rest) = range_valid S a.range && actions_valid S rest

-- Of the first n bytes: bytes past the last surface are not tested.
abbrev pub bytes_valid : ℕ → List ℕ → Bool
bytes_valid zero bytes = true
bytes_valid (suc n) [] = false
bytes_valid (suc n) (b ∷ bytes) = leb b 3 && bytes_valid n bytes

unfoldable pub counts_valid : Lists → Bool
counts_valid l = leb (length l.discards) max_discards && leb (length l.actions) max_actions && leb (length l.clears) max_clears

unfoldable pub lent_valid : Session → State → Bool
lent_valid S σ =
    counts_valid σ.lists
    && surfaces_valid S σ.lists.discards && actions_valid S σ.lists.actions && surfaces_valid S σ.lists.clears
    && bytes_valid (surface_count S) σ.status

-- ── the calls

-- The check of pass i, or a submission.
pub data Call : Type 0 where
  pass : ℕ → Call
  submit : Call

-- What a call answers: a pass's reply, or a submission's number and the status bytes after it.
pub data Answer : Type 0 where
  checked : Reply → Answer
  submitted : ℕ → List ℕ → Answer

pub record Step : Type 0 where
  pub state : State
  pub answer : Answer

-- A pass number at or past the count is refused as 5.
unfoldable pub pass_call : Session → ℕ → Lists → Outcome
pass_call S i l = cond (ltb i S.pass_count) (check_pass S (S.pass i) l) (refused_pass (refused_at 5 nowhere) l)

abbrev pub submit_state : Session → State → State
submit_state S σ = record
    { lists = submit_lists σ.lists; status = submit_bytes σ.lists.actions σ.lists.discards (surfaces_of S) σ.status }

abbrev pub pass_step : Outcome → State → Step
pass_step o σ = record { state = record { lists = o.lists; status = σ.status }; answer = checked o.reply }

abbrev pub submit_step : State → Step
submit_step σ = record { state = σ; answer = submitted 0 σ.status }

-- Where what is lent is valid.
abbrev pub called : Session → Call → State → Step
called S (pass i) σ = pass_step (pass_call S i σ.lists) σ
called S submit σ = submit_step (submit_state S σ)

-- Where it is not: everything stays as found.
abbrev pub not_lent : Call → State → Step
not_lent (pass i) σ = record { state = σ; answer = checked (refusal (refused_at 6 nowhere)) }
not_lent submit σ = record { state = σ; answer = submitted 6 σ.status }

unfoldable pub call : Session → Call → State → Step
call S c σ = cond (lent_valid S σ) (called S c σ) (not_lent c σ)

-- The calls in order, from the state σ: the answers, and the state that is left.
abbrev pub answers : Session → List Call → State → List Answer
answers S [] σ = []
answers S (c ∷ cs) σ = (call S c σ).answer ∷ answers S cs (call S c σ).state

abbrev pub after : Session → List Call → State → State
after S [] σ = σ
after S (c ∷ cs) σ = after S cs (call S c σ).state
