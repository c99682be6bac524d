-- Calls of deskcheck_pass and deskcheck_submit one after the other, each handed the buffers that the one before left.
use Rattle.std.specs.Prelude.{ℕ, zero, suc, ◌≡◌, false, List, [], ◌∷◌, eqb, take, replicate}
use Rattle.definition.specs.Session.{session, surface_count}
use Rattle.definition.specs.Calls.{Call, pass, submit, Answer, checked, submitted}
use Rattle.lists.specs.Lists.{count_in, surfaces_in}
use Rattle.buffer_validation.specs.Buffers.{Buffers, too_short}
use Rattle.render_pass.specs.declared.Reply.{Reply}
use Rattle.desk.specs.Promise.{PassPromise, SubmitPromise}

-- ── where a run starts

-- Buffers that are fresh for a session: long enough, no entries, and a status byte of 0 for each surface. All other bytes are anything.
pub record FreshBuffers (s : List ℕ) (b : Buffers) : Type 0 where
  pub long : too_short b ≡ false
  pub discards : count_in b.lists.discards ≡ 0
  pub actions : count_in b.lists.actions ≡ 0
  pub clears : count_in b.lists.clears ≡ 0
  pub status : take (surface_count (session s)) b.status ≡ replicate (surface_count (session s)) 0

-- ── one call

-- What a caller is told: the reply to the check of pass i, or a submission's number.
pub data Told : Type 0 where
  of_pass : ℕ → Reply → Told
  of_submit : ℕ → Told

-- The call that it is told of.
abbrev pub call_of : Told → Call
call_of (of_pass i r) = pass i
call_of (of_submit n) = submit

-- What the function promises of the call.
abbrev pub Promised : List ℕ → Buffers → Told → Buffers → Type 0
Promised s b (of_pass i r) b' = PassPromise s i b r b'
Promised s b (of_submit n) b' = SubmitPromise s b n b'

-- ── call after call

-- What is told, and the buffers after the call.
pub record Turn : Type 0 where
  pub told : Told
  pub left : Buffers

-- Each call keeps its function's promise, from the buffers that the one before left.
abbrev pub Run : List ℕ → Buffers → List Turn → Type 0
Run s b [] = Unit
Run s b (t ∷ ts) = Promised s b t.told t.left × Run s t.left ts

-- The calls.
abbrev pub calls_of : List Turn → List Call
calls_of [] = []
calls_of (t ∷ ts) = call_of t.told ∷ calls_of ts

-- The buffers after the first n calls.
abbrev pub buffers_after : Buffers → List Turn → ℕ → Buffers
buffers_after b ts zero = b
buffers_after b [] (suc n) = b
buffers_after b (t ∷ ts) (suc n) = buffers_after t.left ts n

-- ── what a caller reads

-- In a reply, and in the buffers after it.
abbrev pub read_in : Told → Buffers → Answer
read_in (of_pass i r) b = checked (record {
  verdict = record { number = r.number; place = r.place; earlier = r.earlier };
  width = r.width;
  height = r.height;
  samples = r.samples;
  depth_read_only = eqb r.depth_read_only 1;
  stencil_read_only = eqb r.stencil_read_only 1;
  attachments = take r.count r.attachments;
  divergent = r.divergent;
  clears = take r.clears (surfaces_in b.lists.clears);
})
read_in (of_submit n) b = submitted n b.status

-- Of each call, in the buffers after it.
abbrev pub answers_in : List Turn → List Answer
answers_in [] = []
answers_in (t ∷ ts) = read_in t.told t.left ∷ answers_in ts
