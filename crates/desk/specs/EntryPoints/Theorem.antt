-- Demand 3 of any run of the C functions from fresh buffers: the memory is told what a caller reads in the replies and the buffers.
use Rattle.std.specs.Prelude.{ℕ, ◌≡◌, true, List, [], take}
use Rattle.std.proofs.Math.Option.{none}
use Rattle.definition.specs.Session.{session}
use Rattle.definition.specs.Readable.{session_refusal}
use Rattle.definition.specs.Status.{filled}
use Rattle.definition.specs.Calls.{Call, called}
use Rattle.definition.specs.declared.Surface.{Surface}
use Rattle.laws.specs.Surfaces.{Inside}
use Rattle.noninterference.specs.Memory.{Cells, Drawing, Contents, Event, events, byte_of, loaded, cells}
use Rattle.noninterference.specs.Claim.{all_masked, submitted_from, last_use, kept, Agree}
use Rattle.noninterference.specs.Theorem.{OfStrictSessions}
use Rattle.buffer_validation.specs.Buffers.{Buffers, held_in}
use Rattle.desk.specs.Entry.{entry}
use Rattle.desk.specs.EntryPoints.Run.{FreshBuffers, Turn, Run, calls_of, buffers_after, answers_in}

-- Every accepted pass of the run that uses a view of several layers has a mask that names all its layers.
abbrev pub MaskedIn : List ℕ → List Turn → Type 0
MaskedIn s ts = all_masked (session s) (calls_of ts) (answers_in ts) ≡ true

-- A surface's status byte after the first n calls.
abbrev pub byte_after_calls : List ℕ → Buffers → List Turn → ℕ → Surface → ℕ
byte_after_calls s b ts n x = byte_of (session s) (buffers_after b ts n).status x

-- What the memory is told of the first n calls.
abbrev pub heard_first : List ℕ → List Turn → ℕ → List Event
heard_first s ts n = events (session s) 0 (take n (calls_of ts)) (take n (answers_in ts))

-- What the passes load or clear to.
abbrev pub loaded_in : {Val : Type 0} → Drawing Val → Contents Val → List ℕ → List Turn → List (List Val)
loaded_in D c s ts = loaded D c.left (session s) (events (session s) 0 (calls_of ts) (answers_in ts)) [] c.first

-- The memory after the first n calls.
abbrev pub memory_in : {Val : Type 0} → Drawing Val → Contents Val → List ℕ → List Turn → ℕ → Cells Val
memory_in D c s ts n = cells D c.left (session s) (heard_first s ts n) [] c.first

-- Two runs with the same drawing over the same calls; the contents at the start and after each discard are c in one and c' in the other.
pub record HiddenIn {Val : Type 0} (D : Drawing Val) (c c' : Contents Val) (s : List ℕ) (b : Buffers) (ts : List Turn) : Type 0 where
  -- They load equal values everywhere.
  pub loads : loaded_in D c s ts ≡ loaded_in D c' s ts
  -- After the first n calls, filled are exactly the surfaces that some submitted pass had and that the last such pass kept in some aspect,
  pub marks : (n : ℕ) (x : Surface) → Inside (session s) x
      → filled (byte_after_calls s b ts n x) ≡ kept (last_use none (submitted_from (heard_first s ts n) [] []) x)
  -- and these are equal in both.
  pub equal : (n : ℕ) (x : Surface) → Inside (session s) x → filled (byte_after_calls s b ts n x) ≡ true
      → Agree (session s) x (memory_in D c s ts n) (memory_in D c' s ts n)

-- Of every run of a strict session from fresh buffers whose masks name all layers.
abbrev pub DemandThreeOfCalls : Type 1
DemandThreeOfCalls =
    OfStrictSessions (λ s.
    (b : Buffers) → FreshBuffers s b
    → (ts : List Turn) → Run s b ts → MaskedIn s ts
    → (Val : Type 0) (D : Drawing Val) (c c' : Contents Val) → HiddenIn D c c' s b ts)

-- From fresh buffers number 6 never arises: after any calls, every call is the definition's, of what is lent.
abbrev pub NeverSixOfCalls : Type 0
NeverSixOfCalls =
    (s : List ℕ) → session_refusal s ≡ 0
    → (b : Buffers) → FreshBuffers s b
    → (ts : List Turn) → Run s b ts
    → (n : ℕ) (k : Call) → entry s k (buffers_after b ts n) ≡ called (session s) k (held_in (buffers_after b ts n))
