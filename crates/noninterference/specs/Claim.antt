-- Demand 3: what is claimed of a session, for any list of calls from any fresh state and after each of them.
use Rattle.std.specs.Prelude.{◌≡◌, Bool, true, false, not, ◌&&◌, ◌||◌, List, [], ◌∷◌, ◌++◌, ℕ, zero, suc, ltb, take, replicate}
use Rattle.std.proofs.Math.Option.{Option, none, some}
use Rattle.definition.specs.Bytes.{bit}
use Rattle.definition.specs.Session.{Session, surface_count}
use Rattle.definition.specs.Verdict.{is_accepted}
use Rattle.definition.specs.Status.{filled}
use Rattle.definition.specs.Calls.{State, no_entries, Call, pass, submit, Answer, checked, submitted, answers, after}
use Rattle.definition.specs.declared.Surface.{Surface}
use Rattle.definition.specs.declared.View.{View}
use Rattle.definition.specs.declared.Attachment.{Attachment}
use Rattle.laws.specs.Surfaces.{Inside}
use Rattle.noninterference.specs.Memory.{Aspect, has_aspect, Part, Use, Told, Event, refused, accepted, done, events, Cells, Drawing, Contents, byte_of, use_at, loaded, cells}

-- ── where the calls start

-- A state is fresh for a session: no entries, and a status byte of 0 for each surface. Behind these the bytes are anything.
pub record Fresh (S : Session) (σ : State) : Type 0 where
  pub lists : σ.lists ≡ no_entries
  pub status : take (surface_count S) σ.status ≡ replicate (surface_count S) 0

-- ── masks

-- The mask has each bit below n.
abbrev pub bits_set : (mask n : ℕ) → Bool
bits_set mask zero = true
bits_set mask (suc n) = bits_set mask n && bit mask n

-- It names all layers of a view of several; and so of each view that a pass uses.
abbrev pub names_layers : (mask : ℕ) → View → Bool
names_layers mask v = ltb v.layers 2 || bits_set mask v.layers

abbrev pub names_all : Session → (mask : ℕ) → List Attachment → Bool
names_all S mask [] = true
names_all S mask (x ∷ xs) = names_layers mask (S.view x.view) && names_all S mask xs

-- A call by its answer: if it is an accepted pass, its mask does so; and so of each call.
abbrev pub call_masked : Session → Call → Answer → Bool
call_masked S (pass i) (checked r) = not (is_accepted r.verdict) || names_all S (S.pass i).mask r.attachments
call_masked S submit (checked r) = true
call_masked S c (submitted number status) = true

abbrev pub all_masked : Session → List Call → List Answer → Bool
all_masked S [] rest = true
all_masked S (c ∷ cs) [] = true
all_masked S (c ∷ cs) (a ∷ rest) = call_masked S c a && all_masked S cs rest

-- Every accepted pass of the run that uses a view of several layers has a mask that names all its layers.
abbrev pub Masked : Session → State → List Call → Type 0
Masked S σ calls = all_masked S calls (answers S calls σ) ≡ true

-- ── what the calls tell, and what they leave, from a state σ

-- The memory is told what the calls answer.
abbrev pub heard : Session → State → List Call → List Event
heard S σ calls = events S 0 calls (answers S calls σ)

-- The status byte of a surface after the calls.
abbrev pub byte_at : Session → State → List Call → Surface → ℕ
byte_at S σ calls s = byte_of S (after S calls σ).status s

-- What the passes load or clear to, pass by pass, and the memory after the calls.
abbrev pub loaded_by : {Val : Type 0} → Drawing Val → Contents Val → Session → State → List Call → List (List Val)
loaded_by D c S σ calls = loaded D c.left S (heard S σ calls) [] c.first

abbrev pub memory_after : {Val : Type 0} → Drawing Val → Contents Val → Session → State → List Call → Cells Val
memory_after D c S σ calls = cells D c.left S (heard S σ calls) [] c.first

-- ── the last pass that had a surface

-- The passes submitted, in order, after hs and with ws waiting.
abbrev pub submitted_from : List Event → List Told → List Told → List Told
submitted_from [] hs ws = hs
submitted_from (refused ∷ es) hs ws = submitted_from es hs ws
submitted_from (accepted w ∷ es) hs ws = submitted_from es hs (ws ++ (w ∷ []))
submitted_from (done status ∷ es) hs ws = submitted_from es (hs ++ ws) []

abbrev pub submitted_passes : Session → State → List Call → List Told
submitted_passes S σ calls = submitted_from (heard S σ calls) [] []

-- What the last of the passes that had the surface as an attachment did there, or else o.
abbrev pub later : Option Use → Option Use → Option Use
later none o = o
later (some u) o = some u

abbrev pub last_use : Option Use → List Told → Surface → Option Use
last_use o [] s = o
last_use o (w ∷ ws) s = last_use (later (use_at s w.uses) o) ws s

-- There is one, and it did not discard the surface in every aspect.
abbrev pub all_discarded : List Part → Bool
all_discarded [] = true
all_discarded (q ∷ qs) = not q.keep && all_discarded qs

abbrev pub kept : Option Use → Bool
kept none = false
kept (some u) = not (all_discarded u.parts)

-- ── the claim

-- Two memories have the same values in a surface.
abbrev pub Agree : {Val : Type 0} → Session → Surface → Cells Val → Cells Val → Type 0
Agree S s m n = (a : Aspect) → has_aspect S s a ≡ true → m s a ≡ n s a

-- Two runs over the same calls with the same drawing; the contents at the start and after each discard are c in one and c' in the other.
pub record Hidden {Val : Type 0} (D : Drawing Val) (c c' : Contents Val) (S : Session) (σ : State) (calls : List Call) : Type 0 where
  -- They load equal values everywhere.
  pub loads : loaded_by D c S σ calls ≡ loaded_by D c' S σ calls
  -- After the first n calls, for every n: filled are exactly the surfaces that some submitted pass had as an attachment and that the last
  -- such pass did not discard in every aspect,
  pub marks : (n : ℕ) (s : Surface) → Inside S s
      → filled (byte_at S σ (take n calls) s) ≡ kept (last_use none (submitted_passes S σ (take n calls)) s)
  -- and these are equal in both.
  pub equal : (n : ℕ) (s : Surface) → Inside S s → filled (byte_at S σ (take n calls) s) ≡ true
      → Agree S s (memory_after D c S σ (take n calls)) (memory_after D c' S σ (take n calls))

-- For every type of values, drawing, contents at the start and after discards, fresh state, and list of calls whose masks name all layers.
abbrev pub Claim : Session → Type 1
Claim S =
    (Val : Type 0) (D : Drawing Val) (c c' : Contents Val) (σ : State) → Fresh S σ
    → (calls : List Call) → Masked S σ calls → Hidden D c c' S σ calls
