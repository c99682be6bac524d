-- The theorems as statements: demand 3, and what stands beside it. proofs/Theorem.antt has a proof of each.
use Rattle.std.specs.Prelude.{◌≡◌, Bool, true, false, cond, List, [], ◌∷◌, ◌++◌, ℕ, zero, suc, ◌+◌, take}
use Rattle.definition.specs.Session.{Session, session, strict}
use Rattle.definition.specs.Readable.{session_refusal}
use Rattle.definition.specs.Status.{filled, cleared}
use Rattle.definition.specs.Calls.{State, fresh, Call, pass, submit, Answer, checked, submitted, lent_valid, call, answers, after}
use Rattle.definition.specs.Program.{line, ends_buffer, deskcheck}
use Rattle.definition.specs.declared.Surface.{Surface}
use Rattle.laws.specs.Surfaces.{Inside}
use Rattle.noninterference.specs.Claim.{Fresh, byte_at, Claim}

-- The condition on a session: P of every byte string that is a readable session with the strict flag.
abbrev pub OfStrictSessions : (List ℕ → Type 1) → Type 1
OfStrictSessions P =
    (s : List ℕ) → session_refusal s ≡ 0
    → strict (session s) ≡ true
    → P s

-- Demand 3.
abbrev pub DemandThree : Type 1
DemandThree = OfStrictSessions (λ s. Claim (session s))

-- What the first n calls answer is the first n of what all of them answer.
abbrev pub FirstAnswers : Type 0
FirstAnswers = (S : Session) (calls : List Call) (σ : State) (n : ℕ) → answers S (take n calls) σ ≡ take n (answers S calls σ)

-- A submission clears only empty surfaces,
abbrev pub Spares : Type 0
Spares =
    (s : List ℕ) → session_refusal s ≡ 0
    → (σ : State) → Fresh (session s) σ
    → (calls : List Call) (x : Surface) → Inside (session s) x
    → filled (byte_at (session s) σ calls x) ≡ true
    → cleared (byte_at (session s) σ (calls ++ (submit ∷ [])) x) ≡ false

-- and forgets the 2 of earlier ones: one that nothing waits for leaves no 2.
abbrev pub Forgets : Type 0
Forgets =
    (s : List ℕ) → session_refusal s ≡ 0
    → (σ : State) → Fresh (session s) σ
    → (calls : List Call) (x : Surface) → Inside (session s) x
    → cleared (byte_at (session s) σ (calls ++ (submit ∷ submit ∷ [])) x) ≡ false

-- From a fresh state number 6 never refuses: after any calls, what is left can be lent.
abbrev pub NeverSix : Type 0
NeverSix =
    (s : List ℕ) → session_refusal s ≡ 0
    → (σ : State) → Fresh (session s) σ
    → (calls : List Call) → lent_valid (session s) (after (session s) calls σ) ≡ true

-- The definition's `fresh`, with as many status bytes as there may be surfaces, is fresh for every readable session.
abbrev pub FreshStarts : Type 0
FreshStarts = (s : List ℕ) → session_refusal s ≡ 0 → Fresh (session s) fresh

-- The line of a pass, from its call's answer and the state that it left.
abbrev pub line_of : ℕ → Answer → State → List ℕ
line_of k (checked r) σ = line k (record { reply = r; lists = σ.lists })
line_of k (submitted n status) σ = []

-- From pass k, n to go, from the state σ: each pass is checked, and the buffer submitted where it ends.
abbrev pub end_state : Session → Bool → State → State
end_state S ends σ = cond ends (call S submit σ).state σ

abbrev pub printed : Session → ℕ → ℕ → State → List (List ℕ)
printed S k zero σ = []
printed S k (suc n) σ =
    line_of k (call S (pass k) σ).answer (call S (pass k) σ).state
    ∷ printed S (k + 1) n (end_state S (ends_buffer (S.pass k) n) (call S (pass k) σ).state)

-- `deskcheck` prints what the calls answer from a fresh state.
abbrev pub Prints : Type 0
Prints =
    (s : List ℕ) → session_refusal s ≡ 0
    → (σ : State) → Fresh (session s) σ
    → deskcheck s ≡ printed (session s) 0 (session s).pass_count σ
