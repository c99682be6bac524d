-- The claim for a session whose accepted passes are sound, by induction over the calls, whose masks name all layers: each call keeps the invariant, and what is left to
-- say is said of the rest.
use mathlib.Core.Path.{◌≡◌, refl, sym, ap, ap₂, subst}
use mathlib.Core.Bool.{Bool, true, false, ◌&&◌, cond}
use mathlib.Core.List.{List, [], ◌∷◌, ◌++◌, map}
use mathlib.Core.Option.{none}
use Prim.Native.Nat.{ℕ, zero, suc, ◌+◌}
use lib.Dec.{ltb}
use lib.ListN.{take}
use Rattle.definition.specs.Session.{Session, Pass}
use Rattle.definition.specs.Status.{filled}
use Rattle.definition.specs.Verdict.{nowhere, is_accepted, refused_at}
use Rattle.definition.specs.Check.{check}
use Rattle.definition.specs.Attachments.{Attached, attachments}
use Rattle.definition.specs.Pass.{attachment_reply, new_pass, pass_verdict, refusal, room_verdict, accepted_pass, refused_pass, outcome, check_pass}
use Rattle.definition.specs.Calls.{State, Call, pass, submit, Step, Answer, checked, submitted, lent_valid, pass_call, pass_step, submit_step, submit_state, called, not_lent, call, answers, after}
use Rattle.definition.specs.declared.Surface.{Surface}
use Rattle.laws.specs.Surfaces.{Inside}
use Rattle.laws.proofs.Tests.{and_left, and_right, and_on}
use Rattle.laws.proofs.Verdicts.{then_left}
use Rattle.noninterference.specs.Memory.{Told, Event, refused, accepted, event, events, Cells, Drawing, Contents, byte_of, loaded, cells}
use Rattle.noninterference.specs.Claim.{Fresh, names_all, call_masked, all_masked, Masked, Agree, submitted_from, last_use, kept, Claim}
use Rattle.noninterference.proofs.Passes.{All, Distinct}
use Rattle.noninterference.proofs.Sound.{Sound, Fit}
use Rattle.noninterference.proofs.Invariant.{pass_state, Inv, start, now, pass_inv, submit_shown, submit_inv}

-- The claim of what is left to come: from the submitted passes hs, the waiting passes ws and two memories, over the events es, to the state σ.
record Going {Val : Type 0} (D : Drawing Val) (left left' : ℕ → Cells Val) (S : Session) (es : List Event) (σ : State) (hs ws : List Told) (m m' : Cells Val) : Type 0 where
  loads : loaded D left S es ws m ≡ loaded D left' S es ws m'
  marks : (s : Surface) → Inside S s → filled (byte_of S σ.status s) ≡ kept (last_use none (submitted_from es hs ws) s)
  equal : (s : Surface) → Inside S s → filled (byte_of S σ.status s) ≡ true → Agree S s (cells D left S es ws m) (cells D left' S es ws m')

module _ {Val : Type 0} (D : Drawing Val) (left left' : ℕ → Cells Val) (S : Session) where
  abbrev Rest : List Call → ℕ → Type 0
  Rest cs n =
      (σ : State) (hs ws : List Told) (m m' : Cells Val) → Inv D left left' S σ hs ws m m'
      → all_masked S cs (answers S cs σ) ≡ true
      → Going D left left' S (events S n cs (answers S cs σ)) (after S cs σ) hs ws m m'

  module _ (fit : Fit S) (cs : List Call) (n : ℕ) (rest : Rest cs (n + 1)) (σ : State) (hs ws : List Told) (m m' : Cells Val)
      (inv : Inv D left left' S σ hs ws m m') where
    abbrev AfterEvent : Event → State → Type 0
    AfterEvent e τ = Going D left left' S (e ∷ events S (n + 1) cs (answers S cs τ)) (after S cs τ) hs ws m m'

    -- If the masks of this call and of those after it name all layers.
    abbrev After : Call → Step → Type 0
    After c t = (call_masked S c t.answer && all_masked S cs (answers S cs t.state)) ≡ true → AfterEvent (event S n c t.answer) t.state

    -- A refused call does nothing.
    after_refused : (c : Call) (a : Answer) → event S n c a ≡ refused → After c (record { state = σ; answer = a })
    after_refused c a e h =
        let g : Going D left left' S (events S (n + 1) cs (answers S cs σ)) (after S cs σ) hs ws m m' = rest σ hs ws m m' inv (and_right (call_masked S c a) _ h) in
        subst (λ v. AfterEvent v σ) (sym e) (record { loads = g.loads; marks = g.marks; equal = g.equal })

    -- An accepted pass waits.
    after_pass : (xs : List Attached) (so : All (Sound S) xs) (di : Distinct xs) → all_masked S cs (answers S cs (pass_state xs σ)) ≡ true
        → AfterEvent (accepted (now D left left' S xs so di σ n)) (pass_state xs σ)
    after_pass xs so di h =
        let w : Told = now D left left' S xs so di σ n in
        let g : Going D left left' S (events S (n + 1) cs (answers S cs (pass_state xs σ))) (after S cs (pass_state xs σ)) hs (ws ++ (w ∷ [])) m m' =
        rest (pass_state xs σ) hs (ws ++ (w ∷ [])) m m' (pass_inv D left left' S xs so di σ n hs ws m m' inv) h in
        record { loads = g.loads; marks = g.marks; equal = g.equal }

    after_accepted : (i : ℕ) → is_accepted (check S (S.pass i)).verdict ≡ true
        → After (pass i) (pass_step (accepted_pass S (check S (S.pass i)).seen (attachments S (S.pass i)) σ.lists) σ)
    after_accepted i e h =
        let p : Pass = S.pass i in
        let named : Bool = names_all S p.mask (map (attachment_reply S) (attachments S p)) in
        subst (λ v. AfterEvent (accepted v) (pass_state (attachments S p) σ)) (sym (fit.tells p e (and_left named _ h) n (check S p).seen _))
        (after_pass (attachments S p) (fit.sound p e) (fit.distinct p e) (and_right named _ h))

    after_check : (i : ℕ) → After (pass i) (pass_step (check_pass S (S.pass i) σ.lists) σ)
    unfolding check_pass outcome
    after_check i = go (is_accepted (pass_verdict (check S p) (attachments S p) σ.lists)) refl
      where
        p : Pass
        p = S.pass i

        go : (b : Bool) → is_accepted (pass_verdict (check S p) (attachments S p) σ.lists) ≡ b
            → After (pass i) (pass_step (cond b (accepted_pass S (check S p).seen (attachments S p) σ.lists) (refused_pass (pass_verdict (check S p) (attachments S p) σ.lists) σ.lists)) σ)
        go true e = after_accepted i (then_left (check S p).verdict (room_verdict (attachments S p) (new_pass σ.lists)) e)
        go false e = after_refused (pass i) (checked (refusal (pass_verdict (check S p) (attachments S p) σ.lists))) (rw e)

    -- A submission runs what waits.
    after_submit : After submit (submit_step (submit_state S σ))
    after_submit h =
        let g : Going D left left' S (events S (n + 1) cs (answers S cs (submit_state S σ))) (after S cs (submit_state S σ)) (hs ++ ws) [] _ _ =
        rest (submit_state S σ) (hs ++ ws) [] _ _ (submit_inv D left left' S σ hs ws m m' inv) h in
        record { loads = ap₂ ◌++◌ (submit_shown D left left' S σ hs ws m m' inv) g.loads; marks = g.marks; equal = g.equal }

    after_called : (c : Call) → After c (called S c σ)
    unfolding pass_call
    after_called (pass i) = go (ltb i S.pass_count)
      where
        go : (b : Bool) → After (pass i) (pass_step (cond b (check_pass S (S.pass i) σ.lists) (refused_pass (refused_at 5 nowhere) σ.lists)) σ)
        go true = after_check i
        go false = after_refused (pass i) (checked (refusal (refused_at 5 nowhere))) refl
    after_called submit = after_submit

    after_not_lent : (c : Call) → After c (not_lent c σ)
    after_not_lent (pass i) = after_refused (pass i) (checked (refusal (refused_at 6 nowhere))) refl
    after_not_lent submit = after_refused submit (submitted 6 σ.status) refl

    after_call : (c : Call) → After c (call S c σ)
    unfolding call
    after_call c = go (lent_valid S σ)
      where
        go : (b : Bool) → After c (cond b (called S c σ) (not_lent c σ))
        go true = after_called c
        go false = after_not_lent c

  all_calls : Fit S → (cs : List Call) (n : ℕ) → Rest cs n
  all_calls fit [] n σ hs ws m m' inv h = record { loads = refl; marks = inv.past; equal = inv.agree }
  all_calls fit (c ∷ cs) n σ hs ws m m' inv h = after_call fit cs n (all_calls fit cs (n + 1)) σ hs ws m m' inv c h

-- From a fresh state, for any list of calls; and for each list of first calls.
from_fresh : {Val : Type 0} (D : Drawing Val) (c c' : Contents Val) (S : Session) → Fit S → (σ : State) → Fresh S σ → (calls : List Call) → Masked S σ calls
    → Going D c.left c'.left S (events S 0 calls (answers S calls σ)) (after S calls σ) [] [] c.first c'.first
from_fresh D c c' S fit σ new calls h =
    all_calls D c.left c'.left S fit calls 0 σ [] [] c.first c'.first (start D c.left c'.left S σ new c.first c'.first) h

-- The first of calls whose masks name all layers are such calls.
first_masked : (S : Session) (n : ℕ) (calls : List Call) (σ : State) → Masked S σ calls → Masked S σ (take n calls)
first_masked S zero calls σ h = refl
first_masked S (suc n) [] σ h = refl
first_masked S (suc n) (c ∷ cs) σ h =
    let one : Bool = call_masked S c (call S c σ).answer in
    and_on one _ (and_left one _ h) (first_masked S n cs (call S c σ).state (and_right one _ h))

pub fit_claim : (S : Session) → Fit S → Claim S
fit_claim S fit Val D c c' σ new calls h = record {
  loads = (from_fresh D c c' S fit σ new calls h).loads;
  marks = λ n. (from_fresh D c c' S fit σ new (take n calls) (first_masked S n calls σ h)).marks;
  equal = λ n. (from_fresh D c c' S fit σ new (take n calls) (first_masked S n calls σ h)).equal;
}

-- What the first calls answer is the first of what all answer.
pub first_answers : (S : Session) (calls : List Call) (σ : State) (n : ℕ) → answers S (take n calls) σ ≡ take n (answers S calls σ)
first_answers S calls σ zero = refl
first_answers S [] σ (suc n) = refl
first_answers S (c ∷ cs) σ (suc n) = ap (λ l. (call S c σ).answer ∷ l) (first_answers S cs (call S c σ).state n)

pub after_append : (S : Session) (cs ds : List Call) (σ : State) → after S (cs ++ ds) σ ≡ after S ds (after S cs σ)
after_append S [] ds σ = refl
after_append S (c ∷ cs) ds σ = after_append S cs ds (call S c σ).state
