-- The theorems of specs/Theorem.antt: a readable session meets the conditions of the proofs before this one.
use mathlib.Core.Path.{◌≡◌, sym, ap, ◌∙◌}
use mathlib.Core.List.{List, [], ◌∷◌, ◌++◌}
use Prim.Native.Nat.{ℕ, ◌≤◌}
use borrow.Author.Tests.{leb-true, eq-eqb}
use Rattle.definition.specs.Sizes.{max_surfaces}
use Rattle.definition.specs.Session.{Session, session, surface_count}
use Rattle.definition.specs.Readable.{textures_read, textures_valid, session_refusal}
use Rattle.definition.specs.Status.{cleared}
use Rattle.definition.specs.Submission.{byte_after}
use Rattle.definition.specs.Calls.{State, Call, submit, submit_state, call, after}
use Rattle.definition.specs.Program.{deskcheck}
use Rattle.definition.specs.declared.Surface.{Surface}
use Rattle.laws.specs.Surfaces.{Inside}
use Rattle.laws.proofs.Tests.{and_right}
use Rattle.laws.proofs.Readable.{tested}
use Rattle.laws.proofs.Submission.{after_spares, after_forgets, submitted_byte}
use Rattle.noninterference.specs.Memory.{byte_of}
use Rattle.noninterference.specs.Claim.{Fresh, byte_at}
use Rattle.noninterference.specs.Theorem.{DemandThree, FirstAnswers, Spares, Forgets, NeverSix, FreshStarts, Prints}
use Rattle.noninterference.proofs.Fresh.{fresh_is}
use Rattle.noninterference.proofs.Induction.{fit_claim, after_append}
use Rattle.noninterference.proofs.Induction as Induction
use Rattle.noninterference.proofs.Accepted.{conditions_fit}
use Rattle.noninterference.proofs.Lendable as Lendable

-- What 3 says of the surfaces of a readable session.
counted : (s : List ℕ) → session_refusal s ≡ 0 → surface_count (session s) ≤ max_surfaces
unfolding textures_valid
counted s h = leb-true (surface_count (session s)) max_surfaces (and_right (textures_read (session s) (session s).texture_count) _ (tested s h).textures)

pub demand_three : DemandThree
demand_three s h st = fit_claim (session s) (conditions_fit (session s) (tested s h).views st)

pub first_answers : FirstAnswers
first_answers = Induction.first_answers

-- From a fresh state, in a readable session.
module _ (s : List ℕ) (h : session_refusal s ≡ 0) (σ : State) (new : Fresh (session s) σ) where
  abbrev S : Session
  S = session s

  -- One submission more.
  submit_more : (calls : List Call) → after S (calls ++ (submit ∷ [])) σ ≡ submit_state S (after S calls σ)
  submit_more calls = after_append S calls (submit ∷ []) σ ∙ Lendable.submit_called S (tested s h).views σ new calls

  -- A surface's byte after it.
  submit_byte : (calls : List Call) (x : Surface) → Inside S x
      → byte_at S σ (calls ++ (submit ∷ [])) x ≡ byte_after (after S calls σ).lists.actions (after S calls σ).lists.discards x (byte_at S σ calls x)
  submit_byte calls x ok =
      let τ : State = after S calls σ in
      ap (λ υ. byte_of S υ.status x) (submit_more calls)
      ∙ submitted_byte S τ.lists.actions τ.lists.discards τ.status (Lendable.bytes_left S (tested s h).views σ new calls) x ok

  two_submissions : (calls : List Call) → after S (calls ++ (submit ∷ submit ∷ [])) σ ≡ after S ((calls ++ (submit ∷ [])) ++ (submit ∷ [])) σ
  two_submissions calls =
      after_append S calls (submit ∷ submit ∷ []) σ
      ∙ sym (ap (λ υ. (call S submit υ).state) (after_append S calls (submit ∷ []) σ))
      ∙ sym (after_append S (calls ++ (submit ∷ [])) (submit ∷ []) σ)

pub spares : Spares
spares s h σ new calls x ok f =
    let τ : State = after (session s) calls σ in
    ap cleared (submit_byte s h σ new calls x ok) ∙ after_spares τ.lists.actions τ.lists.discards x (byte_at (session s) σ calls x) f

pub forgets : Forgets
forgets s h σ new calls x ok =
    let S : Session = session s in
    let first : List Call = calls ++ (submit ∷ []) in
    let τ : State = after S first σ in
    ap (λ υ. cleared (byte_of S υ.status x)) (two_submissions s h σ new calls)
    ∙ ap cleared (submit_byte s h σ new first x ok)
    ∙ ap (λ υ. cleared (byte_after υ.lists.actions τ.lists.discards x (byte_at S σ first x))) (submit_more s h σ new calls)
    ∙ after_forgets τ.lists.discards x (byte_at S σ first x)

pub never_six : NeverSix
never_six s h σ new calls = Lendable.never_six (session s) (tested s h).views σ new calls

pub fresh_starts : FreshStarts
fresh_starts s h = fresh_is (session s) (counted s h)

pub prints : Prints
unfolding deskcheck
prints s h σ new = rw (eq-eqb (session_refusal s) 0 h, deskcheck) (sym (Lendable.fresh_printed (session s) (tested s h).views σ new))
