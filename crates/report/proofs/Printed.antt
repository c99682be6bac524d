-- A text is what is printed for a file, readable or refused.
use mathlib.Core.Path.{◌≡◌, sym, ap, subst, ◌∙◌}
use mathlib.Core.Logic.{◌≢◌}
use mathlib.Core.List.{List}
use mathlib.Core.Bool.{Bool, true, false, cond}
use Prim.Native.Nat.{ℕ, ◌≤◌, ◌<◌}
use native.Mathlib.Omega.{arith}
use borrow.Author.Tests.{eq-eqb, ne_eqb}
use lib.Dec.{eqb}
use lib.ListN.{length}
use Rattle.definition.specs.Sizes.{max_passes, longest_session}
use Rattle.definition.specs.Session.{session, total_length}
use Rattle.definition.specs.Readable.{session_refusal}
use Rattle.definition.specs.Program.{deskcheck}
use Rattle.session_validation.proofs.Valid.{valid_of}
use Rattle.report.specs.Text.{lines_text, refusal_text}
use Rattle.report.specs.Output.{output}
use Rattle.report.proofs.Long.{long_refused}

-- The lines of a readable session.
pub printed_lines : (s : List ℕ) → session_refusal s ≡ 0 → lines_text (deskcheck s) ≡ output s
unfolding output
printed_lines s z = simp (eq-eqb (session_refusal s) 0 z)

-- It has no more than the most passes.
pub rows_few : (s : List ℕ) (n : ℕ) → session_refusal s ≡ 0 → n ≡ (session s).pass_count → n ≤ max_passes
rows_few s n z p = subst (λ k. k ≤ max_passes) (sym p) (valid_of s z).passes

-- The line of a refused one.
pub printed_refusal : (s : List ℕ) (n : ℕ) → n ≡ session_refusal s → n ≢ 0 → refusal_text n ≡ output s
unfolding output
printed_refusal s n q z = ap refusal_text q ∙ simp (ne_eqb (session_refusal s) 0 (λ x. z (q ∙ x)))

-- A file that is longer than any session is refused.
pub long_not_readable : (s : List ℕ) → longest_session < length s → session_refusal s ≢ 0
long_not_readable s h z = go (eqb (total_length s) (length s)) (sym z ∙ long_refused s h)
  where
    go : (b : Bool) → ◌≡◌ {A = ℕ} 0 (cond b 2 1) → ⊥
    go true e = omega (arith, e)
    go false e = omega (arith, e)
