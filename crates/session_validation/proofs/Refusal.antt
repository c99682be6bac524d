-- The session's refusal is a function of its four tests, and no refusal is 0.
use mathlib.Core.Path.{◌≡◌, ◌∙◌}
use mathlib.Core.Logic.{◌≢◌}
use mathlib.Core.Bool.{Bool}
use mathlib.Core.List.{List}
use Prim.Native.Nat.{ℕ}
use borrow.Author.Rules.{rules}
use Rattle.definition.specs.Verdict.{nowhere, ◌then◌, unless}
use Rattle.definition.specs.Session.{session}
use Rattle.definition.specs.Refusals.{number_of}
use Rattle.definition.specs.declared.refusals.Refusal.{Refusal}
use Rattle.definition.specs.Readable.{length_valid, header_valid, textures_valid, views_valid, session_verdict, session_refusal}

-- The number for four tests.
unfoldable pub refusal_of : Bool → Bool → Bool → Bool → ℕ
unfolding ◌then◌ unless
refusal_of a b c d = (unless a 1 nowhere then unless b 2 nowhere then unless c 3 nowhere then unless d 4 nowhere).number

pub refused_by : (s : List ℕ) {a b c d : Bool} → a ≡ length_valid s → b ≡ header_valid s → c ≡ textures_valid (session s) → d ≡ views_valid (session s)
    → refusal_of a b c d ≡ session_refusal s
unfolding refusal_of session_verdict
refused_by s ea eb ec ed = λ i. refusal_of (ea i) (eb i) (ec i) (ed i)

-- ── numbers

-- No refusal has the number 0,
pub numbered : (refusal : Refusal) → number_of refusal ≢ 0
numbered refusal = search rules

-- and what a refusal is the number of is not 0.
pub refused : (refusal : Refusal) (n : ℕ) → number_of refusal ≡ n → n ≢ 0
refused refusal n e z = numbered refusal (e ∙ z)
