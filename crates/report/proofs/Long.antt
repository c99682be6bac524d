-- A header that is valid has its passes end at or before the longest session's end, so that a longer file is refused as 1 or 2.
use mathlib.Core.Path.{◌≡◌, refl, ap, ◌∙◌}
use mathlib.Core.Bool.{Bool, true, false, ◌&&◌, cond}
use mathlib.Core.List.{List}
use Prim.Native.Nat.{ℕ, ◌<◌, ◌≤◌}
use native.Mathlib.Omega.{arith}
use lib.Dec.{leb, eqb}
use lib.ListN.{length}
use borrow.Author.Tests.{eqb-true, le-leb}
use Rattle.definition.specs.Sizes.{header_bytes, longest_session}
use Rattle.definition.specs.Session.{session, total_length}
use Rattle.definition.specs.Verdict.{◌then◌, unless, nowhere, accepted, refused_at}
use Rattle.definition.specs.Readable.{length_valid, header_valid, textures_valid, views_valid, session_verdict, session_refusal}
use Rattle.definition.specs.declared.Verdict.{Verdict}
use Rattle.laws.proofs.Tests.{and_on, and_off_right}
use Rattle.laws.proofs.Readable.{valid_header}
use Rattle.laws.proofs.Verdicts.{then_stop, then_go, unless_accepted, unless_refused}
use Rattle.report.specs.Oversize.{oversize_number}

-- A valid header's length field is at most the longest session's length.
header_most : (s : List ℕ) → header_valid s ≡ true → total_length s ≤ longest_session
header_most s e = let h = valid_header s e in omega (arith, h.textures, h.views, h.passes, h.end)

-- So a longer file is refused as 1 where its length field is wrong, else as 2.
pub long_refused : (s : List ℕ) → longest_session < length s → session_refusal s ≡ oversize_number (total_length s) (length s)
unfolding session_verdict length_valid
long_refused s h = go (eqb (total_length s) (length s)) refl (header_valid s) refl
  where
    long : leb header_bytes (length s) ≡ true
    long = le-leb header_bytes (length s) (omega arith)

    rest : Verdict
    rest = unless (textures_valid (session s)) 3 nowhere then unless (views_valid (session s)) 4 nowhere

    go : (a : Bool) → eqb (total_length s) (length s) ≡ a → (b : Bool) → header_valid s ≡ b
        → (unless (leb header_bytes (length s) && a) 1 nowhere then unless b 2 nowhere then rest).number ≡ cond a 2 1
    go false e b f = ap (λ v. v.number)
        (ap (λ u. u then unless b 2 nowhere then rest) (unless_refused (leb header_bytes (length s) && false) 1 nowhere (and_off_right (leb header_bytes (length s)) false refl))
        ∙ then_stop (refused_at 1 nowhere) (unless b 2 nowhere then rest) refl)
    go true e true f = absurd (omega (arith, h, header_most s f, eqb-true (total_length s) (length s) e))
    go true e false f = ap (λ v. v.number)
        (ap (λ u. u then unless false 2 nowhere then rest) (unless_accepted (leb header_bytes (length s) && true) 1 nowhere (and_on (leb header_bytes (length s)) true long refl))
        ∙ then_go accepted (unless false 2 nowhere then rest) refl
        ∙ ap (λ u. u then rest) (unless_refused false 2 nowhere refl)
        ∙ then_stop (refused_at 2 nowhere) rest refl)
