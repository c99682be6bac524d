-- The two answers of a program: none where a read failed, and the text for what is read.
use mathlib.Core.Path.{◌≡◌, refl}
use mathlib.Core.Bool.{true, false, true≢false, false≢true}
use mathlib.Core.List.{List}
use Prim.Native.Nat.{ℕ}
use native.Mathlib.Omega.{arith}
use lib.ListN.{length, take}
use Rattle.report.specs.Held.{Enough, Holds}
use Rattle.report.specs.Printed.{Printed}
use Rattle.streams.specs.Answered.{Answered}

module _ {of_held : List ℕ → ℕ → List ℕ} {of_file : List ℕ → List ℕ} where
  pub no_text : (l : List ℕ) → Answered of_held of_file l l 0 true
  no_text l = record { fits = omega arith; counted = refl; none = λ e. (refl, refl); text = λ e. absurd (true≢false e) }

  pub text_of : {l m : List ℕ} {n : ℕ} {head : List ℕ} {bytes : ℕ} → Enough (length head) bytes → Printed l (of_held head bytes) m n
      → ((file : List ℕ) → Holds head bytes file → take n m ≡ of_file file) → Answered of_held of_file l m n false
  text_of {head = head} {bytes} enough printed defined = record {
    fits = printed.fits;
    counted = printed.counted;
    none = λ e. absurd (false≢true e);
    text = λ e. record { head = head; bytes = bytes; enough = enough; printed = printed; defined = defined };
  }
