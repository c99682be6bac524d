-- The text for what is held is the file's: of few bytes the file is held whole, of many it is longer than any session.
use mathlib.Core.Path.{◌≡◌, sym, ap, ◌∙◌}
use mathlib.Core.List.{List}
use mathlib.Core.Logic.{⊎_elim}
use Prim.Native.Nat.{ℕ, ◌+◌, ◌≤◌, ◌<◌}
use native.Mathlib.Omega.{arith}
use borrow.Author.Tests.{ne_eqb}
use lib.Dec.{eqb}
use lib.ListN.{length, take, length-take}
use lib.Seq.{take_all, get_or-take}
use Rattle.definition.specs.Bytes.{u32_at}
use Rattle.definition.specs.Sizes.{total_length_at, longest_session}
use Rattle.definition.specs.Session.{total_length}
use Rattle.definition.specs.Readable.{session_refusal}
use Rattle.laws.proofs.Tests.{by_order, cond_off}
use Rattle.report.specs.Text.{refusal_text}
use Rattle.report.specs.Output.{output}
use Rattle.report.specs.Oversize.{length_bound, oversize_number}
use Rattle.report.specs.Held.{Enough, Holds}
use Rattle.report.proofs.Long.{long_refused}
use Rattle.report.proofs.Printed.{printed_refusal, long_not_readable}

-- The length field of a long list stands in its front.
field_front : (n : ℕ) (l : List ℕ) → longest_session < n → total_length (take n l) ≡ total_length l
unfolding u32_at
field_front n l h =
    simp (
      get_or-take n l total_length_at 0 (omega arith),
      get_or-take n l (total_length_at + 1) 0 (omega arith),
      get_or-take n l (total_length_at + 2) 0 (omega arith),
      get_or-take n l (total_length_at + 3) 0 (omega arith),
    )

module _ {head : List ℕ} {bytes : ℕ} {file : List ℕ} (holds : Holds head bytes file) where
  -- No more than a session may have: they are the file.
  pub held_whole : Enough (length head) bytes → length head ≤ longest_session → head ≡ file
  held_whole enough few = sym holds.front ∙ take_all (length head) file (⊎_elim (λ n. omega (arith, n, all)) (λ n. absurd (omega (arith, n, all))) holds.counted)
    where
      all : bytes ≤ length head
      all = by_order bytes (length head) (λ h. h) (λ h. absurd (omega (arith, enough.1 h, few)))

  module _ (many : longest_session < length head) where
    -- More: the file is longer than any session, and has their length field.
    pub held_long : longest_session < length file
    held_long =
        let e : length (take (length head) file) ≡ length head = ap length holds.front in
        omega (arith, e, length-take (length head) file)

    held_field : total_length file ≡ total_length head
    held_field = sym (field_front (length head) file many) ∙ ap total_length holds.front

    -- So its refusal is told from the field and the length.
    held_number : total_length head < length_bound → session_refusal file ≡ oversize_number (total_length head) bytes
    held_number bound = long_refused file held_long ∙ ⊎_elim same past holds.counted
      where
        same : length file ≡ bytes → oversize_number (total_length file) (length file) ≡ oversize_number (total_length head) bytes
        same e = rw (held_field, e)

        past : (length_bound ≤ length file) × (length_bound ≤ bytes) → oversize_number (total_length file) (length file) ≡ oversize_number (total_length head) bytes
        past m =
            cond_off (eqb (total_length file) (length file)) 2 1 (ne_eqb (total_length file) (length file) (λ z. omega (arith, held_field)))
            ∙ sym (cond_off (eqb (total_length head) bytes) 2 1 (ne_eqb (total_length head) bytes (λ z. omega arith)))

    pub held_refusal : total_length head < length_bound → refusal_text (oversize_number (total_length head) bytes) ≡ output file
    held_refusal bound =
        let e = held_number bound in
        printed_refusal file _ (sym e) (λ z. long_not_readable file held_long (e ∙ z))
