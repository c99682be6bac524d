-- A session that is copied up to its passes, with the passes rearranged behind, is the rearranged file at the front of the buffer; and which
-- files are written so.
use mathlib.Core.Path.{◌≡◌, sym, ap, subst, ◌∙◌}
use mathlib.Core.Logic.{◌≢◌}
use mathlib.Core.List.{List, [], ◌++◌, append_assoc, append-nil}
use Prim.Native.Nat.{ℕ, ◌+◌, ◌-◌, ◌≤◌}
use native.Mathlib.Omega.{arith}
use borrow.Author.Tests.{eq-eqb, ne_eqb}
use borrow.Rule.Slice.PartMut.{put_mid}
use lib.ListN.{length, take, drop, length-append, length-drop, length-take}
use lib.Seq.{take_at, drop_at, take_all, drop-drop, drop-length}
use Rattle.definition.specs.Sizes.{longest_session}
use Rattle.definition.specs.Session.{session, pass_count, pass_start}
use Rattle.definition.specs.Readable.{session_refusal}
use Rattle.laws.proofs.Tests.{cond_on, cond_off, by_order}
use Rattle.session_validation.proofs.Valid.{valid_of}
use Rattle.report.specs.Output.{output}
use Rattle.report.specs.Held.{Enough, Holds, held_text}
use Rattle.report.specs.Printed.{Printed}
use Rattle.report.proofs.Printed.{long_not_readable}
use Rattle.report.proofs.Held.{held_whole, held_long}
use Rattle.columns.specs.Columns.{arranged, rearrange_number}
use Rattle.columns.specs.Promise.{Rearranged}
use Rattle.columns.specs.declared.Way.{Way}
use Rattle.columns.proofs.Refusals.{fits_number}
use Rattle.column_files.specs.Files.{rearranged, written, held_written}
use Rattle.column_files.proofs.Theorem.{start_inside, front_length, rearranged_length}

-- ── a readable session

-- What is lent from a place on reaches to the end.
to_the_end : (k : ℕ) (l : List ℕ) → take (length l - k) (drop k l) ≡ drop k l
to_the_end k l = take_all (length l - k) (drop k l) (omega (arith, length-drop k l))

past_the_end : (k : ℕ) (l : List ℕ) → drop (length l - k) (drop k l) ≡ []
past_the_end k l = ap (λ (n : ℕ). drop n (drop k l)) (sym (length-drop k l)) ∙ drop-length (drop k l)

-- A session is no longer than the longest.
pub session_fits : (s : List ℕ) → session_refusal s ≡ 0 → length s ≤ longest_session
unfolding session
session_fits s accepted = let v = valid_of s accepted in omega (arith, v.bytes, v.textures, v.views, v.passes)

module _ (way : Way) (s before : List ℕ) (accepted : session_refusal s ≡ 0) (room : longest_session ≤ length before) where
  -- Its passes are not refused.
  not_refused : (n m k : ℕ) → n ≡ (session s).pass_count → m ≡ length s - pass_start s → m ≤ k → rearrange_number n m k ≡ 0
  unfolding session
  not_refused n m k e f g =
      let v = valid_of s accepted in
      fits_number n m k (omega (arith, e, v.passes)) (omega (arith, e, f, v.bytes)) g

  module _ {copied after : List ℕ} {n number : ℕ} (c : copied ≡ take (pass_start s) s ++ drop (pass_start s) before) (counted : n ≡ (session s).pass_count)
      (r : Rearranged way n (drop (pass_start s) s) (drop (pass_start s) copied) number after) where
    front : take (pass_start s) copied ≡ take (pass_start s) s
    front = ap (take (pass_start s)) c ∙ take_at (take (pass_start s) s) _ (pass_start s) (front_length s accepted)

    rest : drop (pass_start s) copied ≡ drop (pass_start s) before
    rest = ap (drop (pass_start s)) c ∙ drop_at (take (pass_start s) s) _ (pass_start s) (front_length s accepted)

    zero_number : number ≡ 0
    zero_number =
        r.refusal
        ∙ not_refused n _ _ counted (length-drop (pass_start s) s)
        (omega (arith, length-drop (pass_start s) s, ap length rest, length-drop (pass_start s) before, session_fits s accepted))

    -- What stands behind the session's end.
    behind : drop (length (drop (pass_start s) s)) (drop (pass_start s) copied) ≡ drop (length s) before
    behind =
        let e : pass_start s + length (drop (pass_start s) s) ≡ length s = omega (arith, length-drop (pass_start s) s, start_inside s accepted) in
        ap (drop (length (drop (pass_start s) s))) rest
        ∙ drop-drop (length (drop (pass_start s) s)) (pass_start s) before
        ∙ ap (λ (k : ℕ). drop k before) e

    pass_part : after ≡ arranged way (pass_count s) (drop (pass_start s) s) ++ drop (length s) before
    unfolding session
    pass_part =
        r.target
        ∙ cond_on _ _ _ (eq-eqb number 0 zero_number)
        ∙ ap (λ (k : ℕ). arranged way k (drop (pass_start s) s) ++ drop (length (drop (pass_start s) s)) (drop (pass_start s) copied)) counted
        ∙ ap (λ l. arranged way (pass_count s) (drop (pass_start s) s) ++ l) behind

    whole : put_mid (pass_start s) (length copied - pass_start s) copied after ≡ rearranged way s ++ drop (length s) before
    unfolding rearranged
    whole =
        ap (λ l. take (pass_start s) copied ++ (after ++ l)) (past_the_end (pass_start s) copied)
        ∙ ap (λ l. take (pass_start s) copied ++ l) (append-nil after ∙ pass_part)
        ∙ ap (λ l. l ++ (arranged way (pass_count s) (drop (pass_start s) s) ++ drop (length s) before)) front
        ∙ sym (append_assoc (take (pass_start s) s) (arranged way (pass_count s) (drop (pass_start s) s)) (drop (length s) before))

    printed_session : Printed before (rearranged way s) (put_mid (pass_start s) (length copied - pass_start s) copied after) (length s)
    printed_session = record {
      front = ap (take (length s)) whole ∙ take_at (rearranged way s) _ (length s) (rearranged_length way s accepted);
      behind = ap (drop (length s)) whole ∙ drop_at (rearranged way s) _ (length s) (rearranged_length way s accepted);
      fits = long;
      counted = simp length-take (omega (arith, long));
    }
      where
        long : length s ≤ length (put_mid (pass_start s) (length copied - pass_start s) copied after)
        long = omega (arith, ap length whole, length-append (rearranged way s) (drop (length s) before), rearranged_length way s accepted)

  -- The same where the start is told, and the front is copied whole.
  pub printed_from : {start n number : ℕ} {copied part after : List ℕ} → start ≡ pass_start s → n ≡ (session s).pass_count
      → copied ≡ take start s ++ drop start before → part ≡ drop start s
      → Rearranged way n part (take (length copied - start) (drop start copied)) number after
      → Printed before (rearranged way s) (put_mid start (length copied - start) copied after) (length s)
  printed_from {start} {n} {number} {copied} {part} {after} e counted c p r =
      subst (λ (k : ℕ). copied ≡ take k s ++ drop k before → Rearranged way n (drop k s) (drop k copied) number after
      → Printed before (rearranged way s) (put_mid k (length copied - k) copied after) (length s)) (sym e)
      (λ q. printed_session q counted) c
      (subst (λ b. Rearranged way n (drop start s) b number after) (to_the_end start copied)
      (subst (λ b. Rearranged way n b (take (length copied - start) (drop start copied)) number after) p r))

-- ── which files are written so

readable_written : (way : Way) (s : List ℕ) → session_refusal s ≡ 0 → rearranged way s ≡ written way s
unfolding written
readable_written way s z = sym (cond_on _ _ _ (eq-eqb (session_refusal s) 0 z))

refused_written : (way : Way) (s : List ℕ) → session_refusal s ≢ 0 → output s ≡ written way s
unfolding written
refused_written way s n = sym (cond_off _ _ _ (ne_eqb (session_refusal s) 0 n))

pub readable_held : (way : Way) (head : List ℕ) (bytes : ℕ) → session_refusal head ≡ 0 → rearranged way head ≡ held_written way head bytes
unfolding held_written
readable_held way head bytes z = sym (cond_on _ _ _ (eq-eqb (session_refusal head) 0 z))

pub refused_held : (way : Way) (head : List ℕ) (bytes : ℕ) → session_refusal head ≢ 0 → held_text head bytes ≡ held_written way head bytes
unfolding held_written
refused_held way head bytes n = sym (cond_off _ _ _ (ne_eqb (session_refusal head) 0 n))

module _ (way : Way) {head : List ℕ} {bytes : ℕ} {file : List ℕ} (holds : Holds head bytes file) (enough : Enough (length head) bytes) where
  -- What is readable is no longer than a session, and is the file.
  few : session_refusal head ≡ 0 → length head ≤ longest_session
  few z = by_order (length head) longest_session (λ h. h) (λ h. absurd (long_not_readable head h z))

  pub readable_file : session_refusal head ≡ 0 → rearranged way head ≡ written way file
  readable_file z = readable_written way head z ∙ ap (written way) (held_whole holds enough (few z))

  -- What is refused is the file, or the front of one that is longer than any session.
  pub refused_file : session_refusal head ≢ 0 → output file ≡ written way file
  refused_file n =
      refused_written way file
      (λ z. by_order (length head) longest_session (λ h. n (ap session_refusal (held_whole holds enough h) ∙ z)) (λ h. long_not_readable file (held_long holds h) z))
