-- The theorems of specs/Theorem.antt.
use mathlib.Core.Path.{◌≡◌, ap, ◌∙◌}
use mathlib.Core.List.{List, ◌++◌}
use Prim.Native.Nat.{ℕ, ◌+◌, ◌*◌, ◌≤◌}
use native.Mathlib.Omega.{arith}
use borrow.Author.Tests.{eq-eqb}
use lib.ListN.{length, take, drop, length-append, length-drop, take-append-drop}
use lib.Seq.{length-take-le, take_at, drop_at}
use Rattle.definition.specs.Sizes.{pass_bytes}
use Rattle.definition.specs.Session.{session, pass_count, pass_start}
use Rattle.definition.specs.Readable.{session_refusal}
use Rattle.session_validation.proofs.Valid.{valid_of}
use Rattle.columns.specs.Columns.{arranged}
use Rattle.columns.specs.declared.Way.{Way}
use Rattle.columns.proofs.Theorem.{inverse, arranged_length}
use Rattle.column_files.specs.Files.{rearranged, written}
use Rattle.columns.specs.Theorem.{back}
use Rattle.column_files.specs.Theorem.{FilesBack, StillReadable}
use Rattle.column_files.proofs.Front.{passes_same, start_same, refused_alike}

module _ (s : List ℕ) (accepted : session_refusal s ≡ 0) where
  -- The passes stand at the end.
  pub part_length : length s ≡ pass_start s + pass_bytes * pass_count s
  unfolding session
  part_length = (valid_of s accepted).bytes

  pub start_inside : pass_start s ≤ length s
  start_inside = omega (arith, part_length)

  pub front_length : length (take (pass_start s) s) ≡ pass_start s
  front_length = length-take-le (pass_start s) s start_inside

module _ (way : Way) (s : List ℕ) (accepted : session_refusal s ≡ 0) where
  -- What stands before them stays.
  front_same : take (pass_start s) (rearranged way s) ≡ take (pass_start s) s
  unfolding rearranged
  front_same = take_at (take (pass_start s) s) _ (pass_start s) (front_length s accepted)

  passes_arranged : drop (pass_start s) (rearranged way s) ≡ arranged way (pass_count s) (drop (pass_start s) s)
  unfolding rearranged
  passes_arranged = drop_at (take (pass_start s) s) _ (pass_start s) (front_length s accepted)

  pub rearranged_length : length (rearranged way s) ≡ length s
  unfolding rearranged
  rearranged_length =
      length-append (take (pass_start s) s) _
      ∙ omega (arith, front_length s accepted, arranged_length way (pass_count s) (drop (pass_start s) s), part_length s accepted)

  readable : session_refusal (rearranged way s) ≡ 0
  readable = refused_alike s (rearranged way s) front_same rearranged_length ∙ accepted

  there_and_back : rearranged (back way) (rearranged way s) ≡ s
  unfolding rearranged
  there_and_back =
      let t = rearranged way s in
      ap (λ (k : ℕ). take k t ++ arranged (back way) (pass_count t) (drop k t)) (start_same s t front_same)
      ∙ ap (λ (k : ℕ). take (pass_start s) t ++ arranged (back way) k (drop (pass_start s) t)) (passes_same s t front_same)
      ∙ ap (λ l. l ++ arranged (back way) (pass_count s) (drop (pass_start s) t)) front_same
      ∙ ap (λ l. take (pass_start s) s ++ arranged (back way) (pass_count s) l) passes_arranged
      ∙ ap (λ l. take (pass_start s) s ++ l)
      (inverse way (pass_count s) (drop (pass_start s) s) (length-drop (pass_start s) s ∙ omega (arith, part_length s accepted)))
      ∙ take-append-drop (pass_start s) s

pub still_readable : StillReadable
still_readable way s accepted = readable way s accepted

pub files_back : FilesBack
unfolding written
files_back way s accepted = simp (eq-eqb (session_refusal s) 0 accepted, eq-eqb (session_refusal (rearranged way s)) 0 (readable way s accepted)) (there_and_back way s accepted)
