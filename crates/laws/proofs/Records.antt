-- What a run of stores does to the records of a flat list: it writes the record that it covers, and leaves those before and the numbers after.
use Prim.Native.Nat.{ℕ, zero, suc, ◌+◌, ◌-◌, ◌*◌, ◌≤◌, ◌<◌}
use native.Mathlib.Nat.{add-zero, add-suc, zero-add, suc-add, mul-suc, mul-le-mul_left}
use native.Mathlib.Omega.{arith}
use native.Mathlib.Numerals.{add-one}
use mathlib.Core.Path.{◌≡◌, refl, sym, ap, ◌∙◌}
use mathlib.Core.Bool.{Bool}
use mathlib.Core.List.{List, [], ◌∷◌, ◌++◌, append_assoc, append-nil}
use lib.ListN.{length, take, drop, get_or, length-append}
use lib.Seq.{take-nil, take-take, take-append-le, drop-append-add, drop-drop, take_at, drop_at, length-take-le, sets, length-sets, sets-eq, get_or-take, get_or-drop}
use Rattle.definition.specs.MemoryInit.{retain}
use Rattle.laws.specs.Records.{record_at, records, Written, Appended}
pub use Rattle.laws.proofs.Length.{records_length}

module _ {A : Type 0} where
  -- What is taken after n is dropped.
  pub drop_take : (n m : ℕ) (l : List A) → drop n (take (n + m) l) ≡ take m (drop n l)
  drop_take zero m l = ap (λ (q : ℕ). take q l) (zero-add m)
  drop_take (suc n) m [] = ap (λ (q : ℕ). drop (suc n) (take q [])) (suc-add n m) ∙ sym (take-nil m)
  drop_take (suc n) m (x ∷ l) = ap (λ (q : ℕ). drop (suc n) (take q (x ∷ l))) (suc-add n m) ∙ drop_take n m l

  -- Two lists alike from a on are alike from b on; alike up to b, they are alike up to a.
  pub drop_more : (a b : ℕ) (l l' : List A) → a ≤ b → drop a l' ≡ drop a l → drop b l' ≡ drop b l
  drop_more a b l l' h e =
      let s : b ≡ a + (b - a) = omega arith in
      ap (λ (k : ℕ). drop k l') s ∙ sym (drop-drop (b - a) a l') ∙ ap (drop (b - a)) e ∙ drop-drop (b - a) a l ∙ ap (λ (k : ℕ). drop k l) (sym s)

  pub take_less : (a b : ℕ) (l l' : List A) → a ≤ b → take b l' ≡ take b l → take a l' ≡ take a l
  take_less a b l l' h e = sym (take-take a b l' h) ∙ ap (take a) e ∙ take-take a b l h

-- One number of a record, read where it stands.
pub number_at : (k i j : ℕ) (l : List ℕ) → j < k → get_or (take k (drop (k * i) l)) j 0 ≡ get_or l (k * i + j) 0
number_at k i j l h = get_or-take k (drop (k * i) l) j 0 h ∙ get_or-drop (k * i) l j 0

module _ {A : Type 0} (k : ℕ) (decode : List ℕ → A) where
  pub records_suc : (n : ℕ) (l : List ℕ) → records k decode (suc n) l ≡ records k decode n l ++ (record_at k decode n l ∷ [])
  unfolding records
  records_suc n l = refl

  -- The first records that pass, and one that is read after them.
  pub retain_read : (p : A → Bool) (i : ℕ) (l : List ℕ) (s : A) → s ≡ record_at k decode i l → retain p (records k decode (i + 1) l) ≡ retain p (records k decode i l ++ (s ∷ []))
  retain_read p i l s read = ap (λ (q : ℕ). retain p (records k decode q l)) (add-one i) ∙ ap (retain p) (records_suc i l) ∙ ap (λ x. retain p (records k decode i l ++ (x ∷ []))) (sym read)

  -- A record depends on its own numbers alone, and the first n records on theirs.
  pub record_same : (i : ℕ) (l l' : List ℕ) → drop (k * i) l' ≡ drop (k * i) l → record_at k decode i l' ≡ record_at k decode i l
  unfolding record_at
  record_same i l l' e = ap (λ q. decode (take k q)) e

  pub records_same : (n : ℕ) (l l' : List ℕ) → take (k * n) l' ≡ take (k * n) l → records k decode n l' ≡ records k decode n l
  unfolding records record_at
  records_same zero l l' e = refl
  records_same (suc n) l l' e =
      let e' : take (k * n + k) l' ≡ take (k * n + k) l = ap (λ (q : ℕ). take q l') (sym (mul-suc k n)) ∙ e ∙ ap (λ (q : ℕ). take q l) (mul-suc k n) in
      let here : take k (drop (k * n) l') ≡ take k (drop (k * n) l) = sym (drop_take (k * n) k l') ∙ ap (drop (k * n)) e' ∙ drop_take (k * n) k l in
      λ q. records_same n l l' (take_less (k * n) (k * n + k) l l' (omega arith) e') q ++ (decode (here q) ∷ [])

  -- The records of two lists one after the other, where the first is that of h records.
  pub records_append : (h n : ℕ) (p l : List ℕ) → length p ≡ k * h → records k decode (h + n) (p ++ l) ≡ records k decode h p ++ records k decode n l
  unfolding records record_at
  records_append h zero p l e =
      ap (λ (q : ℕ). records k decode q (p ++ l)) (add-zero h)
      ∙ records_same h p (p ++ l) (take-append-le (k * h) p l (omega (arith, e)))
      ∙ sym (append-nil (records k decode h p))
  records_append h (suc n) p l e =
      let place : k * (h + n) ≡ length p + k * n = omega (arith, e) in
      let here : drop (k * (h + n)) (p ++ l) ≡ drop (k * n) l = ap (λ (q : ℕ). drop q (p ++ l)) place ∙ drop-append-add p l (k * n) in
      ap (λ (q : ℕ). records k decode q (p ++ l)) (add-suc h n)
      ∙ (λ q. records_append h n p l e q ++ (decode (take k (here q)) ∷ []))
      ∙ append_assoc (records k decode h p) (records k decode n l) (record_at k decode n l ∷ [])

  -- Where records end up to a place, there they end up to every later one.
  pub past_more : (a b : ℕ) (l l' : List ℕ) → a ≤ b → drop (k * a) l' ≡ drop (k * a) l → drop (k * b) l' ≡ drop (k * b) l
  past_more a b l l' h e = drop_more (k * a) (k * b) l l' (mul-le-mul_left k h) e

-- The stores of a record's k numbers write it.
pub written : {A : Type 0} (k : ℕ) (decode : List ℕ → A) (i : ℕ) (vs l l' : List ℕ) (s : A) → length vs ≡ k → k * i + k ≤ length l → decode vs ≡ s → l' ≡ sets l (k * i) vs
    → Written k decode i s l l'
unfolding record_at
written k decode i vs l l' s n room d e =
    let parts : l' ≡ take (k * i) l ++ (vs ++ drop (k * i + k) l) = e ∙ sets-eq vs l (k * i) (omega arith) ∙ append_assoc (take (k * i) l) vs _ ∙ ap (λ (q : ℕ). take (k * i) l ++ (vs ++ drop (k * i + q) l)) n in
    let first : length (take (k * i) l) ≡ k * i = length-take-le (k * i) l (omega arith) in
    let rest : drop (k * i) l' ≡ vs ++ drop (k * i + k) l = ap (drop (k * i)) parts ∙ drop_at (take (k * i) l) _ (k * i) first in
    record {
      long = ap length e ∙ length-sets l (k * i) vs;
      before = ap (take (k * i)) parts ∙ take_at (take (k * i) l) _ (k * i) first;
      here = ap (λ q. decode (take k q)) rest ∙ ap decode (take_at vs _ k n) ∙ d;
      after = ap (λ (q : ℕ). drop q l') (mul-suc k i) ∙ sym (drop-drop k (k * i) l') ∙ ap (drop k) rest ∙ drop_at vs _ k n ∙ ap (λ (q : ℕ). drop q l) (sym (mul-suc k i));
    }

module _ {A : Type 0} (k : ℕ) (decode : List ℕ → A) (i : ℕ) (s : A) (l l' : List ℕ) (w : Written k decode i s l l') where
  -- A record written right after the first i is appended to them.
  pub write_appends : records k decode (i + 1) l' ≡ records k decode i l ++ (s ∷ [])
  write_appends =
      let one : i + 1 ≡ suc i = omega arith in
      ap (λ (q : ℕ). records k decode q l') one ∙ records_suc k decode i l' ∙ λ q. records_same k decode i l l' w.before q ++ (w.here q ∷ [])

  pub write_append : Appended k decode i (s ∷ []) l l' (i + 1)
  write_append = record { first = write_appends; past = ap (λ (q : ℕ). drop (k * q) l') (add-one i) ∙ w.after ∙ ap (λ (q : ℕ). drop (k * q) l) (sym (add-one i)) }

  -- What stands past a later place stays.
  pub write_spares : (m : ℕ) → i < m → drop (k * m) l' ≡ drop (k * m) l
  write_spares m h = past_more k decode (suc i) m l l' h w.after

-- How many there are after an append.
pub append_count : {A : Type 0} (k : ℕ) (decode : List ℕ → A) (n r : ℕ) (xs : List A) (l l' : List ℕ) → Appended k decode n xs l l' r → r ≡ n + length xs
append_count k decode n r xs l l' a =
    sym (records_length k decode r l') ∙ ap length a.first ∙ length-append (records k decode n l) xs ∙ ap (λ (q : ℕ). q + length xs) (records_length k decode n l)

-- One append after another.
pub append_twice : {A : Type 0} (k : ℕ) (decode : List ℕ → A) (n x y : ℕ) (xs ys : List A) (l l' l'' : List ℕ) → Appended k decode n xs l l' x → Appended k decode x ys l' l'' y
    → Appended k decode n (xs ++ ys) l l'' y
append_twice k decode n x y xs ys l l' l'' a b =
    let longer : y ≡ x + length ys = append_count k decode x y ys l' l'' b in
    record {
      first = b.first ∙ ap (λ q. q ++ ys) a.first ∙ append_assoc (records k decode n l) xs ys;
      past = b.past ∙ past_more k decode x y l l' (omega arith) a.past;
    }
