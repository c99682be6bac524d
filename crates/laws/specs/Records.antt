-- A lent flat list: records of k numbers each, one after the other.
-- `decode` gives the record that k numbers stand for.
use Rattle.std.specs.Prelude.{ℕ, zero, suc, ◌*◌, ◌≡◌, Bool, List, [], ◌∷◌, ◌++◌, length, take, drop}
use Rattle.definition.specs.MemoryInit.{retain}

-- The record at place i.
unfoldable pub record_at : {A : Type 0} → ℕ → (List ℕ → A) → ℕ → List ℕ → A
record_at k decode i l = decode (take k (drop (k * i) l))

-- The first n records.
unfoldable pub records : {A : Type 0} → ℕ → (List ℕ → A) → ℕ → List ℕ → List A
records k decode zero l = []
records k decode (suc n) l = records k decode n l ++ (record_at k decode n l ∷ [])

-- l' is l with the record s at place i: those before and every number after stay.
pub record Written {A : Type 0} (k : ℕ) (decode : List ℕ → A) (i : ℕ) (s : A) (l l' : List ℕ) : Type 0 where
  pub long : length l' ≡ length l
  pub before : take (k * i) l' ≡ take (k * i) l
  pub here : record_at k decode i l' ≡ s
  pub after : drop (k * suc i) l' ≡ drop (k * suc i) l

-- l' has l's first n records and then xs, r in all; the numbers past them stay.
pub record Appended {A : Type 0} (k : ℕ) (decode : List ℕ → A) (n : ℕ) (xs : List A) (l l' : List ℕ) (r : ℕ) : Type 0 where
  pub first : records k decode r l' ≡ records k decode n l ++ xs
  pub past : drop (k * r) l' ≡ drop (k * r) l

-- l' has those of l's first n records that pass the test, r in all; the numbers past them stay.
pub record Retained {A : Type 0} (k : ℕ) (decode : List ℕ → A) (p : A → Bool) (n : ℕ) (l l' : List ℕ) (r : ℕ) : Type 0 where
  pub first : records k decode r l' ≡ retain p (records k decode n l)
  pub past : drop (k * r) l' ≡ drop (k * r) l
