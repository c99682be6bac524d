-- Lists in bytes: how many records there are, and what a call that writes records and then the count leaves.
use Prim.Native.Nat.{ℕ, ◌*◌, ◌≤◌}
use native.Mathlib.Nat.{mul-le-mul_left}
use native.Mathlib.Omega.{arith}
use mathlib.Core.Path.{◌≡◌, refl, sym, ap, subst, ◌∙◌}
use mathlib.Core.Bool.{Bool}
use mathlib.Core.List.{List, [], ◌++◌, append-nil}
use lib.ListN.{length, drop}
use lib.Seq.{drop-drop}
use Rattle.definition.specs.Sizes.{count_bytes, list_bytes}
use Rattle.definition.specs.MemoryInit.{retain}
use Rattle.laws.specs.Records.{records, Appended, Retained}
use Rattle.laws.proofs.Records.{records_length, drop_more}
use Rattle.lists.specs.Lists.{count_in, list_in, CountSet, Becomes}

-- ── how many

-- A list has as many records as its count says.
pub list_length : {A : Type 0} (k : ℕ) (decode : List ℕ → A) (b : List ℕ) → length (list_in k decode b) ≡ count_in b
list_length k decode b = records_length k decode (count_in b) (drop count_bytes b)

-- Bytes that become xs count them.
pub becomes_count : {A : Type 0} {k : ℕ} {decode : List ℕ → A} {xs : List A} {b b' : List ℕ} → Becomes k decode xs b b' → count_in b' ≡ length xs
becomes_count {k = k} {decode = decode} {b' = b'} e = sym (list_length k decode b') ∙ ap length e.list

-- ── what a call leaves

-- Nothing is written.
pub becomes_same : {A : Type 0} (k : ℕ) (decode : List ℕ → A) (b : List ℕ) → Becomes k decode (list_in k decode b) b b
becomes_same k decode b = record { list = refl; rest = refl }

-- The records l, and a count that is set in front of them.
pub becomes : {A : Type 0} {k : ℕ} {decode : List ℕ → A} {xs : List A} {x : ℕ} {b₁ b₂ : List ℕ} (b l : List ℕ) → records k decode x l ≡ xs → drop (k * x) l ≡ drop (k * x) (drop count_bytes b)
    → CountSet x b₁ b₂ → drop count_bytes b₁ ≡ l → Becomes k decode xs b b₂
becomes {k = k} {decode = decode} {b₂ = b₂} b l first past s e =
    let n = s.count in
    let behind : drop count_bytes b₂ ≡ l = s.behind ∙ e in
    record {
      list = (λ q. records k decode (n q) (behind q)) ∙ first;
      rest = sym (drop-drop (k * count_in b₂) count_bytes b₂)
          ∙ ap (drop (k * count_in b₂)) behind
          ∙ subst (λ (q : ℕ). drop (k * q) l ≡ drop (k * q) (drop count_bytes b)) (sym n) past
          ∙ drop-drop (k * count_in b₂) count_bytes b;
    }

-- Records are appended, and counted.
pub append_becomes : {A : Type 0} {k : ℕ} {decode : List ℕ → A} {xs : List A} {x : ℕ} {b₁ b₂ : List ℕ} (b : List ℕ) → Appended k decode (count_in b) xs (drop count_bytes b) (drop count_bytes b₁) x
    → CountSet x b₁ b₂ → Becomes k decode (list_in k decode b ++ xs) b b₂
append_becomes {b₁ = b₁} b a s = becomes b (drop count_bytes b₁) a.first a.past s refl

-- Records that pass a test are kept, and counted.
pub retain_becomes : {A : Type 0} {k : ℕ} {decode : List ℕ → A} {p : A → Bool} {x : ℕ} {b₁ b₂ : List ℕ} (b : List ℕ) → Retained k decode p (count_in b) (drop count_bytes b) (drop count_bytes b₁) x
    → CountSet x b₁ b₂ → Becomes k decode (retain p (list_in k decode b)) b b₂
retain_becomes {b₁ = b₁} b a s = becomes b (drop count_bytes b₁) a.first a.past s refl

-- A count of 0 empties a list.
pub emptied : {A : Type 0} {k : ℕ} {decode : List ℕ → A} {b b₁ : List ℕ} → CountSet 0 b b₁ → Becomes k decode [] b b₁
unfolding records
emptied {b = b} s = becomes b (drop count_bytes b) refl refl s refl

-- One call after another, where the second leaves no fewer.
pub becomes_then : {A : Type 0} {k : ℕ} {decode : List ℕ → A} {xs ys : List A} {b b₁ b₂ : List ℕ} → count_in b₁ ≤ count_in b₂ → Becomes k decode xs b b₁ → Becomes k decode ys b₁ b₂ → Becomes k decode ys b b₂
becomes_then {k = k} {b = b} {b₁ = b₁} {b₂ = b₂} h e f =
    record { list = f.list; rest = f.rest ∙ drop_more (list_bytes k (count_in b₁)) (list_bytes k (count_in b₂)) b b₁ (omega (arith, mul-le-mul_left k h)) e.rest }

-- No record is appended.
pub appended_none : {A : Type 0} (k : ℕ) (decode : List ℕ → A) (n : ℕ) (l : List ℕ) → Appended k decode n [] l l n
appended_none k decode n l = record { first = sym (append-nil (records k decode n l)); past = refl }
