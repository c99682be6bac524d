-- Laws of lists, for loops that read or write one entry more: `Vec::retain`, what stays and what leaves.
use mathlib.Core.Path.{◌≡◌, refl, sym, ap, ◌∙◌}
use mathlib.Core.Bool.{Bool, true, false, not, cond}
use mathlib.Core.List.{List, [], ◌∷◌, ◌++◌, map}
use Prim.Native.Nat.{ℕ, suc, ◌+◌, ◌<◌, ◌≤◌}
use native.Mathlib.Omega.{arith}
use native.Mathlib.Numerals.{add-one}
use lib.ListN.{length, drop, get_or}
use lib.Seq.{drop-cons}
use Rattle.definition.specs.Surfaces.{hits}
use Rattle.definition.specs.MemoryInit.{retain, matching, others}
use Rattle.definition.specs.declared.Surface.{Surface}
use Rattle.definition.specs.declared.Range.{Range}

-- ── one entry more

pub drop_turn : {A : Type 0} (xs : List A) (o : A) (i : ℕ) → i < length xs → drop i xs ≡ get_or xs i o ∷ drop (i + 1) xs
drop_turn xs o i h = drop-cons xs i o h ∙ ap (λ (q : ℕ). get_or xs i o ∷ drop q xs) (sym (add-one i))

pub map-append : {A B : Type 0} (f : A → B) (a b : List A) → map f (a ++ b) ≡ map f a ++ map f b
map-append f [] b = refl
map-append f (x ∷ a) b = ap (λ l. f x ∷ l) (map-append f a b)

-- ── entries that pass a test

pub retain_append : {A : Type 0} (f : A → Bool) (a b : List A) → retain f (a ++ b) ≡ retain f a ++ retain f b
retain_append f [] b = refl
retain_append f (x ∷ a) b = go (f x) (retain_append f a b)
  where
    go : (q : Bool) → retain f (a ++ b) ≡ retain f a ++ retain f b
        → cond q (x ∷ retain f (a ++ b)) (retain f (a ++ b)) ≡ cond q (x ∷ retain f a) (retain f a) ++ retain f b
    go true ih = ap (λ l. x ∷ l) ih
    go false ih = ih

-- One entry more, which passes or fails.
pub retain_yes : {A : Type 0} (f : A → Bool) (a : List A) (x : A) → f x ≡ true → retain f (a ++ (x ∷ [])) ≡ retain f a ++ (x ∷ [])
retain_yes f a x h = retain_append f a (x ∷ []) ∙ ap (λ q. retain f a ++ cond q (x ∷ []) []) h

pub retain_no : {A : Type 0} (f : A → Bool) (a : List A) (x : A) → f x ≡ false → retain f (a ++ (x ∷ [])) ≡ retain f a
retain_no f a x h = retain_append f a (x ∷ []) ∙ ap (λ q. retain f a ++ cond q (x ∷ []) []) h ∙ append_none (retain f a)
  where
    append_none : {A : Type 0} (l : List A) → l ++ [] ≡ l
    append_none [] = refl
    append_none (y ∷ l) = ap (λ k. y ∷ k) (append_none l)

pub retain_most : {A : Type 0} (f : A → Bool) (a : List A) → length (retain f a) ≤ length a
retain_most f [] = omega arith
retain_most f (x ∷ a) = go (f x) (retain_most f a)
  where
    go : (q : Bool) → length (retain f a) ≤ length a → length (cond q (x ∷ retain f a) (retain f a)) ≤ suc (length a)
    go true ih = omega arith
    go false ih = omega arith

-- Every entry passes or fails: of discards, each leaves the list or stays.
pub retain_split : {A : Type 0} (f : A → Bool) (a : List A) → length (retain f a) + length (retain (λ x. not (f x)) a) ≡ length a
retain_split f [] = refl
retain_split f (x ∷ a) = go (f x) (retain_split f a)
  where
    go : (q : Bool) → length (retain f a) + length (retain (λ x. not (f x)) a) ≡ length a
        → length (cond q (x ∷ retain f a) (retain f a)) + length (cond (not q) (x ∷ retain (λ x. not (f x)) a) (retain (λ x. not (f x)) a)) ≡ suc (length a)
    go true ih = omega arith
    go false ih = omega arith

pub matching_others : (r : Range) (d : List Surface) → length (matching r d) + length (others r d) ≡ length d
matching_others r d = retain_split (hits r) d
