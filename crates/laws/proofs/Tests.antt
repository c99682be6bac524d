-- Laws of tests: everything is an equation between Bools, so that a law is applied by `ap`, `rw` or `simp`.
use mathlib.Core.Path.{◌≡◌, refl, sym}
use mathlib.Core.Bool.{Bool, true, false, not, ◌&&◌, ◌||◌, cond, beq}
use Prim.Native.Nat.{ℕ, ◌≤◌, ◌<◌}
use native.Mathlib.Omega.{arith}
use lib.Dec.{leb}
use borrow.Author.Tests.{leb-true, leb-false}

-- No test is both true and false.
pub clash : {A : Type 0} {b : Bool} → b ≡ true → b ≡ false → A
clash {A} {b} p q = absurd (let z : ◌≡◌ {A = ℕ} 0 1 = cc in omega arith)

-- ── and, or, not

-- Both of two tests that pass together.
pub and_left : (a b : Bool) → (a && b) ≡ true → a ≡ true
and_left true b h = refl
and_left false b h = h

pub and_right : (a b : Bool) → (a && b) ≡ true → b ≡ true
and_right true b h = h
and_right false b h = clash {b = false} h refl

pub and_on : (a b : Bool) → a ≡ true → b ≡ true → (a && b) ≡ true
and_on a b h e = rw (h, e)

pub and_off_right : (a b : Bool) → b ≡ false → (a && b) ≡ false
and_off_right true b h = h
and_off_right false b h = refl

-- Either of two tests.
pub or_on_left : (a b : Bool) → a ≡ true → (a || b) ≡ true
or_on_left a b h = rw h

pub or_on_right : (a b : Bool) → b ≡ true → (a || b) ≡ true
or_on_right true b h = refl
or_on_right false b h = h

pub or_off_left : (a b : Bool) → (a || b) ≡ false → a ≡ false
or_off_left true b h = h
or_off_left false b h = refl

pub or_off_right : (a b : Bool) → (a || b) ≡ false → b ≡ false
or_off_right true b h = clash {b = true} refl h
or_off_right false b h = h

-- One of two fails, so the other passes.
pub or_first : (a b : Bool) → (a || b) ≡ true → b ≡ false → a ≡ true
or_first true b h e = refl
or_first false b h e = clash h e

pub or_second : (a b : Bool) → (a || b) ≡ true → a ≡ false → b ≡ true
or_second true b h e = clash {b = true} refl e
or_second false b h e = h

pub or_swap : (a b c d : Bool) → ((a || b) || (c || d)) ≡ ((a || c) || (b || d))
or_swap true b c d = refl
or_swap false true true d = refl
or_swap false true false d = refl
or_swap false false c d = refl

-- What two tests have in common stands before both.
pub or_factor : (a b c : Bool) → ((a && b) || (a && c)) ≡ (a && (b || c))
or_factor true b c = refl
or_factor false b c = refl

pub not_on : (a : Bool) → a ≡ false → not a ≡ true
not_on a h = rw h

pub not_off : (a : Bool) → not a ≡ true → a ≡ false
not_off true h = sym h
not_off false h = refl

pub implies_on : (a b : Bool) → (not a || b) ≡ true → a ≡ true → b ≡ true
implies_on true b h e = h
implies_on false b h e = clash {b = false} e refl

-- ── equal tests

pub beq_eq : (a b : Bool) → beq a b ≡ true → a ≡ b
beq_eq true true h = refl
beq_eq true false h = sym h
beq_eq false true h = h
beq_eq false false h = refl

-- Two tests that pass together.
pub bool_iff : (p q : Bool) → (p ≡ true → q ≡ true) → (q ≡ true → p ≡ true) → p ≡ q
bool_iff true q f g = sym (f refl)
bool_iff false true f g = g refl
bool_iff false false f g = refl

-- ── one of two values

-- Two values behind one test.
pub cond_agree : {A : Type 0} (b : Bool) (o v w : A) → (b ≡ false → v ≡ w) → cond b o v ≡ cond b o w
cond_agree true o v w h = refl
cond_agree false o v w h = h refl

pub cond_on : {A : Type 0} (b : Bool) (x y : A) → b ≡ true → cond b x y ≡ x
cond_on b x y h = rw h

pub cond_off : {A : Type 0} (b : Bool) (x y : A) → b ≡ false → cond b x y ≡ y
cond_off b x y h = rw h

-- By the order of two numbers.
pub by_order : {P : Type 0} (a b : ℕ) → (a ≤ b → P) → (b < a → P) → P
by_order {P} a b f g = go (leb a b) refl
  where
    go : (t : Bool) → leb a b ≡ t → P
    go true e = f (leb-true a b e)
    go false e = g (leb-false a b e)

-- ── a test at every Bool: it computes, so that `refl` proves it

abbrev pub both : (Bool → Bool) → Bool
both f = f true && f false

pub both_at : (f : Bool → Bool) → both f ≡ true → (b : Bool) → f b ≡ true
both_at f h true = and_left (f true) (f false) h
both_at f h false = and_right (f true) (f false) h

pub four_at : (f : Bool → Bool → Bool → Bool → Bool) → both (λ a. both (λ b. both (λ c. both (λ d. f a b c d)))) ≡ true
    → (a b c d : Bool) → f a b c d ≡ true
four_at f h a b c d =
    both_at (f a b c)
    (both_at (λ c. both (λ d. f a b c d))
    (both_at (λ b. both (λ c. both (λ d. f a b c d))) (both_at (λ a. both (λ b. both (λ c. both (λ d. f a b c d)))) h a) b)
    c)
    d
