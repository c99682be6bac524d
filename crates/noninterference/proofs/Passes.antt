-- A whole pass at one surface: where no surface is reached twice, it does there what the one attachment at that surface does.
use mathlib.Core.Path.{◌≡◌, refl, sym, ap, subst, ◌∙◌}
use native.Mathlib.Omega.{arith}
use mathlib.Core.Bool.{Bool, true, false, ◌||◌, cond}
use mathlib.Core.List.{List, [], ◌∷◌, ◌++◌, map}
use mathlib.Core.Option.{Option, none, some}
use Prim.Native.Nat.{ℕ}
use Rattle.definition.specs.Surfaces.{named, layers_of, elem}
use Rattle.definition.specs.MemoryInit.{Lists}
use Rattle.definition.specs.Attachments.{Attached, range_in, kind_of, discards, attach, attach_all}
use Rattle.definition.specs.declared.Surface.{Surface}
use Rattle.laws.proofs.Tests.{or_on_left, or_on_right}
use Rattle.laws.specs.Separate.{reaches, reached}
use Rattle.noninterference.specs.Memory.{Use, use_at}
use Rattle.noninterference.proofs.Spots.{Spot, spot, plan_spot, apply_spot}
use Rattle.noninterference.proofs.Plans.{planned_use}

-- ── the attachment at a surface

abbrev pub find : Surface → List Attached → Option Attached
find s [] = none
find s (x ∷ xs) = cond (reaches x s) (some x) (find s xs)

abbrev pub All : (Attached → Type 0) → List Attached → Type 0
All P [] = Unit {0}
All P (x ∷ xs) = P x × All P xs

-- No surface is reached twice.
abbrev pub Distinct : List Attached → Type 0
Distinct [] = Unit {0}
Distinct (x ∷ xs) = ((s : Surface) → reaches x s ≡ true → find s xs ≡ none) × Distinct xs

-- A discard of the attachment names what its action reaches.
abbrev pub Named : Attached → Type 0
Named x = (s : Surface) → elem s (named (range_in x)) ≡ reaches x s

-- The attachment's layers are what its action reaches.
abbrev pub Spreads : Attached → Type 0
Spreads x = (s : Surface) → elem s (layers_of (range_in x)) ≡ reaches x s

-- ── lists of attachments

pub all_map : (P Q : Attached → Type 0) → ((x : Attached) → P x → Q x) → (xs : List Attached) → All P xs → All Q xs
all_map P Q f [] a = tt
all_map P Q f (x ∷ xs) a = (f x a.0, all_map P Q f xs a.1)

pub all_append : (P : Attached → Type 0) (xs ys : List Attached) → All P xs → All P ys → All P (xs ++ ys)
all_append P [] ys a b = b
all_append P (x ∷ xs) ys a b = (a.0, all_append P xs ys a.1 b)

find_append : (s : Surface) (xs ys : List Attached) → find s xs ≡ none → find s ys ≡ none → find s (xs ++ ys) ≡ none
find_append s [] ys h g = g
find_append s (x ∷ xs) ys h g = go (reaches x s) refl (λ e. find_append s xs ys e g)
  where
    go : (b : Bool) → reaches x s ≡ b → (find s xs ≡ none → find s (xs ++ ys) ≡ none) → cond (reaches x s) (some x) (find s (xs ++ ys)) ≡ none
    go true e ih = let z : some x ≡ none = rw e at h in cc
    go false e ih = rw e (ih (rw e at h))

-- Two lists, of which the second reaches nothing that the first does.
pub distinct_append : (xs ys : List Attached) → Distinct xs → Distinct ys → ((s : Surface) → reached s xs ≡ true → find s ys ≡ none) → Distinct (xs ++ ys)
distinct_append [] ys d e h = e
distinct_append (x ∷ xs) ys d e h = (
  λ s r. find_append s xs ys (d.0 s r) (h s (or_on_left (reaches x s) (reached s xs) r)),
  distinct_append xs ys d.1 e (λ s r. h s (or_on_right (reaches x s) (reached s xs) r)),
)

-- What no attachment is found for is not reached.
pub unfound : (s : Surface) (xs : List Attached) → find s xs ≡ none → reached s xs ≡ false
unfound s [] h = refl
unfound s (x ∷ xs) h = go (reaches x s) refl (unfound s xs)
  where
    go : (b : Bool) → reaches x s ≡ b → (find s xs ≡ none → reached s xs ≡ false) → (reaches x s || reached s xs) ≡ false
    go true e ih = let z : some x ≡ none = rw e at h in cc
    go false e ih = rw e (ih (rw e at h))

pub reached_append : (s : Surface) (xs ys : List Attached) → reached s (xs ++ ys) ≡ (reached s xs || reached s ys)
reached_append s [] ys = refl
reached_append s (x ∷ xs) ys = go (reaches x s) (reached_append s xs ys)
  where
    go : (b : Bool) → reached s (xs ++ ys) ≡ (reached s xs || reached s ys) → (b || reached s (xs ++ ys)) ≡ ((b || reached s xs) || reached s ys)
    go true ih = refl
    go false ih = ih

-- What holds where an attachment is found holds wherever it reaches.
pub all_found : (P : Attached → Surface → Type 0) (xs : List Attached) → Distinct xs → ((x : Attached) (s : Surface) → find s xs ≡ some x → P x s)
    → All (λ x. (s : Surface) → reaches x s ≡ true → P x s) xs
all_found P [] d h = tt
all_found P (x ∷ xs) d h = (λ s e. h x s (rw e), all_found P xs d.1 (λ y s f. h y s (go y s f (reaches x s) refl)))
  where
    go : (y : Attached) (s : Surface) → find s xs ≡ some y → (q : Bool) → reaches x s ≡ q → cond (reaches x s) (some x) (find s xs) ≡ some y
    go y s f true e = let g : find s xs ≡ none = d.0 s e in cc
    go y s f false e = rw e f

-- What is found is one of them, and reaches the surface.
pub found_all : (P : Attached → Type 0) (xs : List Attached) → All P xs → (s : Surface) (x : Attached) → find s xs ≡ some x → P x × (reaches x s ≡ true)
found_all P [] al s x f = absurd (let z : ◌≡◌ {A = ℕ} 0 1 = cc in omega arith)
found_all P (y ∷ xs) al s x f = go (reaches y s) refl (found_all P xs al.1 s x)
  where
    go : (q : Bool) → reaches y s ≡ q → (find s xs ≡ some x → P x × (reaches x s ≡ true)) → P x × (reaches x s ≡ true)
    go true e ih =
        let g : some y ≡ some x = rw e at f in
        let h : y ≡ x = cc in
        (subst P h al.0, ap (λ v. reaches v s) (sym h) ∙ e)
    go false e ih = ih (rw e at f)

-- ── the pass

abbrev pub via_use : Option Attached → Option Use
via_use none = none
via_use (some x) = some (planned_use x)

-- What the memory finds at a surface.
pub use_found : (xs : List Attached) → All Spreads xs → (s : Surface) → use_at s (map planned_use xs) ≡ via_use (find s xs)
use_found [] sp s = refl
use_found (x ∷ xs) sp s = rw (sp.0 s) (go (reaches x s) (use_found xs sp.1 s))
  where
    go : (q : Bool) → use_at s (map planned_use xs) ≡ via_use (find s xs)
        → cond q (some (planned_use x)) (use_at s (map planned_use xs)) ≡ via_use (cond q (some x) (find s xs))
    go true ih = refl
    go false ih = ih

abbrev pub via_find : Option Attached → Spot → Spot
via_find none y = y
via_find (some x) y = plan_spot (kind_of x) (discards x) y

-- The lists at a surface after the pass.
pub pass_spot : (xs : List Attached) → All Named xs → Distinct xs → (s : Surface) (b : ℕ) (l : Lists)
    → spot s b (attach_all xs l) ≡ via_find (find s xs) (spot s b l)
pass_spot [] nm d s b l = refl
pass_spot (x ∷ xs) nm d s b l =
    pass_spot xs nm.1 d.1 s b (attach x l)
    ∙ ap (via_find (find s xs)) (apply_spot (range_in x) (kind_of x) (discards x) s b l (nm.0 s))
    ∙ go (reaches x s) refl
  where
    go : (q : Bool) → reaches x s ≡ q
        → via_find (find s xs) (cond (reaches x s) (plan_spot (kind_of x) (discards x) (spot s b l)) (spot s b l))
        ≡ via_find (cond (reaches x s) (some x) (find s xs)) (spot s b l)
    go true e = rw (e, d.0 s e)
    go false e = rw e
