-- Entries of lent lists: what plans add and return, and loops that append it plan by plan behind the count.
use Prim.Native.Nat.{ℕ, ◌+◌, ◌*◌, ◌≤◌, ◌<◌}
use native.Mathlib.Nat.{mul-le-mul_left}
use native.Mathlib.Omega.{arith}
use mathlib.Core.Path.{◌≡◌, refl, sym, ap, subst, ◌∙◌}
use mathlib.Core.Bool.{true, false}
use mathlib.Core.List.{List, [], ◌∷◌, ◌++◌, map, append_assoc, append-nil}
use mathlib.Core.Option.{Option, none, some}
use lib.ListN.{length, drop, get_or, length-append, length-map}
use Rattle.definition.specs.Sizes.{count_bytes, list_bytes}
use Rattle.definition.specs.MemoryInit.{implicit_at, matching}
use Rattle.definition.specs.declared.Surface.{Surface}
use Rattle.definition.specs.declared.Range.{Range}
use Rattle.definition.specs.declared.Action.{Action}
use Rattle.definition.specs.declared.MemoryInitKind.{MemoryInitKind}
use Rattle.definition.specs.declared.MemoryInitKind.TheVariants.{ImplicitlyInitialized, NeedsInitializedMemory}
use Rattle.laws.specs.Plans.{Plan, action_of, returned_by, added_by, returned_all, added_all}
use Rattle.laws.specs.Records.{records, Written, Appended}
use Rattle.laws.proofs.Tests.{clash}
use Rattle.laws.proofs.Records.{records_length, past_more, append_count}
use Rattle.lists.specs.Lists.{CountSet, Becomes}
use Rattle.lists.proofs.Lists.{becomes}
use Rattle.memory_init.specs.Plans.{needs, plan_in, plans_in}
use Rattle.memory_init.specs.declared.Planned.{Planned}
use Rattle.memory_init.proofs.Turns.{plans_turn, plans_done}

-- ── one record

-- A record that is written into b is written into the bytes that equal b.
pub written_as : {A : Type 0} {k : ℕ} {decode : List ℕ → A} {i : ℕ} {s : A} {l b b' : List ℕ} → b' ≡ b → Written k decode i s l (drop count_bytes b) → Written k decode i s l (drop count_bytes b')
written_as {k = k} {decode = decode} {i = i} {s = s} {l = l} e = subst (λ q. Written k decode i s l (drop count_bytes q)) (sym e)

-- Entries that equal those that are appended are appended.
pub appended_as : {A : Type 0} {k : ℕ} {decode : List ℕ → A} {n r : ℕ} {xs ys : List A} {l l' : List ℕ} → ys ≡ xs → Appended k decode n xs l l' r → Appended k decode n ys l l' r
appended_as {k = k} {decode = decode} {n = n} {r = r} {l = l} {l' = l'} e = subst (λ q. Appended k decode n q l l' r) (sym e)

-- ── what one plan adds and returns

module _ (r : Range) (d : List Surface) where
  -- A registration adds its own action at least.
  pub added_some : (k : MemoryInitKind) → 1 ≤ length (added_by (some k) r d)
  added_some ImplicitlyInitialized = omega arith
  added_some NeedsInitializedMemory = omega arith

  -- An implicit one adds no other.
  pub added_implicit : (k : MemoryInitKind) → k ≡ ImplicitlyInitialized → added_by (some k) r d ≡ action_of r k ∷ []
  added_implicit k e = ap (λ q. added_by (some q) r d) e ∙ ap (λ q. action_of r q ∷ []) (sym e)

  -- A needing one adds the implicit ones behind it.
  pub added_needing : (k : MemoryInitKind) → k ≡ NeedsInitializedMemory → added_by (some k) r d ≡ (action_of r k ∷ []) ++ map implicit_at (matching r d)
  added_needing k e = ap (λ q. added_by (some q) r d) e ∙ ap (λ q. action_of r q ∷ map implicit_at (matching r d)) (sym e)

  -- It adds one for itself and one for each discard in its range.
  pub needing_count : (k : MemoryInitKind) → k ≡ NeedsInitializedMemory → length (added_by (some k) r d) ≡ 1 + length (matching r d)
  needing_count k e = omega (arith, ap length (added_needing k e), length-map (matching r d) implicit_at)

  -- What needs no initialised memory returns nothing.
  pub returned_none : (k : Option MemoryInitKind) → needs k ≡ false → returned_by k r d ≡ []
  returned_none none h = refl
  returned_none (some ImplicitlyInitialized) h = refl
  returned_none (some NeedsInitializedMemory) h = clash {b = true} refl h

  -- What needs it returns the discards in the range.
  pub returned_needing : (k : Option MemoryInitKind) → needs k ≡ true → returned_by k r d ≡ matching r d
  returned_needing none h = clash {b = false} h refl
  returned_needing (some ImplicitlyInitialized) h = clash {b = false} h refl
  returned_needing (some NeedsInitializedMemory) h = refl

-- ── entries of a list appended part by part

-- Of xs, which goes behind the first n records of l₀, `rest` is left, and l has the others: `end` records so far; the numbers past them stay.
pub record Appending {A : Type 0} (k : ℕ) (decode : List ℕ → A) (n : ℕ) (xs : List A) (l₀ : List ℕ) (rest : List A) (l : List ℕ) (end : ℕ) : Type 0 where
  pub first : records k decode end l ++ rest ≡ records k decode n l₀ ++ xs
  pub past : drop (k * end) l ≡ drop (k * end) l₀

module _ {A : Type 0} {k : ℕ} {decode : List ℕ → A} {n : ℕ} {xs : List A} {l₀ : List ℕ} where
  -- All of it is left.
  pub appending_start : {end : ℕ} → end ≡ n → Appending k decode n xs l₀ xs l₀ end
  appending_start e = record { first = ap (λ (q : ℕ). records k decode q l₀ ++ xs) e; past = refl }

  module _ {rest : List A} {l : List ℕ} {end : ℕ} (g : Appending k decode n xs l₀ rest l end) where
    -- How many there are, and how many are left.
    pub appending_count : end + length rest ≡ n + length xs
    appending_count =
        omega (
          arith,
          ap length g.first,
          length-append (records k decode end l) rest,
          length-append (records k decode n l₀) xs,
          records_length k decode end l,
          records_length k decode n l₀,
        )

    -- There is room for the next part where there is room for all.
    pub appending_room : (ys more : List A) → rest ≡ ys ++ more → end + length ys ≤ n + length xs
    appending_room ys more e = omega (arith, appending_count, ap length e, length-append ys more)

    -- The next part is appended.
    pub appending_turn : {ys more : List A} {l' : List ℕ} {end' : ℕ} → rest ≡ ys ++ more → Appended k decode end ys l l' end' → Appending k decode n xs l₀ more l' end'
    appending_turn {ys = ys} {more = more} {l' = l'} {end' = end'} e a = record {
      first = ap (λ q. q ++ more) a.first ∙ append_assoc (records k decode end l) ys more ∙ ap (λ q. records k decode end l ++ q) (sym e) ∙ g.first;
      past = a.past ∙ past_more k decode end end' l₀ l (omega (arith, append_count k decode end end' ys l l' a)) g.past;
    }

    -- None is left.
    pub appending_done : rest ≡ [] → Appended k decode n xs l₀ l end
    appending_done e = record { first = sym (append-nil (records k decode end l)) ∙ ap (λ q. records k decode end l ++ q) (sym e) ∙ g.first; past = g.past }

-- ── entries of plans in order

-- What each plan gives, and what plans give together: nothing where there is none, and else what the first gives and then the others.
pub record Parts (A : Type 0) : Type 0 where
  pub one : Plan → List A
  pub all : List Plan → List A
  pub last : all [] ≡ []
  pub next : (p : Plan) (ps : List Plan) → all (p ∷ ps) ≡ one p ++ all ps

-- The actions that they add by the discards d.
abbrev pub added : List Surface → Parts Action
added d = record { one = λ p. added_by p.kind p.range d; all = λ ps. added_all ps d; last = refl; next = λ p ps. refl }

-- The discards of d that they return.
abbrev pub returned : List Surface → Parts Surface
returned d = record { one = λ p. returned_by p.kind p.range d; all = λ ps. returned_all ps d; last = refl; next = λ p ps. refl }

-- A loop over the plans: those from i on are left.
module _ {A : Type 0} (f : Parts A) (ps : List Planned) {k : ℕ} {decode : List ℕ → A} {n : ℕ} {l₀ : List ℕ} {l : List ℕ} {end : ℕ} (i : ℕ)
    (g : Appending k decode n (f.all (plans_in ps)) l₀ (f.all (drop i (plans_in ps))) l end) where
  -- What is left is what the plan at i gives and what is left after it.
  left_turn : (o : Planned) → i < length ps → f.all (drop i (plans_in ps)) ≡ f.one (plan_in (get_or ps i o)) ++ f.all (drop (i + 1) (plans_in ps))
  left_turn o more = ap f.all (plans_turn ps o i more) ∙ f.next _ _

  -- There is room for what it gives where there is room for all.
  pub plan_room : (o : Planned) (m : ℕ) → i < length ps → list_bytes k (n + length (f.all (plans_in ps))) ≤ m → list_bytes k (end + length (f.one (plan_in (get_or ps i o)))) ≤ m
  plan_room o m more h = omega (arith, h, mul-le-mul_left k (appending_room g (f.one (plan_in (get_or ps i o))) (f.all (drop (i + 1) (plans_in ps))) (left_turn o more)))

  -- It is appended.
  pub plan_turn : (o : Planned) {l' : List ℕ} {end' : ℕ} → i < length ps → Appended k decode end (f.one (plan_in (get_or ps i o))) l l' end'
      → Appending k decode n (f.all (plans_in ps)) l₀ (f.all (drop (i + 1) (plans_in ps))) l' end'
  plan_turn o more = appending_turn g (left_turn o more)

  -- After the last plan all is appended.
  pub plan_done : i ≡ length ps → Appended k decode n (f.all (plans_in ps)) l₀ l end
  plan_done e = appending_done g (ap (λ (q : ℕ). f.all (drop q (plans_in ps))) e ∙ ap f.all (plans_done ps) ∙ f.last)

-- Records from the front on replace a list, and are counted.
pub replace_becomes : {A : Type 0} {k : ℕ} {decode : List ℕ → A} {xs : List A} {x : ℕ} {b₁ b₂ : List ℕ} (b : List ℕ) → Appended k decode 0 xs (drop count_bytes b) (drop count_bytes b₁) x → CountSet x b₁ b₂ → Becomes k decode xs b b₂
unfolding records
replace_becomes {b₁ = b₁} b a s = becomes b (drop count_bytes b₁) a.first a.past s refl
