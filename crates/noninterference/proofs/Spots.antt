-- The lists at one surface: what an attachment does there is a function of three things, and elsewhere it does nothing.
use mathlib.Core.Path.{◌≡◌, refl, sym, ap, ◌∙◌}
use mathlib.Core.Bool.{Bool, true, false, not, ◌&&◌, ◌||◌, cond, or-false, or-true}
use mathlib.Core.List.{List, [], ◌∷◌, ◌++◌, map}
use mathlib.Core.Option.{Option, none, some}
use Prim.Native.Nat.{ℕ}
use Rattle.definition.specs.Surfaces.{hits, named, elem}
use Rattle.definition.specs.Status.{act_byte}
use Rattle.definition.specs.MemoryInit.{Lists, implicit_at, matching, others, register_init_action, registered, discarded, apply_plan}
use Rattle.definition.specs.Submission.{byte_acts}
use Rattle.definition.specs.declared.Surface.{Surface}
use Rattle.definition.specs.declared.Range.{Range}
use Rattle.definition.specs.declared.Action.{Action}
use Rattle.definition.specs.declared.MemoryInitKind.{MemoryInitKind}
use Rattle.definition.specs.declared.MemoryInitKind.TheVariants.{ImplicitlyInitialized, NeedsInitializedMemory}
use Rattle.laws.proofs.Surfaces.{elem_append, elem_retain}
use Rattle.laws.proofs.Status.{filled_act}
use Rattle.laws.proofs.Submission.{acts_append, acts_filled, acts_elsewhere}

-- A surface's spot: its byte after the actions, whether it is listed as discarded, whether it is among the clears.
pub record Spot : Type 0 where
  pub byte : ℕ
  pub listed : Bool
  pub due : Bool

unfoldable pub spot : Surface → ℕ → Lists → Spot
spot s b l = record { byte = byte_acts l.actions s b; listed = elem s l.discards; due = elem s l.clears }

abbrev pub kind_byte : Option MemoryInitKind → ℕ → ℕ
kind_byte none b = b
kind_byte (some k) b = act_byte k b

abbrev pub is_none : Option MemoryInitKind → Bool
is_none none = true
is_none (some k) = false

abbrev pub needs : Option MemoryInitKind → Bool
needs none = false
needs (some NeedsInitializedMemory) = true
needs (some ImplicitlyInitialized) = false

-- What an attachment that registers k, and lists a discard or not, does to the spot of a surface that it reaches.
abbrev pub plan_spot : Option MemoryInitKind → Bool → Spot → Spot
plan_spot k d y = record { byte = kind_byte k y.byte; listed = d || is_none k && y.listed; due = y.due || needs k && y.listed }

-- A registration.
register_spot : (r : Range) (k : Option MemoryInitKind) (s : Surface) (b : ℕ) (l : Lists)
    → spot s b (registered r k l) ≡ cond (hits r s) (plan_spot k false (spot s b l)) (spot s b l)
unfolding spot register_init_action
register_spot r k s b l = go (hits r s) refl k
  where
    stay : (q : Bool) → hits r s ≡ q → elem s (others r l.discards) ≡ (not q && elem s l.discards)
    stay q e = elem_retain (λ x. not (hits r x)) s l.discards ∙ ap (λ z. not z && elem s l.discards) e

    leave : (q : Bool) → hits r s ≡ q → elem s (matching r l.discards) ≡ (q && elem s l.discards)
    leave q e = elem_retain (hits r) s l.discards ∙ ap (λ z. z && elem s l.discards) e

    byte : (q : Bool) → hits r s ≡ q → (k : MemoryInitKind) (c : List Action) → byte_acts (l.actions ++ (record { range = r; kind = k } ∷ c)) s b
        ≡ byte_acts c s (cond q (act_byte k (byte_acts l.actions s b)) (byte_acts l.actions s b))
    byte q e k c =
        acts_append l.actions (record { range = r; kind = k } ∷ c) s b
        ∙ ap (λ z. byte_acts c s (cond z (act_byte k (byte_acts l.actions s b)) (byte_acts l.actions s b))) e

    due : (q : Bool) → hits r s ≡ q → elem s (l.clears ++ matching r l.discards) ≡ (elem s l.clears || q && elem s l.discards)
    due q e = elem_append s l.clears (matching r l.discards) ∙ ap (λ z. elem s l.clears || z) (leave q e)

    go : (q : Bool) → hits r s ≡ q → (k : Option MemoryInitKind)
        → spot s b (registered r k l) ≡ cond (hits r s) (plan_spot k false (spot s b l)) (spot s b l)
    go true e none = rw e (λ i. record { byte = byte_acts l.actions s b; listed = elem s l.discards; due = sym (or-false (elem s l.clears)) i })
    go false e none = rw e
    go true e (some NeedsInitializedMemory) = rw e (λ i. record {
      byte = (byte true e NeedsInitializedMemory (map implicit_at (matching r l.discards)) ∙ acts_filled (map implicit_at (matching r l.discards)) s _ (filled_act NeedsInitializedMemory _)) i;
      listed = stay true e i;
      due = due true e i;
    })
    go false e (some NeedsInitializedMemory) = rw e (λ i. record {
      byte = (byte false e NeedsInitializedMemory (map implicit_at (matching r l.discards)) ∙ acts_elsewhere (matching r l.discards) s _ (leave false e)) i;
      listed = stay false e i;
      due = (due false e ∙ or-false (elem s l.clears)) i;
    })
    go true e (some ImplicitlyInitialized) = rw e (λ i. record {
      byte = byte true e ImplicitlyInitialized [] i;
      listed = stay true e i;
      due = sym (or-false (elem s l.clears)) i;
    })
    go false e (some ImplicitlyInitialized) = rw e (λ i. record {
      byte = byte false e ImplicitlyInitialized [] i;
      listed = stay false e i;
      due = elem s l.clears;
    })

-- A discard.
abbrev push_spot : Bool → Spot → Spot
push_spot d y = record { byte = y.byte; listed = y.listed || d; due = y.due }

push_spot_lem : (r : Range) (d : Bool) (s : Surface) (b : ℕ) (l : Lists) → elem s (named r) ≡ hits r s
    → spot s b (discarded r d l) ≡ push_spot (d && hits r s) (spot s b l)
unfolding spot
push_spot_lem r true s b l h = λ i. record {
  byte = byte_acts l.actions s b;
  listed = (elem_append s l.discards (named r) ∙ ap (λ z. elem s l.discards || z) h) i;
  due = elem s l.clears;
}
push_spot_lem r false s b l h = λ i. record { byte = byte_acts l.actions s b; listed = sym (or-false (elem s l.discards)) i; due = elem s l.clears }

-- An attachment whose discard names what its action reaches.
pub apply_spot : (r : Range) (k : Option MemoryInitKind) (d : Bool) (s : Surface) (b : ℕ) (l : Lists) → elem s (named r) ≡ hits r s
    → spot s b (apply_plan r k d l) ≡ cond (hits r s) (plan_spot k d (spot s b l)) (spot s b l)
apply_spot r k d s b l h =
    push_spot_lem r d s b (registered r k l) h ∙ ap (push_spot (d && hits r s)) (register_spot r k s b l) ∙ go (hits r s) d (spot s b l)
  where
    go : (q d : Bool) (y : Spot) → push_spot (d && q) (cond q (plan_spot k false y) y) ≡ cond q (plan_spot k d y) y
    go true true y = λ i. record { byte = kind_byte k y.byte; listed = or-true (is_none k && y.listed) i; due = y.due || needs k && y.listed }
    go true false y = λ i. record { byte = kind_byte k y.byte; listed = or-false (is_none k && y.listed) i; due = y.due || needs k && y.listed }
    go false true y = λ i. record { byte = y.byte; listed = or-false y.listed i; due = y.due }
    go false false y = λ i. record { byte = y.byte; listed = or-false y.listed i; due = y.due }
