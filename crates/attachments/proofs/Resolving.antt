-- What is set at the count of an array stands at the end of its entries, and what is past it stays; so the entries are those of the attachments of a
-- pass. One set of laws for the plans and for the replies: each entry is read by `get`, and is that of an attachment by `of`.
use Prim.Native.Nat.{ℕ, zero, suc, ◌+◌, ◌*◌, ◌≤◌, ◌<◌}
use native.Mathlib.Omega.{arith}
use native.Mathlib.Numerals.{add-one}
use mathlib.Core.Path.{◌≡◌, refl, sym, ap, subst, ◌∙◌}
use mathlib.Core.Bool.{Bool, true, false, not, ◌&&◌, cond}
use mathlib.Core.List.{List, [], ◌∷◌, ◌++◌, map, append_assoc, append-nil}
use lib.ListN.{length, take, drop, set, take-append-drop, length-append, length-map, length-set}
use lib.Seq.{take-suc-set, drop-set-lt}
use Rattle.definition.specs.Sizes.{max_slots, max_attachments}
use Rattle.definition.specs.Session.{Pass, Session, is_none, slice_range}
use Rattle.definition.specs.Attachments.{Attached, resolve_to, color_of, slot_part, slot_parts, resolve_part}
use Rattle.definition.specs.declared.Attachment.{Attachment}
use Rattle.definition.specs.declared.Slot.{Slot}
use Rattle.laws.specs.Plans.{plan_of}
use Rattle.laws.proofs.Lists.{map-append}
use Rattle.laws.proofs.Records.{drop_more}
use Rattle.laws.proofs.Folds.{parts_turn}
use Rattle.memory_init.specs.declared.Planned.{Planned}
use Rattle.memory_init.specs.Plans.{plan_in}
use Rattle.attachments.specs.declared.DepthStencilPart.{DepthStencilPart}
use Rattle.std.specs.Prelude.{None, Some}
use Rattle.attachments.specs.Attached.{Present, PartOf}
use Rattle.attachments.specs.Resolved.{padded, listed}
use Rattle.attachments.specs.Plans.{PlansOf}

-- ── an array

-- The first n entries are those of the attachments xs, and past them is what was there.
pub record Filled {A B : Type 0} (get : A → B) (of : Attached → B) (start es : List A) (n : ℕ) (xs : List Attached) : Type 0 where
  pub long : length es ≡ max_attachments
  pub entries : map get (take n es) ≡ map of xs
  pub count : n ≡ length xs
  pub rest : drop n es ≡ drop n start

-- The entry of the attachment x is set at the count where the test passes, and else nothing changes.
pub data Put {A B : Type 0} (get : A → B) (of : Attached → B) (t : Bool) (x : Attached) (es : List A) (n : ℕ) (es' : List A) (n' : ℕ) : Type 0 where
  put : (a : A) → t ≡ true → get a ≡ of x → es' ≡ set es n a → n' ≡ n + 1 → Put get of t x es n es' n'
  kept : t ≡ false → es' ≡ es → n' ≡ n → Put get of t x es n es' n'

module _ {A B : Type 0} (get : A → B) (of : Attached → B) {t : Bool} {x : Attached} {es es' : List A} {n n' : ℕ} where
  pub put_count : Put get of t x es n es' n' → n' ≤ n + 1
  put_count (put a on e ea en) = omega (arith, en)
  put_count (kept off ea en) = omega (arith, en)

  put_filled : {start : List A} {xs : List Attached} → n < max_attachments → Put get of t x es n es' n' → Filled get of start es n xs
      → Filled get of start es' n' (xs ++ cond t (x ∷ []) [])
  put_filled {start} {xs} room (put a on e ea en) f =
      let next : n' ≡ suc n = en ∙ add-one n in
      subst (λ b. Filled get of start es' n' (xs ++ cond b (x ∷ []) [])) (sym on) (record {
        long = ap length ea ∙ length-set es n a ∙ f.long;
        entries = (λ i. map get (take (next i) (ea i))) ∙ ap (map get) (take-suc-set es n a (omega (arith, f.long))) ∙ map-append get (take n es) (a ∷ [])
            ∙ (λ i. f.entries i ++ (e i ∷ [])) ∙ sym (map-append of xs (x ∷ []));
        count = omega (arith, en, f.count, length-append xs (x ∷ []));
        rest = ap (drop n') ea ∙ drop-set-lt n' es n a (omega (arith, en)) ∙ drop_more n n' start es (omega (arith, en)) f.rest;
      })
  put_filled {start} {xs} room (kept off ea en) f =
      let e : xs ++ cond t (x ∷ []) [] ≡ xs = ap (λ b. xs ++ cond b (x ∷ []) []) off ∙ append-nil xs in
      subst (Filled get of start es' n') (sym e) (record {
        long = ap length ea ∙ f.long;
        entries = (λ i. map get (take (en i) (ea i))) ∙ f.entries;
        count = en ∙ f.count;
        rest = (λ i. drop (en i) (ea i)) ∙ f.rest ∙ λ i. drop (sym en i) start;
      })

-- ── a pass

-- The depth-stencil attachment stands first.
module _ {A B : Type 0} (get : A → B) (of : Attached → B) (S : Session) {z : A} {zs es : List A} {n : ℕ} where
  pub first_present : {d : DepthStencilPart} (first : A) → ((x : Attached) → Present S d x → get first ≡ of x) → (xs : List Attached) → PartOf S (Some d) xs
      → es ≡ first ∷ zs → n ≡ 1 → length zs ≡ 2 * max_slots → Filled get of (z ∷ zs) es n xs
  first_present first told xs a ea en long = subst (Filled get of (z ∷ zs) es n) (sym a.1) (record {
    long = ap length ea ∙ ap suc long;
    entries = (λ i. map get (take (en i) (ea i))) ∙ λ i. told a.0 a.2 i ∷ [];
    count = en;
    rest = (λ i. drop (en i) (ea i)) ∙ λ i. drop (sym en i) (z ∷ zs);
  })

  pub first_absent : (xs : List Attached) → PartOf S None xs → es ≡ z ∷ zs → n ≡ 0 → length zs ≡ 2 * max_slots → Filled get of (z ∷ zs) es n xs
  first_absent xs a ea en long = subst (Filled get of (z ∷ zs) es n) (sym a) (record {
    long = ap length ea ∙ ap suc long;
    entries = ap (λ (q : ℕ). map get (take q es)) en;
    count = en;
    rest = ap (drop n) ea;
  })

-- A slot: its colour, then its resolve target.
slot_parts_lem : (S : Session) (c : Slot) (xs : List Attached)
    → (xs ++ cond (not (is_none c.view)) (color_of S c ∷ []) [])
    ++ cond (not (is_none c.view) && not (is_none c.resolve)) (resolve_to c.resolve (slice_range (S.view c.resolve) 0) ∷ []) []
    ≡ xs ++ slot_part S c
unfolding slot_part resolve_part
slot_parts_lem S c xs =
    append_assoc xs _ _
    ∙ ap (λ l. xs ++ l) (go (is_none c.view) (is_none c.resolve) (color_of S c) (resolve_to c.resolve (slice_range (S.view c.resolve) 0)))
  where
    go : (e n : Bool) (x y : Attached) → cond (not e) (x ∷ []) [] ++ cond (not e && not n) (y ∷ []) [] ≡ cond e [] (x ∷ cond n [] (y ∷ []))
    go true n x y = refl
    go false true x y = refl
    go false false x y = refl

-- What a slot puts: its colour where it is not empty, and its resolve target where it has one.
abbrev pub PutColor : {A B : Type 0} → (A → B) → (Attached → B) → Session → Slot → List A → ℕ → List A → ℕ → Type 0
PutColor get of S c = Put get of (not (is_none c.view)) (color_of S c)

abbrev pub PutTarget : {A B : Type 0} → (A → B) → (Attached → B) → Session → Slot → List A → ℕ → List A → ℕ → Type 0
PutTarget get of S c = Put get of (not (is_none c.view) && not (is_none c.resolve)) (resolve_to c.resolve (slice_range (S.view c.resolve) 0))

-- One slot further.
pub slot_turn : {A B : Type 0} (get : A → B) (of : Attached → B) (S : Session) (p : Pass) (k : ℕ) {start es es₁ es₂ : List A} {n n₁ n₂ : ℕ} (xs : List Attached)
    → n + 1 < max_attachments → PutColor get of S (p.slot k) es n es₁ n₁ → PutTarget get of S (p.slot k) es₁ n₁ es₂ n₂
    → Filled get of start es n (xs ++ slot_parts S p k) → Filled get of start es₂ n₂ (xs ++ slot_parts S p (k + 1))
slot_turn get of S p k {start} {es} {es₁} {es₂} {n} {n₁} {n₂} xs room color target f =
    subst (Filled get of start es₂ n₂)
    (slot_parts_lem S (p.slot k) (xs ++ slot_parts S p k) ∙ append_assoc xs (slot_parts S p k) (slot_part S (p.slot k)) ∙ ap (λ l. xs ++ l) (sym (parts_turn S p k)))
    (put_filled get of (omega (arith, room, put_count get of color)) target (put_filled get of (omega (arith, room)) color f))

-- ── all of them

-- As plans.
pub all_planned : {start ps : List Planned} {n : ℕ} {xs : List Attached} (few : n ≤ max_attachments) → Filled plan_in plan_of start ps n xs
    → PlansOf xs (record { planned = ps; count = n; few = few })
all_planned few f = record { plans = f.entries; whole = record { planned = f.long; count = few } }

-- Blank records past those of a list.
padded_past : (n : ℕ) (es : List Attachment) → length es ≤ n → es ++ drop (length es) (padded n []) ≡ padded n es
padded_past zero [] h = refl
padded_past zero (a ∷ es) h = absurd (omega arith)
padded_past (suc n) [] h = refl
padded_past (suc n) (a ∷ es) h = ap (λ l. a ∷ l) (padded_past n es (omega arith))

-- The first `count` records are the list.
pub take_padded : (n : ℕ) (xs : List Attachment) → length xs ≤ n → take (length xs) (padded n xs) ≡ xs
take_padded zero [] h = refl
take_padded zero (x ∷ xs) h = absurd (omega arith)
take_padded (suc n) [] h = refl
take_padded (suc n) (x ∷ xs) h = ap (λ l. x ∷ l) (take_padded n xs (omega arith))

map_same : {A : Type 0} (l : List A) → map (λ a. a) l ≡ l
map_same [] = refl
map_same (a ∷ l) = ap (λ q. a ∷ q) (map_same l)

-- As replies, where the array was blank.
pub all_replied : (of : Attached → Attachment) {start rs : List Attachment} {n : ℕ} {xs : List Attached} → n ≤ max_attachments → Filled (λ a. a) of start rs n xs
    → start ≡ padded max_attachments [] → record { records = rs; count = n } ≡ listed (map of xs)
all_replied of {start} {rs} {n} {xs} few f blanks =
    let count : n ≡ length (map of xs) = f.count ∙ sym (length-map xs of) in
    let records : rs ≡ padded max_attachments (map of xs) =
    sym (take-append-drop n rs) ∙ (λ i. (sym (map_same (take n rs)) ∙ f.entries) i ++ (f.rest ∙ ap (drop n) blanks) i)
    ∙ ap (λ (q : ℕ). map of xs ++ drop q (padded max_attachments [])) count ∙ padded_past max_attachments (map of xs) (omega (arith, few, count)) in
    λ i. record { records = records i; count = count i }
