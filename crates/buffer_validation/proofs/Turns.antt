-- Each test of a list is the test of one entry more.
use Prim.Native.Nat.{ℕ, suc, ◌+◌, ◌-◌, ◌≤◌, ◌<◌}
use native.Mathlib.Omega.{arith}
use native.Mathlib.Numerals.{add-one}
use mathlib.Core.Path.{◌≡◌, refl, sym, ap, ◌∙◌}
use mathlib.Core.Bool.{Bool, true, false, ◌&&◌, and-true, and_assoc}
use mathlib.Core.List.{List, [], ◌∷◌, ◌++◌}
use lib.Dec.{leb}
use lib.ListN.{length, get_or, drop}
use Rattle.definition.specs.Sizes.{surface_bytes, action_bytes, count_bytes}
use Rattle.definition.specs.Session.{Session}
use Rattle.definition.specs.Calls.{surface_valid, range_valid, surfaces_valid, actions_valid, bytes_valid}
use Rattle.definition.specs.declared.Surface.{Surface}
use Rattle.definition.specs.declared.Action.{Action}
use Rattle.laws.proofs.Tests.{and_on, and_off_right}
use Rattle.laws.proofs.Lent.{surfaces_append, actions_append}
use Rattle.laws.proofs.Folds.{and_stops, bytes_turn}
use Rattle.laws.specs.Records.{record_at, records}
use Rattle.laws.proofs.Records.{records_suc}
use Rattle.lists.specs.Lists.{surface_of, action_of_bytes, surface_in, action_in, first_surfaces, first_actions}

-- A test of a list that is one of each entry: of records one after another, as far as one that fails.
module _ {A : Type 0} (k : ℕ) (decode : List ℕ → A) (all : List A → Bool) (one : A → Bool) (more : (xs : List A) (x : A) → all (xs ++ (x ∷ [])) ≡ (all xs && one x)) (l : List ℕ) where
  -- One more.
  next : (i : ℕ) → all (records k decode (suc i) l) ≡ (all (records k decode i l) && one (record_at k decode i l))
  next i = ap all (records_suc k decode i l) ∙ more (records k decode i l) (record_at k decode i l)

  -- One more that passes, after others that do.
  records_go : (i : ℕ) → all (records k decode i l) ≡ true → one (record_at k decode i l) ≡ true → all (records k decode (i + 1) l) ≡ true
  records_go i h e = ap (λ (q : ℕ). all (records k decode q l)) (add-one i) ∙ next i ∙ and_on (all (records k decode i l)) (one (record_at k decode i l)) h e

  -- One that fails decides.
  records_stop : (i n : ℕ) → i < n → one (record_at k decode i l) ≡ false → all (records k decode n l) ≡ false
  records_stop i n h e =
      and_stops (λ m. all (records k decode m l)) (λ m. one (record_at k decode m l)) next (suc i) n h
      (next i ∙ and_off_right (all (records k decode i l)) (one (record_at k decode i l)) e)

module _ (S : Session) where
  -- One entry more of a list.
  surfaces_more : (xs : List Surface) (x : Surface) → surfaces_valid S (xs ++ (x ∷ [])) ≡ (surfaces_valid S xs && surface_valid S x)
  surfaces_more xs x = surfaces_append S xs (x ∷ []) ∙ ap (λ q. surfaces_valid S xs && q) (and-true (surface_valid S x))

  actions_more : (xs : List Action) (x : Action) → actions_valid S (xs ++ (x ∷ [])) ≡ (actions_valid S xs && range_valid S x.range)
  actions_more xs x = actions_append S xs (x ∷ []) ∙ ap (λ q. actions_valid S xs && q) (and-true (range_valid S x.range))

  module _ (b : List ℕ) where
    -- Surfaces: none, one more in range, and one that is not.
    pub surfaces_none : surfaces_valid S (first_surfaces 0 b) ≡ true
    unfolding records
    surfaces_none = refl

    pub surfaces_go : (i : ℕ) → surfaces_valid S (first_surfaces i b) ≡ true → surface_valid S (surface_in i b) ≡ true → surfaces_valid S (first_surfaces (i + 1) b) ≡ true
    surfaces_go = records_go surface_bytes surface_of (surfaces_valid S) (surface_valid S) surfaces_more (drop count_bytes b)

    pub surfaces_stop : (i n : ℕ) → i < n → surface_valid S (surface_in i b) ≡ false → surfaces_valid S (first_surfaces n b) ≡ false
    surfaces_stop = records_stop surface_bytes surface_of (surfaces_valid S) (surface_valid S) surfaces_more (drop count_bytes b)

    -- Actions: the same of their ranges.
    pub actions_go : (i : ℕ) → actions_valid S (first_actions i b) ≡ true → range_valid S (action_in i b).range ≡ true → actions_valid S (first_actions (i + 1) b) ≡ true
    actions_go = records_go action_bytes action_of_bytes (actions_valid S) (λ x. range_valid S x.range) actions_more (drop count_bytes b)

    -- The same before so many that are left of all.
    pub actions_start : (n : ℕ) → actions_valid S (first_actions (n - n) b) ≡ true
    unfolding records
    actions_start n =
        let none : n - n ≡ 0 = omega arith in
        ap (λ (q : ℕ). actions_valid S (first_actions q b)) none

    pub actions_fewer : (n left : ℕ) → 0 < left → left ≤ n → actions_valid S (first_actions (n - left) b) ≡ true → range_valid S (action_in (n - left) b).range ≡ true → actions_valid S (first_actions (n - (left - 1)) b) ≡ true
    actions_fewer n left some few h e =
        let more : n - (left - 1) ≡ n - left + 1 = omega arith in
        ap (λ (q : ℕ). actions_valid S (first_actions q b)) more ∙ actions_go (n - left) h e

    pub actions_stop : (i n : ℕ) → i < n → range_valid S (action_in i b).range ≡ false → actions_valid S (first_actions n b) ≡ false
    actions_stop = records_stop action_bytes action_of_bytes (actions_valid S) (λ x. range_valid S x.range) actions_more (drop count_bytes b)

-- Of the bytes, what is tested so far and what is left.
pub bytes_start : (bs : List ℕ) (n : ℕ) → bytes_valid n bs ≡ (true && bytes_valid (n - 0) (drop 0 bs))
bytes_start bs n = ap (λ (q : ℕ). bytes_valid q bs) (let e : n ≡ n - 0 = omega arith in e)

pub bytes_further : (bs : List ℕ) (n i : ℕ) (ok : Bool) → i < n → n ≤ length bs → bytes_valid n bs ≡ (ok && bytes_valid (n - i) (drop i bs))
    → bytes_valid n bs ≡ ((ok && leb (get_or bs i 0) 3) && bytes_valid (n - (i + 1)) (drop (i + 1) bs))
bytes_further bs n i ok h g e = e ∙ ap (λ q. ok && q) (bytes_turn bs n i h g) ∙ sym (and_assoc ok (leb (get_or bs i 0) 3) _)

pub bytes_end : (bs : List ℕ) (n i : ℕ) (ok : Bool) → n ≤ i → bytes_valid n bs ≡ (ok && bytes_valid (n - i) (drop i bs)) → ok ≡ bytes_valid n bs
bytes_end bs n i ok h e =
    let z : n - i ≡ 0 = omega arith in
    sym (e ∙ ap (λ (q : ℕ). ok && bytes_valid q (drop i bs)) z ∙ and-true ok)
