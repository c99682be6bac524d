-- Each record of a lent list that is valid.
use Prim.Native.Nat.{ℕ, ◌<◌}
use mathlib.Core.Path.{◌≡◌, ap, ◌∙◌}
use mathlib.Core.Bool.{Bool, true, ◌&&◌, and-true}
use mathlib.Core.List.{List, [], ◌∷◌, ◌++◌}
use lib.ListN.{drop}
use Rattle.definition.specs.Sizes.{surface_bytes, action_bytes, count_bytes}
use Rattle.definition.specs.Session.{Session}
use Rattle.definition.specs.Calls.{surface_valid, range_valid, surfaces_valid, actions_valid}
use Rattle.laws.specs.Records.{record_at, records}
use Rattle.laws.proofs.Folds.{and_each}
use Rattle.laws.proofs.Lent.{surfaces_append, actions_append}
use Rattle.laws.proofs.Records.{records_suc}
use Rattle.lists.specs.Lists.{surface_of, action_of_bytes, count_in, list_in, surfaces_in, actions_in, surface_in, action_in}

-- A test of a list that is one of each entry: where a lent list passes it, each record does.
list_each : {A : Type 0} (k : ℕ) (decode : List ℕ → A) (all : List A → Bool) (one : A → Bool) → ((xs : List A) (x : A) → all (xs ++ (x ∷ [])) ≡ (all xs && one x))
    → (b : List ℕ) → all (list_in k decode b) ≡ true → (i : ℕ) → i < count_in b → one (record_at k decode i (drop count_bytes b)) ≡ true
list_each k decode all one more b =
    let l = drop count_bytes b in
    and_each (λ n. all (records k decode n l)) (λ i. one (record_at k decode i l)) (λ n. ap all (records_suc k decode n l) ∙ more (records k decode n l) (record_at k decode n l)) (count_in b)

-- The session has each surface of a list that is valid, and the range of each action.
pub surfaces_each : (S : Session) (b : List ℕ) → surfaces_valid S (surfaces_in b) ≡ true → (i : ℕ) → i < count_in b → surface_valid S (surface_in i b) ≡ true
surfaces_each S =
    list_each surface_bytes surface_of (surfaces_valid S) (surface_valid S) (λ xs x. surfaces_append S xs (x ∷ []) ∙ ap (λ q. surfaces_valid S xs && q) (and-true (surface_valid S x)))

pub actions_each : (S : Session) (b : List ℕ) → actions_valid S (actions_in b) ≡ true → (i : ℕ) → i < count_in b → range_valid S (action_in i b).range ≡ true
actions_each S =
    list_each action_bytes action_of_bytes (actions_valid S) (λ x. range_valid S x.range) (λ xs x. actions_append S xs (x ∷ []) ∙ ap (λ q. actions_valid S xs && q) (and-true (range_valid S x.range)))
