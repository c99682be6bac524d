-- Buffers that are long enough, and what number 6 says of what they hold, as facts for callers.
use Prim.Native.Nat.{ℕ, ◌≤◌}
use native.Mathlib.Nat.{mul-le-mul_left}
use native.Mathlib.Omega.{arith}
use mathlib.Core.Path.{◌≡◌}
use mathlib.Core.Bool.{Bool, true, false, ◌||◌}
use mathlib.Core.List.{List, [], ◌∷◌}
use lib.Dec.{leb, ltb}
use lib.ListN.{length}
use borrow.Author.Tests.{leb-true, ltb-false}
use Rattle.definition.specs.Sizes.{max_surfaces, max_discards, max_actions, max_clears, surface_bytes, action_bytes, list_bytes, discards_bytes, actions_bytes, clears_bytes}
use Rattle.definition.specs.Session.{Session, surface_count}
use Rattle.definition.specs.MemoryInit.{Lists}
use Rattle.definition.specs.Calls.{State, surfaces_valid, actions_valid, bytes_valid, counts_valid, lent_valid}
use Rattle.laws.proofs.Conjunctions.{each}
use Rattle.laws.proofs.Tests.{or_off_left, or_off_right}
use Rattle.lists.specs.Lists.{surface_of, action_of_bytes, count_in, list_in}
use Rattle.lists.specs.Lent.{ListBytes, lists_in, Long, Fits}
use Rattle.lists.proofs.Lists.{list_length}
use Rattle.buffer_validation.specs.Buffers.{Buffers, too_short, RecordsInside}

-- ── long enough

module _ (b : Buffers) where
  -- What is tested of each buffer.
  abbrev discards_short : Bool
  discards_short = ltb (length b.lists.discards) discards_bytes

  abbrev actions_short : Bool
  actions_short = ltb (length b.lists.actions) actions_bytes

  abbrev clears_short : Bool
  clears_short = ltb (length b.lists.clears) clears_bytes

  abbrev status_short : Bool
  status_short = ltb (length b.status) max_surfaces

  -- Buffers that are not too short have the bytes of all their room.
  pub long_of : too_short b ≡ false → Long b.lists
  unfolding too_short
  long_of h =
      let three = or_off_left (discards_short || actions_short || clears_short) status_short h in
      let two = or_off_left (discards_short || actions_short) clears_short three in
      record {
        discards = ltb-false (length b.lists.discards) discards_bytes (or_off_left discards_short actions_short two);
        actions = ltb-false (length b.lists.actions) actions_bytes (or_off_right discards_short actions_short two);
        clears = ltb-false (length b.lists.clears) clears_bytes (or_off_right (discards_short || actions_short) clears_short three);
      }

  -- And a status byte for every surface that a session may have.
  pub status_long : too_short b ≡ false → max_surfaces ≤ length b.status
  unfolding too_short
  status_long h = ltb-false (length b.status) max_surfaces (or_off_right (discards_short || actions_short || clears_short) status_short h)

-- The records that a count within the room names lie inside.
list_inside : {A : Type 0} (k most : ℕ) (decode : List ℕ → A) (b : List ℕ) → list_bytes k most ≤ length b → length (list_in k decode b) ≤ most → list_bytes k (count_in b) ≤ length b
list_inside k most decode b long fits =
    let few : count_in b ≤ most = omega (arith, list_length k decode b, fits) in
    omega (arith, long, mul-le-mul_left k few)

-- So do those of lists that fit, in bytes that are long enough.
pub records_inside : (b : ListBytes) → Long b → Fits (lists_in b) → RecordsInside b
records_inside b long fits = record {
  discards = list_inside surface_bytes max_discards surface_of b.discards long.discards fits.discards;
  actions = list_inside action_bytes max_actions action_of_bytes b.actions long.actions fits.actions;
  clears = list_inside surface_bytes max_clears surface_of b.clears long.clears fits.clears;
}

-- ── valid

-- Counts in range.
pub counts_fit : (l : Lists) → counts_valid l ≡ true → Fits l
unfolding counts_valid
counts_fit l h =
    let test = each (leb (length l.discards) max_discards ∷ leb (length l.actions) max_actions ∷ leb (length l.clears) max_clears ∷ []) h in
    record {
      discards = leb-true (length l.discards) max_discards (test 0);
      actions = leb-true (length l.actions) max_actions (test 1);
      clears = leb-true (length l.clears) max_clears (test 2);
    }

module _ (S : Session) (σ : State) where
  -- What is tested of what is lent.
  abbrev tests : List Bool
  tests =
      counts_valid σ.lists ∷ surfaces_valid S σ.lists.discards ∷ actions_valid S σ.lists.actions ∷ surfaces_valid S σ.lists.clears
      ∷ bytes_valid (surface_count S) σ.status ∷ []

  -- What is lent is valid: its lists fit, and the session has what the discards and the actions name.
  pub valid_fits : lent_valid S σ ≡ true → Fits σ.lists
  unfolding lent_valid
  valid_fits h = counts_fit σ.lists (each tests h 0)

  pub valid_surfaces : lent_valid S σ ≡ true → surfaces_valid S σ.lists.discards ≡ true
  unfolding lent_valid
  valid_surfaces h = each tests h 1

  pub valid_actions : lent_valid S σ ≡ true → actions_valid S σ.lists.actions ≡ true
  unfolding lent_valid
  valid_actions h = each tests h 2
