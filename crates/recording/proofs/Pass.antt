-- What recording leaves in the lists of a whole pass, by the discards that it looks at.
use Prim.Native.Nat.{ℕ, ◌+◌, ◌≤◌}
use native.Mathlib.Omega.{arith}
use mathlib.Core.Path.{◌≡◌, refl, sym, ap, subst, ◌∙◌}
use mathlib.Core.Bool.{Bool, true, false, cond}
use mathlib.Core.List.{List, [], ◌∷◌, ◌++◌}
use mathlib.Core.Option.{Option, none, some}
use lib.Dec.{eqb}
use lib.ListN.{length, length-append}
use borrow.Author.Tests.{eqb-true}
use Rattle.definition.specs.Sizes.{surface_bytes, action_bytes, list_bytes, max_actions, max_clears}
use Rattle.definition.specs.Pass.{new_pass}
use Rattle.definition.specs.declared.Surface.{Surface}
use Rattle.definition.specs.declared.MemoryInitKind.{MemoryInitKind}
use Rattle.laws.specs.Records.{records}
use Rattle.laws.specs.Plans.{Plan, leaving_by, leaving_all, staying_all, returned_all, added_all, listed_all, together}
use Rattle.laws.proofs.Plans.{none_returned, none_implicit}
use Rattle.lists.specs.Lists.{action_of_bytes, count_in, surfaces_in, actions_in, Room, SurfacesBecome, ActionsBecome, first_surfaces}
use Rattle.lists.specs.Lent.{ListBytes, bytes, lists_in, Leaves}
use Rattle.lists.proofs.Lists.{list_length}
use Rattle.memory_init.specs.declared.tally.Tally.{Tally}
use Rattle.discard_list.specs.Discards.{LentDiscards}
use Rattle.recording.specs.Recording.{looked, Recordable}

-- Of no discards none leaves.
none_found : (ps : List Plan) → length (leaving_all ps []) ≡ 0
none_found [] = refl
none_found (p ∷ ps) = omega (arith, length-append (leaving_by p.kind p.range []) (leaving_all ps []), none_found_by p.kind, none_found ps)
  where
    none_found_by : (k : Option MemoryInitKind) → length (leaving_by k p.range []) ≡ 0
    none_found_by none = refl
    none_found_by (some k) = refl

-- Discards that are not looked at where none of them leaves make no difference.
looked_same : {A : Type 0} (f : List Surface → List A) (ps : List Plan) (leaving : ℕ) (b : List ℕ) → leaving ≡ length (leaving_all ps (surfaces_in b)) → ((d : List Surface) → length (leaving_all ps d) ≡ 0 → f d ≡ f [])
    → f (first_surfaces (looked leaving (count_in b)) b) ≡ f (surfaces_in b)
unfolding records
looked_same f ps leaving b h same = go (eqb leaving 0) refl
  where
    go : (q : Bool) → eqb leaving 0 ≡ q → f (first_surfaces (cond q 0 (count_in b)) b) ≡ f (surfaces_in b)
    go true e = sym (same (surfaces_in b) (sym h ∙ eqb-true leaving 0 e))
    go false e = refl

-- No more are looked at than there are.
looked_most : (leaving n : ℕ) → looked leaving n ≤ n
looked_most leaving n = go (eqb leaving 0)
  where
    go : (q : Bool) → cond q 0 n ≤ n
    go true = omega arith
    go false = omega arith

-- Lent lists that have room for what the plans leave, of which the first n discards are looked at.
module _ (ps : List Plan) (t : Tally) (b : ListBytes) (r : Recordable ps t b) (n : ℕ) (looks : n ≡ looked t.leaving (count_in b.discards)) where
  -- The actions are those of all discards.
  all_added : added_all ps (first_surfaces n b.discards) ≡ added_all ps (surfaces_in b.discards)
  all_added = ap (λ (q : ℕ). added_all ps (first_surfaces q b.discards)) looks ∙ looked_same (added_all ps) ps t.leaving b.discards r.tallied.leaving (none_implicit ps)

  -- So are the clears.
  all_returned : returned_all ps (first_surfaces n b.discards) ≡ returned_all ps (surfaces_in b.discards)
  all_returned =
      ap (λ (q : ℕ). returned_all ps (first_surfaces q b.discards)) looks
      ∙ looked_same (returned_all ps) ps t.leaving b.discards r.tallied.leaving (λ d e. none_returned ps d e ∙ sym (none_returned ps [] (none_found ps)))

  -- The discards that are looked at lie inside.
  pub looked_inside : list_bytes surface_bytes n ≤ length b.discards
  looked_inside = omega (arith, looks, looked_most t.leaving (count_in b.discards), r.held.long, r.held.count)

  -- The actions have room.
  pub actions_room : Room action_bytes (count_in b.actions + length (added_all ps (first_surfaces n b.discards))) b.actions
  actions_room =
      let most : count_in b.actions + length (added_all ps (first_surfaces n b.discards)) ≤ max_actions =
      omega (
        arith,
        ap length all_added,
        list_length action_bytes action_of_bytes b.actions,
        length-append (actions_in b.actions) (added_all ps (surfaces_in b.discards)),
        r.fits.actions,
      ) in
      record { bytes = omega (arith, most, r.long.actions); small = omega (arith, most) }

  -- So have the clears.
  pub clears_room : Room surface_bytes (length (returned_all ps (first_surfaces n b.discards))) b.clears
  clears_room =
      let most : length (returned_all ps (first_surfaces n b.discards)) ≤ max_clears = omega (arith, ap length all_returned, r.fits.clears) in
      record { bytes = omega (arith, most, r.long.clears); small = omega (arith, most) }

  -- And so have the discards.
  pub discards_lent : LentDiscards ps t.leaving b.discards
  discards_lent = record {
    held = r.held;
    counted = r.tallied.leaving;
    layers = r.layers;
    room = record { bytes = omega (arith, r.fits.discards, r.held.long); small = omega (arith, r.fits.discards) };
  }

  -- What the three parts leave is what the plans leave together.
  pub pass_leaves : {d a c : List ℕ} → SurfacesBecome (staying_all ps (surfaces_in b.discards) ++ listed_all ps) b.discards d
      → ActionsBecome (actions_in b.actions ++ added_all ps (first_surfaces n b.discards)) b.actions a
      → SurfacesBecome (returned_all ps (first_surfaces n b.discards)) b.clears c
      → Leaves (together ps (new_pass (lists_in b))) b (bytes d a c)
  pass_leaves {a = a} {c = c} kept added returned = record {
    discards = kept;
    actions = subst (λ l. ActionsBecome (actions_in b.actions ++ l) b.actions a) all_added added;
    clears = subst (λ l. SurfacesBecome l b.clears c) all_returned returned;
  }
