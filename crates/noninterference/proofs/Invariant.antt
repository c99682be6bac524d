-- The invariant, surface by surface: what a submission now would leave filled is what the passes kept, and whatever surfaces it zeroes beyond
-- those it must, the waiting passes load equal values. It holds at the start, through an accepted pass and through a submission.
use mathlib.Core.Path.{◌≡◌, refl, sym, ap, ap₂, subst, ◌∙◌}
use mathlib.Core.Bool.{Bool, true, false, not, ◌&&◌, ◌||◌, cond}
use mathlib.Core.List.{List, [], ◌∷◌, ◌++◌, map}
use mathlib.Core.Option.{Option, none, some}
use Prim.Native.Nat.{ℕ, ◌≤◌}
use native.Mathlib.Omega.{arith}
use lib.ListN.{length}
use Rattle.definition.specs.Surfaces.{elem}
use Rattle.definition.specs.Session.{Session, surfaces_of}
use Rattle.definition.specs.Status.{filled, cleared, restart, act_byte, empty_byte}
use Rattle.definition.specs.Attachments.{Attached, kind_of, discards, attach_all}
use Rattle.definition.specs.Pass.{new_pass}
use Rattle.definition.specs.Submission.{byte_after}
use Rattle.definition.specs.MemoryInit.{Lists}
use Rattle.definition.specs.Calls.{State, no_entries, submit_state}
use Rattle.definition.specs.declared.Surface.{Surface}
use Rattle.definition.specs.declared.MemoryInitKind.{MemoryInitKind}
use Rattle.definition.specs.declared.MemoryInitKind.TheVariants.{ImplicitlyInitialized, NeedsInitializedMemory}
use Rattle.laws.specs.Surfaces.{Inside}
use Rattle.laws.proofs.Tests.{clash, and_left, and_right, and_on, or_on_left, or_on_right, or_off_left, or_first, not_on, not_off, cond_agree}
use Rattle.laws.proofs.Status.{filled_fresh, filled_restart, filled_act, filled_empty, cleared_act, cleared_empty, needing_clears}
use Rattle.laws.proofs.Submission.{submit_length, submitted_byte}
use Rattle.noninterference.specs.Memory.{Use, Told, Cells, Drawing, byte_of, zeroed, before, sees, cell_after, run, runs, shown, started}
use Rattle.noninterference.specs.Claim.{Fresh, Agree, all_discarded, later, last_use, kept}
use Rattle.noninterference.proofs.Spots.{Spot, spot, plan_spot, kind_byte, is_none, needs}
use Rattle.noninterference.proofs.Plans.{planned_use, parts_of, any_load, proper, plan_loads, plan_keeps, plan_discards, plan_settled}
use Rattle.laws.specs.Separate.{reaches}
use Rattle.noninterference.proofs.Passes.{find, All, Distinct, via_use, via_find, use_found, pass_spot, all_found, found_all}
use Rattle.noninterference.proofs.Sound.{Sound, all_names, all_spreads}
use Rattle.noninterference.proofs.Fresh.{fresh_byte, fresh_long}
use Rattle.noninterference.proofs.Cells.{values_eq, settled_cell, runs_snoc, shown_snoc, last_append}

-- ── one attachment, at its surface

-- The byte that a submission would leave.
abbrev pub settle : Spot → ℕ
settle y = cond y.listed (empty_byte y.byte) y.byte

settle_kind : (k : Option MemoryInitKind) (d : Bool) (y : Spot) → (d ≡ false → is_none k ≡ false) → filled (settle (plan_spot k d y)) ≡ not d
settle_kind none true y h = filled_empty y.byte
settle_kind none false y h = clash {b = true} refl (h refl)
settle_kind (some c) true y h = filled_empty (act_byte c y.byte)
settle_kind (some c) false y h = filled_act c y.byte

-- It would be filled where the attachment does not discard the surface in every aspect.
settle_plan : (x : Attached) → proper x ≡ true → (y : Spot) → filled (settle (plan_spot (kind_of x) (discards x) y)) ≡ not (all_discarded (parts_of x))
settle_plan x h y = settle_kind (kind_of x) (discards x) y (plan_keeps x h) ∙ ap not (plan_discards x h)

cleared_settle : (y : Spot) → cleared (settle y) ≡ cleared y.byte
cleared_settle y = go y.listed
  where
    go : (b : Bool) → cleared (cond b (empty_byte y.byte) y.byte) ≡ cleared y.byte
    go true = cleared_empty y.byte
    go false = refl

-- Filled after the submission: filled by the actions, and not listed.
settle_on : (y : Spot) (t : Bool) → filled (settle y) ≡ true → ((filled y.byte || t) && not y.listed) ≡ true
settle_on y t = go y.listed
  where
    go : (b : Bool) → filled (cond b (empty_byte y.byte) y.byte) ≡ true → ((filled y.byte || t) && not b) ≡ true
    go true h = clash h (filled_empty y.byte)
    go false h = rw h

-- What is cleared stays so through a pass.
kind_cleared : (k : Option MemoryInitKind) (b : ℕ) → cleared b ≡ true → cleared (kind_byte k b) ≡ true
kind_cleared none b h = h
kind_cleared (some c) b h = cleared_act c b h

find_cleared : (f : Option Attached) (y : Spot) → cleared y.byte ≡ true → cleared (via_find f y).byte ≡ true
find_cleared none y h = h
find_cleared (some x) y h = kind_cleared (kind_of x) y.byte h

-- A loading attachment: a clear is due where the surface is listed, and an empty surface is cleared by the submission.
need_due : (k : Option MemoryInitKind) (d : Bool) (y : Spot) → needs k ≡ true → y.due ≡ false → (plan_spot k d y).due ≡ y.listed
need_due none d y h e = clash {b = false} h refl
need_due (some NeedsInitializedMemory) d y h e = rw e
need_due (some ImplicitlyInitialized) d y h e = clash {b = false} h refl

need_clears : (k : Option MemoryInitKind) (d : Bool) (y : Spot) → needs k ≡ true → filled y.byte ≡ false → cleared (plan_spot k d y).byte ≡ true
need_clears none d y h e = clash {b = false} h refl
need_clears (some NeedsInitializedMemory) d y h e = needing_clears y.byte e
need_clears (some ImplicitlyInitialized) d y h e = clash {b = false} h refl

-- ── states

-- A state that an accepted pass leaves.
abbrev pub pass_state : List Attached → State → State
pass_state xs σ = record { lists = attach_all xs (new_pass σ.lists); status = σ.status }

-- The spot of a surface, run from the byte that a submission begins with.
abbrev pub spot_at : Session → State → Surface → Spot
spot_at S σ s = spot s (restart (byte_of S σ.status s)) σ.lists

module _ {Val : Type 0} (D : Drawing Val) (left left' : ℕ → Cells Val) (S : Session) where
  -- ── the invariant

  -- Let z be any surfaces that have all those which a submission now would clear. From any two memories that agree on what is filled and on z,
  -- the waiting passes load equal values, and afterwards the memories agree where the actions fill or z has the surface, and no discard is listed.
  abbrev pub Hold : State → List Told → Type 0
  Hold σ ws =
      (z : Surface → Bool) (m m' : Cells Val)
      → ((s : Surface) → Inside S s → cleared (spot_at S σ s).byte ≡ true → z s ≡ true)
      → ((s : Surface) → Inside S s → (filled (byte_of S σ.status s) || z s) ≡ true → Agree S s m m')
      → (shown D left ws m ≡ shown D left' ws m')
      × ((s : Surface) → Inside S s → ((filled (spot_at S σ s).byte || z s) && not (spot_at S σ s).listed) ≡ true
      → Agree S s (runs D left ws m) (runs D left' ws m'))

  -- Of a state, the submitted passes hs, the waiting passes ws, and the two memories after the last submission.
  pub record Inv (σ : State) (hs ws : List Told) (m m' : Cells Val) : Type 0 where
    -- There is a byte for each surface.
    pub room : length (surfaces_of S) ≤ length σ.status
    -- Filled is what the last of hs kept, and there the memories agree.
    pub past : (s : Surface) → Inside S s → filled (byte_of S σ.status s) ≡ kept (last_use none hs s)
    pub agree : (s : Surface) → Inside S s → filled (byte_of S σ.status s) ≡ true → Agree S s m m'
    -- A submission now would fill what the last of hs and ws kept.
    pub next : (s : Surface) → Inside S s → filled (settle (spot_at S σ s)) ≡ kept (last_use (last_use none hs s) ws s)
    pub hold : Hold σ ws

  -- ── the start

  -- No entries, and no surface is filled.
  empty_inv : (bytes : List ℕ) → length (surfaces_of S) ≤ length bytes → ((s : Surface) → Inside S s → filled (byte_of S bytes s) ≡ false)
      → (m m' : Cells Val) → Inv (record { lists = no_entries; status = bytes }) [] [] m m'
  unfolding spot
  empty_inv bytes long empty m m' = record {
    room = long;
    past = empty;
    agree = λ s ok e. clash e (empty s ok);
    next = λ s ok. filled_restart (byte_of S bytes s) ∙ empty s ok;
    hold = λ z n n' covers ag. (refl, λ s ok c. ag s ok (ap (λ b. b || z s) (sym (filled_restart (byte_of S bytes s))) ∙ and_left _ _ c));
  }

  pub start : (σ : State) → Fresh S σ → (m m' : Cells Val) → Inv σ [] [] m m'
  start σ h m m' =
      subst (λ (l : Lists). Inv (record { lists = l; status = σ.status }) [] [] m m') (sym h.lists)
      (empty_inv σ.status (fresh_long S σ h) (λ s ok. ap filled (fresh_byte S σ h s ok) ∙ filled_fresh) m m')

  -- ── an accepted pass

  module _ (xs : List Attached) (so : All (Sound S) xs) (di : Distinct xs) (σ : State) (n : ℕ) where
    -- What the memory is told of it.
    abbrev pub now : Told
    now = record { number = n; uses = map planned_use xs; clears = (pass_state xs σ).lists.clears }

    -- The spot before it, and after it.
    abbrev old : Surface → Spot
    old s = spot s (restart (byte_of S σ.status s)) (new_pass σ.lists)

    at_pass : (s : Surface) → spot_at S (pass_state xs σ) s ≡ via_find (find s xs) (old s)
    at_pass s = pass_spot xs (all_names S xs so) di s (restart (byte_of S σ.status s)) (new_pass σ.lists)

    at_found : (s : Surface) (f : Option Attached) → find s xs ≡ f → spot_at S (pass_state xs σ) s ≡ via_find f (old s)
    at_found s f e = at_pass s ∙ ap (λ g. via_find g (old s)) e

    pub pass_next : (o : Option Use) (ws : List Told) (s : Surface) → filled (settle (spot_at S σ s)) ≡ kept (last_use o ws s)
        → filled (settle (spot_at S (pass_state xs σ) s)) ≡ kept (last_use o (ws ++ (now ∷ [])) s)
    unfolding spot
    pass_next o ws s h =
        ap (λ y. filled (settle y)) (at_pass s)
        ∙ go (find s xs) refl
        ∙ sym (ap kept (last_append o ws (now ∷ []) s) ∙ ap (λ f. kept (later f (last_use o ws s))) (use_found xs (all_spreads S xs so) s))
      where
        go : (f : Option Attached) → find s xs ≡ f → filled (settle (via_find f (old s))) ≡ kept (later (via_use f) (last_use o ws s))
        go none e = h
        go (some x) e = settle_plan x (found_all (Sound S) xs so s x e).0.strict (old s)

    -- From two memories M, M' as the waiting passes leave them.
    module _ (z : Surface → Bool) (M M' : Cells Val)
        (covers : (s : Surface) → Inside S s → cleared (spot_at S (pass_state xs σ) s).byte ≡ true → z s ≡ true)
        (ag : (s : Surface) → Inside S s → ((filled (spot_at S σ s).byte || z s) && not (spot_at S σ s).listed) ≡ true → Agree S s M M') where
      -- A surface that the pass loads is zeroed in both, or the two agree on it.
      load_agree : (x : Attached) (s : Surface) → find s xs ≡ some x → any_load (parts_of x) ≡ true → Agree S s (before D now M) (before D now M')
      unfolding spot
      load_agree x s f e a ha = cond_agree (elem s now.clears) D.nil (M s a) (M' s a) (λ off. ag s ok (unlisted off) a ha)
        where
          sx : Sound S x × (reaches x s ≡ true)
          sx = found_all (Sound S) xs so s x f

          ok : Inside S s
          ok = sx.0.inside s sx.1

          need : needs (kind_of x) ≡ true
          need = sym (plan_loads x sx.0.strict) ∙ e

          here : spot_at S (pass_state xs σ) s ≡ plan_spot (kind_of x) (discards x) (old s)
          here = at_found s (some x) f

          due : elem s now.clears ≡ elem s σ.lists.discards
          due = ap (λ y. y.due) here ∙ need_due (kind_of x) (discards x) (old s) need refl

          ready : (b : Bool) → filled (old s).byte ≡ b → (filled (old s).byte || z s) ≡ true
          ready true g = or_on_left (filled (old s).byte) (z s) g
          ready false g =
              or_on_right (filled (old s).byte) (z s)
              (covers s ok (ap (λ y. cleared y.byte) here ∙ need_clears (kind_of x) (discards x) (old s) need g))

          unlisted : elem s now.clears ≡ false → ((filled (old s).byte || z s) && not (old s).listed) ≡ true
          unlisted off = and_on (filled (old s).byte || z s) (not (old s).listed) (ready (filled (old s).byte) refl) (not_on (old s).listed (sym due ∙ off))

      pass_sees : sees D now M ≡ sees D now M'
      pass_sees =
          values_eq D S xs (before D now M) (before D now M') so
          (all_found (λ x s. any_load (parts_of x) ≡ true → Agree S s (before D now M) (before D now M')) xs di load_agree)

      -- After it they agree where no discard is listed: it left the surface alone, or settled every aspect.
      pass_after : (s : Surface) → Inside S s → ((filled (spot_at S (pass_state xs σ) s).byte || z s) && not (spot_at S (pass_state xs σ) s).listed) ≡ true
          → Agree S s (run D left now M) (run D left' now M')
      unfolding spot
      pass_after s ok c a ha = rw (use_found xs (all_spreads S xs so) s) (go (find s xs) refl)
        where
          go : (f : Option Attached) → find s xs ≡ f
              → cell_after D (via_use f) a (before D now M s a) (D.draw n (sees D now M) s a) (left n s a)
              ≡ cell_after D (via_use f) a (before D now M' s a) (D.draw n (sees D now M') s a) (left' n s a)
          go none e =
              cond_agree (elem s now.clears) D.nil (M s a) (M' s a)
              (λ off. ag s ok (subst (λ y. ((filled y.byte || z s) && not y.listed) ≡ true) (at_found s none e) c) a ha)
          go (some x) e =
              settled_cell D x a (plan_settled x a sx.0.strict unlisted (sym (sx.0.aspects s sx.1 a) ∙ ha)) _ _ _ _ _ _
              (ap (λ v. D.draw n v s a) pass_sees)
            where
              sx : Sound S x × (reaches x s ≡ true)
              sx = found_all (Sound S) xs so s x e

              unlisted : discards x ≡ false
              unlisted =
                  or_off_left (discards x) (is_none (kind_of x) && (old s).listed)
                  (not_off _ (and_right (filled (kind_byte (kind_of x) (old s).byte) || z s) _
                  (subst (λ y. ((filled y.byte || z s) && not y.listed) ≡ true) (at_found s (some x) e) c)))

    pub pass_hold : (ws : List Told) → Hold σ ws → Hold (pass_state xs σ) (ws ++ (now ∷ []))
    unfolding spot
    pass_hold ws h z m m' covers ag = (
      shown_snoc D left ws now m
          ∙ ap₂ (λ l v. l ++ (v ∷ [])) r.0 (pass_sees z M M' covers r.1)
          ∙ sym (shown_snoc D left' ws now m'),
      λ s ok c a ha. ap (λ f. f s a) (runs_snoc D left ws now m)
          ∙ pass_after z M M' covers r.1 s ok c a ha
          ∙ sym (ap (λ f. f s a) (runs_snoc D left' ws now m')),
    )
      where
        M : Cells Val
        M = runs D left ws m

        M' : Cells Val
        M' = runs D left' ws m'

        r : (shown D left ws m ≡ shown D left' ws m')
            × ((s : Surface) → Inside S s → ((filled (spot_at S σ s).byte || z s) && not (spot_at S σ s).listed) ≡ true → Agree S s M M')
        r = h z m m' (λ s ok c. covers s ok (ap (λ y. cleared y.byte) (at_pass s) ∙ find_cleared (find s xs) (old s) c)) ag

    pub pass_inv : (hs ws : List Told) (m m' : Cells Val) → Inv σ hs ws m m' → Inv (pass_state xs σ) hs (ws ++ (now ∷ [])) m m'
    pass_inv hs ws m m' inv = record {
      room = inv.room;
      past = inv.past;
      agree = inv.agree;
      next = λ s ok. pass_next (last_use none hs s) ws s (inv.next s ok);
      hold = pass_hold ws inv.hold;
    }

  -- ── a submission

  module _ (σ : State) (hs ws : List Told) (m m' : Cells Val) (inv : Inv σ hs ws m m') where
    -- The status bytes after it, the surfaces that it zeroes, and the two memories as its passes start.
    abbrev status : List ℕ
    status = (submit_state S σ).status

    abbrev zeroes : Surface → Bool
    zeroes s = cleared (byte_of S status s)

    byte_after_lem : (s : Surface) → Inside S s → byte_of S status s ≡ settle (spot_at S σ s)
    unfolding spot byte_after
    byte_after_lem s ok = submitted_byte S σ.lists.actions σ.lists.discards σ.status inv.room s ok

    held : (shown D left ws (zeroed D zeroes m) ≡ shown D left' ws (zeroed D zeroes m'))
        × ((s : Surface) → Inside S s → ((filled (spot_at S σ s).byte || zeroes s) && not (spot_at S σ s).listed) ≡ true
        → Agree S s (runs D left ws (zeroed D zeroes m)) (runs D left' ws (zeroed D zeroes m')))
    held =
        inv.hold zeroes (zeroed D zeroes m) (zeroed D zeroes m')
        (λ s ok c. ap cleared (byte_after_lem s ok) ∙ cleared_settle (spot_at S σ s) ∙ c)
        (λ s ok e a ha. cond_agree (zeroes s) D.nil (m s a) (m' s a) (λ off. inv.agree s ok (or_first (filled (byte_of S σ.status s)) (zeroes s) e off) a ha))

    pub submit_shown : shown D left ws (started D left S status m) ≡ shown D left' ws (started D left' S status m')
    submit_shown = held.0

    past_after : (s : Surface) → Inside S s → filled (byte_of S status s) ≡ kept (last_use none (hs ++ ws) s)
    past_after s ok = ap filled (byte_after_lem s ok) ∙ inv.next s ok ∙ sym (ap kept (last_append none hs ws s))

    pub submit_inv : Inv (submit_state S σ) (hs ++ ws) [] (runs D left ws (started D left S status m)) (runs D left' ws (started D left' S status m'))
    unfolding spot
    submit_inv = record {
      room = omega (arith, inv.room, submit_length σ.lists.actions σ.lists.discards (surfaces_of S) σ.status);
      past = past_after;
      agree = λ s ok e. held.1 s ok (settle_on (spot_at S σ s) (zeroes s) (sym (ap filled (byte_after_lem s ok)) ∙ e));
      next = λ s ok. filled_restart (byte_of S status s) ∙ past_after s ok;
      hold = λ z n n' covers ag. (refl, λ s ok c. ag s ok (ap (λ b. b || z s) (sym (filled_restart (byte_of S status s))) ∙ and_left _ _ c));
    }
