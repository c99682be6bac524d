-- From a fresh state number 6 never arises: what each call leaves can be lent to the next, the clears because a pass returns only what was listed before it, at most 64.
use mathlib.Core.Path.{◌≡◌, refl, sym, ap, subst, ◌∙◌}
use mathlib.Core.Bool.{Bool, true, false, not, cond}
use mathlib.Core.List.{List, [], ◌∷◌}
use mathlib.Core.Option.{Option, none, some}
use Prim.Native.Nat.{ℕ, zero, suc, ◌+◌, ◌<◌, ◌≤◌}
use native.Mathlib.Omega.{arith}
use lib.Dec.{ltb}
use lib.ListN.{length}
use borrow.Author.Tests.{leb-true, le-leb, lt-ltb}
use Rattle.definition.specs.Sizes.{max_discards, max_actions, max_clears}
use Rattle.definition.specs.Session.{Pass, Session, surfaces_of}
use Rattle.definition.specs.Verdict.{nowhere, is_accepted, refused_at, unless}
use Rattle.definition.specs.Readable.{views_valid}
use Rattle.definition.specs.Surfaces.{hits, named}
use Rattle.definition.specs.MemoryInit.{Lists, matching, register_init_action, registered, discarded}
use Rattle.definition.specs.Check.{check}
use Rattle.definition.specs.Attachments.{Attached, range_in, kind_of, discards, attach, attach_all, attachments}
use Rattle.definition.specs.Pass.{discards_fit, actions_fit, room_verdict, new_pass, pass_verdict, accepted_pass, refused_pass, outcome, check_pass}
use Rattle.definition.specs.Submission.{submit_lists}
use Rattle.definition.specs.Calls.{State, no_entries, Call, pass, submit, range_valid, surfaces_valid, actions_valid, bytes_valid, counts_valid, lent_valid, pass_call, pass_step, submit_state, called, call, after}
use Rattle.definition.specs.Program.{line, ends_buffer, lines}
use Rattle.definition.specs.declared.Range.{Range}
use Rattle.definition.specs.declared.MemoryInitKind.{MemoryInitKind}
use Rattle.definition.specs.declared.MemoryInitKind.TheVariants.{ImplicitlyInitialized, NeedsInitializedMemory}
use Rattle.laws.proofs.Tests.{and_on}
use Rattle.laws.proofs.Surfaces.{inside_range}
use Rattle.laws.proofs.Verdicts.{then_left, then_right, unless_on}
use Rattle.laws.proofs.Places.{surfaces_counted}
use Rattle.laws.proofs.Submission.{submit_valid, bytes_long}
use Rattle.laws.proofs.Plans.{clears_most, discards_fit_lem}
use Rattle.laws.proofs.Lent.{surfaces_append, actions_append, surfaces_retain, layers_valid, implicits_valid}
use Rattle.noninterference.specs.Claim.{Fresh}
use Rattle.noninterference.specs.Theorem.{line_of, end_state, printed}
use Rattle.noninterference.proofs.Passes.{All, all_map}
use Rattle.noninterference.proofs.Fresh.{fresh_valid}
use Rattle.noninterference.proofs.Accepted.{Ranged, pass_ranged, pass_separate}

-- ── records in range

module _ (S : Session) where
  -- Lists whose records are valid.
  record Valid (l : Lists) : Type 0 where
    discards : surfaces_valid S l.discards ≡ true
    actions : actions_valid S l.actions ≡ true
    clears : surfaces_valid S l.clears ≡ true

  registered_valid : (r : Range) (k : Option MemoryInitKind) (l : Lists) → range_valid S r ≡ true → Valid l → Valid (registered r k l)
  unfolding register_init_action
  registered_valid r none l g h = h
  registered_valid r (some NeedsInitializedMemory) l g h = record {
    discards = surfaces_retain S (λ s. not (hits r s)) l.discards h.discards;
    actions = actions_append S l.actions _
        ∙ and_on (actions_valid S l.actions) _ h.actions
        (and_on (range_valid S r) _ g (implicits_valid S (matching r l.discards) (surfaces_retain S (hits r) l.discards h.discards)));
    clears = surfaces_append S l.clears (matching r l.discards)
        ∙ and_on (surfaces_valid S l.clears) _ h.clears (surfaces_retain S (hits r) l.discards h.discards);
  }
  registered_valid r (some ImplicitlyInitialized) l g h = record {
    discards = surfaces_retain S (λ s. not (hits r s)) l.discards h.discards;
    actions = actions_append S l.actions _ ∙ and_on (actions_valid S l.actions) _ h.actions (and_on (range_valid S r) true g refl);
    clears = h.clears;
  }

  discarded_valid : (r : Range) (b : Bool) (l : Lists) → range_valid S r ≡ true → Valid l → Valid (discarded r b l)
  discarded_valid r true l g h = record {
    discards = surfaces_append S l.discards (named r) ∙ and_on (surfaces_valid S l.discards) _ h.discards (layers_valid S r g);
    actions = h.actions;
    clears = h.clears;
  }
  discarded_valid r false l g h = h

  attach_valid : (x : Attached) (l : Lists) → range_valid S (range_in x) ≡ true → Valid l → Valid (attach x l)
  attach_valid x l g h = discarded_valid (range_in x) (discards x) (registered (range_in x) (kind_of x) l) g (registered_valid (range_in x) (kind_of x) l g h)

-- ── the ranges of an accepted pass are the session's

abbrev RangeValid : Session → Attached → Type 0
RangeValid S x = range_valid S (range_in x) ≡ true

all_valid : (S : Session) (xs : List Attached) (l : Lists) → All (RangeValid S) xs → Valid S l → Valid S (attach_all xs l)
all_valid S [] l a h = h
all_valid S (x ∷ xs) l a h = all_valid S xs (attach x l) a.1 (attach_valid S x l a.0 h)

pass_ranges : (S : Session) → views_valid S ≡ true → (p : Pass) → is_accepted (check S p).verdict ≡ true → All (RangeValid S) (attachments S p)
pass_ranges S vs p h = all_map (Ranged S) (RangeValid S) (λ x k. inside_range S (range_in x) k.range) (attachments S p) (pass_ranged S vs p h)

-- ── what can be lent

module _ (S : Session) (vs : views_valid S ≡ true) where
  record Lendable (σ : State) : Type 0 where
    valid : Valid S σ.lists
    discards : length σ.lists.discards ≤ max_discards
    actions : length σ.lists.actions ≤ max_actions
    clears : length σ.lists.clears ≤ max_clears
    status : bytes_valid (length (surfaces_of S)) σ.status ≡ true

  lendable_valid : (σ : State) → Lendable σ → lent_valid S σ ≡ true
  unfolding lent_valid counts_valid
  lendable_valid σ h = simp (
    le-leb (length σ.lists.discards) max_discards h.discards,
    le-leb (length σ.lists.actions) max_actions h.actions,
    le-leb (length σ.lists.clears) max_clears h.clears,
    h.valid.discards,
    h.valid.actions,
    h.valid.clears,
    ap (λ n. bytes_valid n σ.status) (sym (surfaces_counted S)) ∙ h.status,
  )

  empty_lendable : (bytes : List ℕ) → bytes_valid (length (surfaces_of S)) bytes ≡ true → Lendable (record { lists = no_entries; status = bytes })
  empty_lendable bytes h = record {
    valid = record { discards = refl; actions = refl; clears = refl };
    discards = omega arith;
    actions = omega arith;
    clears = omega arith;
    status = h;
  }

  fresh_lendable : (σ : State) → Fresh S σ → Lendable σ
  fresh_lendable σ h =
      subst (λ (l : Lists). Lendable (record { lists = l; status = σ.status })) (sym h.lists) (empty_lendable σ.status (fresh_valid S σ h))

  submit_lendable : (σ : State) → Lendable σ → Lendable (submit_state S σ)
  submit_lendable σ h = record {
    valid = record { discards = refl; actions = refl; clears = h.valid.clears };
    discards = omega arith;
    actions = omega arith;
    clears = h.clears;
    status = submit_valid σ.lists.actions σ.lists.discards (surfaces_of S) σ.status h.status;
  }

  pass_lendable : (p : Pass) (σ : State) → Lendable σ → Lendable (pass_step (check_pass S p σ.lists) σ).state
  unfolding check_pass outcome room_verdict
  pass_lendable p σ h = go (is_accepted (pass_verdict (check S p) (attachments S p) σ.lists)) refl
    where
      xs : List Attached
      xs = attachments S p

      l : Lists
      l = new_pass σ.lists

      fits : is_accepted (pass_verdict (check S p) xs σ.lists) ≡ true → Lendable (record { lists = attach_all xs l; status = σ.status })
      fits e =
          let judged : is_accepted (check S p).verdict ≡ true = then_left (check S p).verdict (room_verdict xs l) e in
          let rm : is_accepted (room_verdict xs l) ≡ true = then_right (check S p).verdict (room_verdict xs l) e in
          record {
            valid = all_valid S xs l (pass_ranges S vs p judged) (record { discards = h.valid.discards; actions = h.valid.actions; clears = refl });
            discards = discards_fit_lem xs l (unless_on (discards_fit xs l) 49 nowhere refl (then_left (unless (discards_fit xs l) 49 nowhere) (unless (actions_fit xs l) 50 nowhere) rm)) h.discards;
            actions = leb-true (length (attach_all xs l).actions) max_actions (unless_on (actions_fit xs l) 50 nowhere refl (then_right (unless (discards_fit xs l) 49 nowhere) (unless (actions_fit xs l) 50 nowhere) rm));
            clears = omega (arith, clears_most xs l (pass_separate S vs p judged), h.discards);
            status = h.status;
          }

      go : (b : Bool) → is_accepted (pass_verdict (check S p) xs σ.lists) ≡ b
          → Lendable (pass_step (cond b (accepted_pass S (check S p).seen xs σ.lists) (refused_pass (pass_verdict (check S p) xs σ.lists) σ.lists)) σ).state
      go true e = fits e
      go false e = record { valid = h.valid; discards = h.discards; actions = h.actions; clears = h.clears; status = h.status }

  called_lendable : (c : Call) (σ : State) → Lendable σ → Lendable (called S c σ).state
  unfolding pass_call
  called_lendable (pass i) σ h = go (ltb i S.pass_count)
    where
      go : (b : Bool) → Lendable (pass_step (cond b (check_pass S (S.pass i) σ.lists) (refused_pass (refused_at 5 nowhere) σ.lists)) σ).state
      go true = pass_lendable (S.pass i) σ h
      go false = record { valid = h.valid; discards = h.discards; actions = h.actions; clears = h.clears; status = h.status }
  called_lendable submit σ h = submit_lendable σ h

  -- ── the calls

  -- A call that is lent what is valid is not refused as 6.
  pub call_called : (c : Call) (σ : State) → lent_valid S σ ≡ true → call S c σ ≡ called S c σ
  unfolding call
  call_called c σ h = rw (h, call)

  call_lendable : (c : Call) (σ : State) → Lendable σ → Lendable (call S c σ).state
  call_lendable c σ h = subst (λ t. Lendable t.state) (sym (call_called c σ (lendable_valid σ h))) (called_lendable c σ h)

  after_lendable : (cs : List Call) (σ : State) → Lendable σ → Lendable (after S cs σ)
  after_lendable [] σ h = h
  after_lendable (c ∷ cs) σ h = after_lendable cs (call S c σ).state (call_lendable c σ h)

  -- From a fresh state.
  module _ (σ : State) (h : Fresh S σ) where
    pub never_six : (cs : List Call) → lent_valid S (after S cs σ) ≡ true
    never_six cs = lendable_valid (after S cs σ) (after_lendable cs σ (fresh_lendable σ h))

    -- There is a status byte for each surface.
    pub bytes_left : (cs : List Call) → length (surfaces_of S) ≤ length (after S cs σ).status
    bytes_left cs = bytes_long (length (surfaces_of S)) (after S cs σ).status (after_lendable cs σ (fresh_lendable σ h)).status

    -- A submission after any calls is one.
    pub submit_called : (cs : List Call) → (call S submit (after S cs σ)).state ≡ submit_state S (after S cs σ)
    submit_called cs = ap (λ t. t.state) (call_called submit (after S cs σ) (never_six cs))

  -- ── the program as calls

  end_lendable : (b : Bool) (σ : State) → Lendable σ → Lendable (end_state S b σ)
  end_lendable true σ h = call_lendable submit σ h
  end_lendable false σ h = h

  end_lists : (b : Bool) (σ : State) → Lendable σ → (end_state S b σ).lists ≡ cond b (submit_lists σ.lists) σ.lists
  end_lists true σ h = ap (λ t. t.state.lists) (call_called submit σ (lendable_valid σ h))
  end_lists false σ h = refl

  -- The check of a pass of the session.
  pass_called : (k : ℕ) (σ : State) → k < S.pass_count → Lendable σ → call S (pass k) σ ≡ pass_step (check_pass S (S.pass k) σ.lists) σ
  unfolding pass_call
  pass_called k σ g h = call_called (pass k) σ (lendable_valid σ h) ∙ rw (lt-ltb k S.pass_count g)

  lines_printed : (n k : ℕ) (σ : State) → k + n ≡ S.pass_count → Lendable σ → printed S k n σ ≡ lines S k n σ.lists
  lines_printed zero k σ e h = refl
  lines_printed (suc n) k σ e h =
      subst (λ t. (line_of k t.answer t.state ∷ printed S (k + 1) n (end_state S (ends_buffer (S.pass k) n) t.state)) ≡ lines S k (suc n) σ.lists)
      (sym (pass_called k σ (omega arith) h))
      (ap (λ l. line k (check_pass S (S.pass k) σ.lists) ∷ l)
      (lines_printed n (k + 1) (end_state S (ends_buffer (S.pass k) n) next) (omega arith) (end_lendable (ends_buffer (S.pass k) n) next (pass_lendable (S.pass k) σ h))
      ∙ ap (lines S (k + 1) n) (end_lists (ends_buffer (S.pass k) n) next (pass_lendable (S.pass k) σ h))))
    where
      next : State
      next = record { lists = (check_pass S (S.pass k) σ.lists).lists; status = σ.status }

  pub fresh_printed : (σ : State) → Fresh S σ → printed S 0 S.pass_count σ ≡ lines S 0 S.pass_count no_entries
  fresh_printed σ h = lines_printed S.pass_count 0 σ (omega arith) (fresh_lendable σ h) ∙ ap (lines S 0 S.pass_count) h.lists
