-- What a submission leaves in the lent bytes: everything where it is refused, else no entries and the status bytes that it makes.
use mathlib.Core.Path.{◌≡◌, refl, sym, ap, ◌∙◌}
use mathlib.Core.Logic.{◌≢◌}
use mathlib.Core.Bool.{true}
use mathlib.Core.List.{List, []}
use Prim.Native.Nat.{ℕ, ◌≤◌}
use native.Mathlib.Omega.{arith}
use native.Mathlib.Nat.{le_refl}
use lib.ListN.{length}
use Rattle.definition.specs.Sizes.{max_surfaces, surface_bytes, action_bytes}
use Rattle.definition.specs.Session.{session, surface_count, surfaces_of}
use Rattle.definition.specs.Submission.{submit_bytes}
use Rattle.definition.specs.Calls.{submit, Step, lent_valid}
use Rattle.session_validation.proofs.Valid.{valid_of}
use Rattle.lists.specs.Lists.{surface_of, action_of_bytes, surfaces_in, actions_in, CountSet}
use Rattle.lists.proofs.Lists.{emptied}
use Rattle.buffer_validation.specs.Buffers.{Buffers, buffers, held_in}
use Rattle.buffer_validation.proofs.Fits.{rows_inside}
use Rattle.buffer_validation.proofs.Lent.{long_of, status_long, records_inside, valid_fits, valid_surfaces, valid_actions}
use Rattle.submission.specs.Runs.{Submits}
use Rattle.desk.specs.Entry.{number_in, entry, Opened, entry_refusal}
use Rattle.desk.specs.Promise.{SubmitPromise}
use Rattle.desk.proofs.Calls.{entry_refused, entry_called}

-- ── a refusal

module _ (s : List ℕ) (b : Buffers) (n : ℕ) where
  -- The entry's step t leaves the state.
  stays : (t : Step) → entry s submit b ≡ t → held_in b ≡ t.state → n ≡ number_in t.answer → SubmitPromise s b n b
  stays t e h told = record {
    number = told ∙ ap (λ (q : Step). number_in q.answer) (sym e);
    state = h ∙ ap (λ (q : Step). q.state) (sym e);
    refused = λ _. refl;
    discards = refl;
    actions = refl;
    clears = refl;
    lengths = record { discards = refl; actions = refl; clears = refl };
    bytes = refl;
  }

  -- A call that is refused.
  pub sent_refused : entry_refusal s b ≢ 0 → n ≡ entry_refusal s b → SubmitPromise s b n b
  sent_refused h e = stays _ (entry_refused s b submit h) refl e

-- ── a submission

-- Lists that are valid.
module _ (s d a c b : List ℕ) (opened : Opened s (buffers d a c b)) (lendable : lent_valid (session s) (held_in (buffers d a c b)) ≡ true) where
  -- They can be submitted.
  pub sent_submits : Submits s d a b
  sent_submits =
      let S = session s in
      let lent = buffers d a c b in
      let valid = valid_of s opened.readable in
      let inside = records_inside lent.lists (long_of lent opened.long) (valid_fits S (held_in lent) lendable) in
      let few : surface_count S ≤ max_surfaces = valid.surfaces S.texture_count (le_refl S.texture_count) in
      record {
        rows = rows_inside s valid;
        textures = valid.textures;
        surfaces = few;
        status = omega (arith, few, status_long lent opened.long);
        discards_long = inside.discards;
        actions_long = inside.actions;
        discards = valid_surfaces S (held_in lent) lendable;
        actions = valid_actions S (held_in lent) lendable;
      }

  -- The counts are set to 0, and the status bytes are the submission's.
  pub sent_all : (d' a' b' : List ℕ) → CountSet 0 d d' → CountSet 0 a a' → b' ≡ submit_bytes (actions_in a) (surfaces_in d) (surfaces_of (session s)) b
      → length d' ≡ length d → length a' ≡ length a → length b' ≡ length b → SubmitPromise s (buffers d a c b) 0 (buffers d' a' c b')
  sent_all d' a' b' ed ea eb nd na nb =
      let no-discards : surfaces_in d' ≡ [] = (emptied {k = surface_bytes} {decode = surface_of} ed).list in
      let no-actions : actions_in a' ≡ [] = (emptied {k = action_bytes} {decode = action_of_bytes} ea).list in
      let step = entry_called s (buffers d a c b) submit opened lendable in
      record {
        number = ap (λ (q : Step). number_in q.answer) (sym step);
        state = (λ q. record { lists = record { discards = no-discards q; actions = no-actions q; clears = surfaces_in c }; status = eb q })
            ∙ ap (λ (q : Step). q.state) (sym step);
        refused = λ g. absurd (g refl);
        discards = ed.behind;
        actions = ea.behind;
        clears = refl;
        lengths = record { discards = nd; actions = na; clears = refl };
        bytes = nb;
      }
