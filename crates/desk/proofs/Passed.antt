-- What a pass check leaves in the lent bytes, by what refuses it, or as it is checked.
use mathlib.Core.Path.{◌≡◌, refl, sym, ap, ◌∙◌}
use mathlib.Core.Logic.{◌≢◌}
use mathlib.Core.Bool.{true}
use mathlib.Core.List.{List}
use Prim.Native.Nat.{ℕ, ◌≤◌, ◌<◌}
use lib.Dec.{ltb}
use borrow.Author.Tests.{lt-ltb, le-ltb}
use Rattle.definition.specs.Session.{session}
use Rattle.definition.specs.Verdict.{nowhere, refused_at}
use Rattle.definition.specs.Pass.{refused_pass, check_pass}
use Rattle.definition.specs.Calls.{pass, Step, lent_valid, pass_call, pass_step}
use Rattle.laws.proofs.Tests.{cond_on, cond_off}
use Rattle.laws.proofs.Readable.{tested}
use Rattle.lists.specs.Lent.{ListBytes, lists_in}
use Rattle.buffer_validation.specs.Buffers.{Buffers, held_in}
use Rattle.buffer_validation.proofs.Lent.{long_of, valid_fits}
use Rattle.render_pass.specs.declared.Reply.{Reply}
use Rattle.render_pass.specs.Outcome.{Checkable, Checked}
use Rattle.desk.specs.Entry.{entry, Opened, entry_refusal}
use Rattle.desk.specs.Reply.{refused_reply, answered}
use Rattle.desk.specs.Promise.{LengthsStay, PassPromise}
use Rattle.desk.proofs.Calls.{entry_refused, entry_called}

module _ (s : List ℕ) (i : ℕ) (b : Buffers) (r : Reply) where
  -- The entry's step t leaves the state.
  stays : (t : Step) → entry s (pass i) b ≡ t → held_in b ≡ t.state → r ≡ answered t.answer → PassPromise s i b r b
  stays t e h told = record {
    reply = told ∙ ap (λ (q : Step). answered q.answer) (sym e);
    state = h ∙ ap (λ (q : Step). q.state) (sym e);
    refused = λ _. refl;
    rest = record { discards = refl; actions = refl; clears = refl };
    lengths = record { discards = refl; actions = refl; clears = refl };
    status = refl;
  }

  -- A call that is refused.
  pub passed_refused : entry_refusal s b ≢ 0 → r ≡ refused_reply (entry_refusal s b) → PassPromise s i b r b
  passed_refused h e = stays _ (entry_refused s b (pass i) h) refl e

  -- A pass number at or past the count.
  pub passed_none : Opened s b → lent_valid (session s) (held_in b) ≡ true → (session s).pass_count ≤ i → r ≡ refused_reply 5 → PassPromise s i b r b
  unfolding pass_call
  passed_none o h past e =
      stays (pass_step (refused_pass (refused_at 5 nowhere) (held_in b).lists) (held_in b))
      (entry_called s b (pass i) o h ∙ ap (λ p. pass_step p (held_in b)) (cond_off (ltb i (session s).pass_count) _ _ (le-ltb i (session s).pass_count past)))
      refl
      e

  -- A pass that the session has: what its check promises of the lists.
  pub passed_checked : (l' : ListBytes) → Opened s b → lent_valid (session s) (held_in b) ≡ true → i < (session s).pass_count
      → Checked (session s) ((session s).pass i) b.lists r l' → LengthsStay b.lists l' → PassPromise s i b r (record { lists = l'; status = b.status })
  unfolding pass_call
  passed_checked l' o h there check lengths =
      let step : entry s (pass i) b ≡ pass_step (check_pass (session s) ((session s).pass i) (lists_in b.lists)) (held_in b) = entry_called s b (pass i) o h ∙ ap (λ p. pass_step p (held_in b)) (cond_on (ltb i (session s).pass_count) _ _ (lt-ltb i (session s).pass_count there)) in
      record {
        reply = check.reply ∙ ap (λ (t : Step). answered t.answer) (sym step);
        state = (λ j. record { lists = check.lists j; status = b.status }) ∙ ap (λ (t : Step). t.state) (sym step);
        refused = λ g. ap (λ (l : ListBytes). record { lists = l; status = b.status }) (check.refused g);
        rest = check.rest;
        lengths = lengths;
        status = refl;
      }

-- What is lent and valid can be checked.
pub valid_checkable : (s : List ℕ) (b : Buffers) → Opened s b → lent_valid (session s) (held_in b) ≡ true → Checkable (session s) b.lists
valid_checkable s b o h = record {
  textures = (tested s o.readable).textures;
  views = (tested s o.readable).views;
  long = long_of b o.long;
  fits = valid_fits (session s) (held_in b) h;
}
