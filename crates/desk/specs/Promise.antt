-- What each C function promises of the session's bytes s, the buffers b before the call, the result, and the buffers b' after it.
-- Its contract is this promise and nothing else; the runs of EntryPoints are made of the same ones.
use Rattle.std.specs.Prelude.{ℕ, List, ◌≡◌, ◌≢◌, length, drop}
use Rattle.definition.specs.Sizes.{count_bytes}
use Rattle.definition.specs.Calls.{pass, submit}
use Rattle.lists.specs.Lent.{ListBytes, RestsStay}
use Rattle.buffer_validation.specs.Buffers.{Buffers, held_in}
use Rattle.render_pass.specs.declared.Reply.{Reply}
use Rattle.desk.specs.Entry.{number_in, entry}
use Rattle.desk.specs.Reply.{answered}

-- The length of each list's buffer stays.
pub record LengthsStay (l l' : ListBytes) : Type 0 where
  pub discards : length l'.discards ≡ length l.discards
  pub actions : length l'.actions ≡ length l.actions
  pub clears : length l'.clears ≡ length l.clears

-- deskcheck_pass, of pass i.
pub record PassPromise (s : List ℕ) (i : ℕ) (b : Buffers) (r : Reply) (b' : Buffers) : Type 0 where
  -- The reply is the entry's answer,
  pub reply : r ≡ answered (entry s (pass i) b).answer
  -- and the buffers then hold its state.
  pub state : held_in b' ≡ (entry s (pass i) b).state
  -- A refusal leaves every byte.
  pub refused : r.number ≢ 0 → b' ≡ b
  -- In any case the bytes past the records of each list stay,
  pub rest : RestsStay b.lists b'.lists
  -- and the lengths, and the status bytes.
  pub lengths : LengthsStay b.lists b'.lists
  pub status : b'.status ≡ b.status

-- deskcheck_submit.
pub record SubmitPromise (s : List ℕ) (b : Buffers) (n : ℕ) (b' : Buffers) : Type 0 where
  -- The number is the entry's,
  pub number : n ≡ number_in (entry s submit b).answer
  -- and the buffers then hold its state.
  pub state : held_in b' ≡ (entry s submit b).state
  -- A refusal leaves every byte.
  pub refused : n ≢ 0 → b' ≡ b
  -- In any case the bytes of discards and actions behind their counts stay,
  pub discards : drop count_bytes b'.lists.discards ≡ drop count_bytes b.lists.discards
  pub actions : drop count_bytes b'.lists.actions ≡ drop count_bytes b.lists.actions
  -- and the clears, and the lengths.
  pub clears : b'.lists.clears ≡ b.lists.clears
  pub lengths : LengthsStay b.lists b'.lists
  pub bytes : length b'.status ≡ length b.status
