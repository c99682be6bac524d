-- There are runs: document 01's example with the strict flag, pass 0, pass 1 and a submission, with the bytes that each call leaves,
-- whatever stands in the buffers behind what is fresh.
use Prim.Native.Nat.{ℕ}
use mathlib.Core.Path.{◌≡◌, refl, sym, ap, ◌∙◌}
use mathlib.Core.Bool.{true, false}
use mathlib.Core.List.{List, [], ◌∷◌, ◌++◌}
use lib.ListN.{replicate}
use Rattle.definition.specs.Sizes.{actions_bytes}
use Rattle.definition.specs.Session.{session}
use Rattle.definition.specs.Calls.{pass, submit, Step, lent_valid, called}
use Rattle.definition.specs.Computing.{computing}
use Rattle.definition.specs.Files.{words, texture, view, slot, colors, file}
use Rattle.laws.specs.Records.{record_at, records}
use Rattle.lists.specs.Lists.{surface_of, action_of_bytes}
use Rattle.lists.specs.Lent.{RestsStay}
use Rattle.buffer_validation.specs.Buffers.{Buffers, buffers, held_in, too_short}
use Rattle.render_pass.specs.declared.Reply.{Reply}
use Rattle.desk.specs.Entry.{number_in, Opened}
use Rattle.desk.specs.Reply.{answered}
use Rattle.desk.specs.Promise.{LengthsStay, PassPromise, SubmitPromise}
use Rattle.desk.specs.EntryPoints.Run.{FreshBuffers, of_pass, of_submit, Turn, Run}
use Rattle.desk.proofs.Calls.{entry_called}

-- One texture, one view, and two passes that have it as their colour.
abbrev pub example : List ℕ
example = file 8 0 1 (texture 3 2 4 1 1 1 16 ∷ []) (view 0 2 1 1 16 0 ∷ []) (colors (slot 0 1 1 ∷ []) ∷ colors (slot 0 0 0 ∷ []) ∷ [])

-- Its one surface is 0 0 0 0. Pass 1 needs it, and registers again what it finds discarded.
abbrev registered : List ℕ
registered = (0 ∷ 0 ∷ 1 ∷ 0 ∷ 1 ∷ 1 ∷ 0 ∷ []) ++ (0 ∷ 0 ∷ 1 ∷ 0 ∷ 1 ∷ 0 ∷ 0 ∷ [])

-- What stands where a call is to write.
abbrev nines : ℕ → List ℕ
nines n = replicate n 9

-- What a pass check replies.
abbrev pub reply_to : ℕ → Buffers → Reply
reply_to i b = answered (called (session example) (pass i) (held_in b)).answer

-- What it promises where it is accepted and the bytes after it are as they are computed.
accepted : (i : ℕ) (b b' : Buffers) → Opened example b → lent_valid (session example) (held_in b) ≡ true → (reply_to i b).number ≡ 0
    → held_in b' ≡ (called (session example) (pass i) (held_in b)).state → RestsStay b.lists b'.lists → LengthsStay b.lists b'.lists → b'.status ≡ b.status
    → PassPromise example i b (reply_to i b) b'
accepted i b b' o h ok left rest lengths status =
    let step = entry_called example b (pass i) o h in
    record {
      reply = ap (λ (q : Step). answered q.answer) (sym step);
      state = left ∙ ap (λ (q : Step). q.state) (sym step);
      refused = λ g. absurd (g ok);
      rest = rest;
      lengths = lengths;
      status = status;
    }

-- The buffers before and after each call. Behind what the calls write, x, y, z and w are anything.
module _ (x y z w : List ℕ) where
  -- Fresh.
  abbrev pub first : Buffers
  first = buffers (words (0 ∷ nines 4) ++ x) (words (0 ∷ nines 14) ++ y) (words (0 ∷ nines 4) ++ z) (0 ∷ w)

  -- Pass 0 lists a discard.
  abbrev pub second : Buffers
  second = buffers (words (1 ∷ 0 ∷ 0 ∷ 0 ∷ 0 ∷ []) ++ x) (words (0 ∷ nines 14) ++ y) (words (0 ∷ nines 4) ++ z) (0 ∷ w)

  -- Pass 1 loads the surface: its discard is returned as a clear, and two actions are registered.
  abbrev pub third : Buffers
  third = buffers (words (0 ∷ 0 ∷ 0 ∷ 0 ∷ 0 ∷ []) ++ x) (words (2 ∷ registered) ++ y) (words (1 ∷ 0 ∷ 0 ∷ 0 ∷ 0 ∷ []) ++ z) (0 ∷ w)

  -- The submission empties discards and actions, and the surface is cleared and filled.
  abbrev pub last : Buffers
  last = buffers (words (0 ∷ 0 ∷ 0 ∷ 0 ∷ 0 ∷ []) ++ x) (words (0 ∷ registered) ++ y) (words (1 ∷ 0 ∷ 0 ∷ 0 ∷ 0 ∷ []) ++ z) (3 ∷ w)

  -- What is told, and the buffers after each call.
  abbrev pub turns : List Turn
  turns =
      record { told = of_pass 0 (reply_to 0 first); left = second }
      ∷ record { told = of_pass 1 (reply_to 1 second); left = third }
      ∷ record { told = of_submit 0; left = last }
      ∷ []

  module _ (long : too_short first ≡ false) where
    -- The run starts from fresh buffers.
    pub fresh : FreshBuffers example first
    unfolding computing
    fresh = record { long = long; discards = refl; actions = refl; clears = refl; status = refl }

    -- Each call keeps its promise.
    pass_0 : PassPromise example 0 first (reply_to 0 first) second
    unfolding computing surface_of action_of_bytes record_at records
    pass_0 =
        accepted 0 first second (record { long = long; readable = refl }) refl refl refl (record { discards = refl; actions = refl; clears = refl })
        (record { discards = refl; actions = refl; clears = refl }) refl

    -- Pass 1.
    pass_1 : PassPromise example 1 second (reply_to 1 second) third
    unfolding computing surface_of action_of_bytes record_at records too_short
    pass_1 =
        accepted 1 second third (record { long = long; readable = refl }) refl refl refl (record { discards = refl; actions = refl; clears = refl })
        (record { discards = refl; actions = refl; clears = refl }) refl

    -- The submission.
    submission : SubmitPromise example third 0 last
    unfolding computing surface_of action_of_bytes record_at records too_short
    submission =
        let step = entry_called example third submit (record { long = long; readable = refl }) refl in
        record {
          number = ap (λ (q : Step). number_in q.answer) (sym step);
          state = ap (λ (q : Step). q.state) (sym step);
          refused = λ g. absurd (g refl);
          discards = refl;
          actions = refl;
          clears = refl;
          lengths = record { discards = refl; actions = refl; clears = refl };
          bytes = refl;
        }

    -- Together they are a run.
    pub run : Run example first turns
    run = (pass_0, (pass_1, (submission, tt)))

    -- Both passes are accepted, and the second returns one clear.
    pub told : ((reply_to 0 first).number ∷ (reply_to 0 first).clears ∷ (reply_to 1 second).number ∷ (reply_to 1 second).clears ∷ []) ≡ (0 ∷ 0 ∷ 0 ∷ 1 ∷ [])
    unfolding computing surface_of action_of_bytes record_at records
    told = refl

-- With as many nines behind each as make it longer than it must be: a run, and nothing is left open.
abbrev spare : List ℕ
spare = nines actions_bytes

-- They are long enough.
longer : too_short (first spare spare spare spare) ≡ false
unfolding too_short
longer = refl

-- The run of them.
pub there_is_a_run : Run example (first spare spare spare spare) (turns spare spare spare spare)
there_is_a_run = run spare spare spare spare longer
