-- What the structs of a pass check stand for in the definition, and what the check asks and promises.
use Rattle.std.specs.Prelude as code
use Rattle.std.specs.Prelude.{ℕ, ◌+◌, ◌≡◌, ◌≢◌, true, false, cond, leb, length, Ok, Err}
use Rattle.definition.specs.Sizes.{max_actions, max_attachments}
use Rattle.definition.specs.Session.{Pass, Session}
use Rattle.definition.specs.Readable.{textures_valid, views_valid}
use Rattle.definition.specs.Refusals.{number_of}
use Rattle.definition.specs.Verdict.{nowhere, is_accepted, refused_at, ◌then◌, unless}
use Rattle.definition.specs.declared.refusals.Refusal.{Refusal}
use Rattle.definition.specs.Pass as Def
use Rattle.definition.specs.Pass.{check_pass}
use Rattle.definition.specs.declared.Verdict.{Verdict}
use Rattle.lists.specs.Lent.{ListBytes, lists_in, Long, Fits, RestsStay}
use Rattle.memory_init.specs.declared.tally.Tally.{Tally}
use Rattle.attachments.specs.Resolved.{padded}
use Rattle.render_pass.specs.declared.Reply.{Reply}

-- A reply of the definition in numbers: flags are 1 or 0, the attachments stand in seventeen records, and the clears are counted.
abbrev pub replied : Def.Reply → Reply
replied r = record {
  number = r.verdict.number;
  place = r.verdict.place;
  earlier = r.verdict.earlier;
  width = r.width;
  height = r.height;
  samples = r.samples;
  depth_read_only = cond r.depth_read_only 1 0;
  stencil_read_only = cond r.stencil_read_only 1 0;
  divergent = r.divergent;
  clears = length r.clears;
  count = length r.attachments;
  attachments = padded max_attachments r.attachments;
}

-- 49 and 50, by what a pass finds in the lists and how many actions there are.
unfoldable pub room_by : Tally → ℕ → Verdict
room_by t actions = unless t.fits 49 nowhere then unless (leb (actions + t.added) max_actions) 50 nowhere

-- Nothing where there is room, or why the pass is refused.
abbrev pub RoomOf : Tally → ℕ → code.Result Unit Refusal → Type 0
RoomOf t actions (Ok x) = is_accepted (room_by t actions) ≡ true
RoomOf t actions (Err why) = (refused_at (number_of why) nowhere ≡ room_by t actions) × (is_accepted (room_by t actions) ≡ false)

-- What a check asks: valid textures and views, and lent lists that are long enough and in their room.
pub record Checkable (S : Session) (b : ListBytes) : Type 0 where
  pub textures : textures_valid S ≡ true
  pub views : views_valid S ≡ true
  pub long : Long b
  pub fits : Fits (lists_in b)

-- What it promises: the reply and the lists are the definition's, refused or not.
pub record Checked (S : Session) (p : Pass) (b : ListBytes) (r : Reply) (b' : ListBytes) : Type 0 where
  pub reply : r ≡ replied (check_pass S p (lists_in b)).reply
  pub lists : lists_in b' ≡ (check_pass S p (lists_in b)).lists
  -- A refusal leaves every byte.
  pub refused : r.number ≢ 0 → b' ≡ b
  -- In any case the bytes past the records of each list stay.
  pub rest : RestsStay b b'
