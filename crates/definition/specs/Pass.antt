-- One pass check: numbers 49 and 50, the reply, and what it leaves in the lists.
use Rattle.std.specs.Prelude.{ℕ, ◌+◌, List, [], ◌∷◌, map, Bool, true, false, ◌&&◌, cond, length, leb, Float}
use Rattle.definition.specs.Sizes.{max_discards, max_actions}
use Rattle.definition.specs.Bytes.{f32_of_bits, f64_of_bits}
use Rattle.definition.specs.Session.{Pass, Session, texture_binding, read_only_depth_stencil}
use Rattle.definition.specs.Verdict.{nowhere, accepted, is_accepted, ◌then◌, unless}
use Rattle.definition.specs.Channel.{Ops, load_bits, store_bits, clear_value}
use Rattle.definition.specs.Check.{check}
use Rattle.definition.specs.MemoryInit.{Lists}
use Rattle.definition.specs.Attachments.{Attached, depth_stencil, color, resolve_to, divergent_of, attach, attach_all, attachments}
use Rattle.definition.specs.declared.View.{View}
use Rattle.definition.specs.declared.Color.{Color}
use Rattle.definition.specs.declared.Seen.{Seen}
use Rattle.definition.specs.declared.Surface.{Surface}
use Rattle.definition.specs.declared.Verdict.{Verdict}
use Rattle.definition.specs.declared.Progress.{Progress}
use Rattle.definition.specs.declared.Attachment.{Attachment}

-- ── 49 and 50

-- No step needs more discards than there is room for. A step is an attachment: its removals come before its own entry.
abbrev pub discards_fit : List Attached → Lists → Bool
discards_fit [] l = true
discards_fit (x ∷ xs) l = leb (length (attach x l).discards) max_discards && discards_fit xs (attach x l)

-- Actions only grow, so that the end decides.
abbrev pub actions_fit : List Attached → Lists → Bool
actions_fit xs l = leb (length (attach_all xs l).actions) max_actions

unfoldable pub room_verdict : List Attached → Lists → Verdict
room_verdict xs l = unless (discards_fit xs l) 49 nowhere then unless (actions_fit xs l) 50 nowhere

-- ── the reply

abbrev pub zero32 : Float
zero32 = f32_of_bits 0

abbrev pub zero64 : Float
zero64 = f64_of_bits 0

abbrev pub black : Color
black = record { red = zero64; green = zero64; blue = zero64; alpha = zero64 }

-- 2 and 3 need both channels read-only and flag 8.
abbrev pub depth_stencil_usage : Session → View → Bool → Bool → ℕ
depth_stencil_usage S v d s = cond (d && s && read_only_depth_stencil S) (cond (texture_binding v) 3 2) 4

abbrev pub ops_bits : {X : Type 0} → Ops X → ℕ
ops_bits c = load_bits c.load + store_bits c.keep

-- A depth-stencil attachment, by its view, usage and channels.
abbrev pub depth_stencil_reply : ℕ → ℕ → Ops Float → Ops ℕ → Attachment
depth_stencil_reply v usage d s = record {
  view = v;
  usage = usage;
  ops = ops_bits d;
  stencil_ops = ops_bits s;
  color = black;
  depth = clear_value zero32 d.load;
  stencil = clear_value 0 s.load;
}

abbrev pub attachment_reply : Session → Attached → Attachment
attachment_reply S (depth_stencil v r hd hs d s) = depth_stencil_reply v (depth_stencil_usage S (S.view v) d.read_only s.read_only) d s
attachment_reply S (color v r c) = record
    { view = v; usage = 1; ops = ops_bits c; stencil_ops = 0; color = clear_value black c.load; depth = zero32; stencil = 0 }
attachment_reply S (resolve_to v r) = record
    { view = v; usage = 1; ops = 0; stencil_ops = 0; color = black; depth = zero32; stencil = 0 }

abbrev pub depth_read_only : Attached → Bool
depth_read_only (depth_stencil v r hd hs d s) = d.read_only
depth_read_only (color v r c) = false
depth_read_only (resolve_to v r) = false

abbrev pub stencil_read_only : Attached → Bool
stencil_read_only (depth_stencil v r hd hs d s) = s.read_only
stencil_read_only (color v r c) = false
stencil_read_only (resolve_to v r) = false

-- A depth-stencil attachment stands first, so that these ask the first alone.
abbrev pub of_first : {A : Type 0} → A → (Attached → A) → List Attached → A
of_first o f [] = o
of_first o f (x ∷ xs) = f x

pub record Reply : Type 0 where
  pub verdict : Verdict
  pub width : ℕ
  pub height : ℕ
  pub samples : ℕ
  pub depth_read_only : Bool
  pub stencil_read_only : Bool
  pub attachments : List Attachment
  pub divergent : ℕ
  pub clears : List Surface

-- A refused pass replies with no attachments or clears; sizes, samples and flags are 0.
abbrev pub refusal : Verdict → Reply
refusal v = record {
  verdict = v;
  width = 0;
  height = 0;
  samples = 0;
  depth_read_only = false;
  stencil_read_only = false;
  attachments = [];
  divergent = 0;
  clears = [];
}

abbrev pub acceptance : Session → Seen → List Attached → List Surface → Reply
acceptance S seen xs clears = record {
  verdict = accepted;
  width = seen.width;
  height = seen.height;
  samples = seen.samples;
  depth_read_only = of_first false depth_read_only xs;
  stencil_read_only = of_first false stencil_read_only xs;
  attachments = map (attachment_reply S) xs;
  divergent = of_first 0 divergent_of xs;
  clears = clears;
}

-- ── the check

pub record Outcome : Type 0 where
  pub reply : Reply
  pub lists : Lists

-- An accepted pass replaces the clears.
abbrev pub new_pass : Lists → Lists
new_pass l = record { discards = l.discards; actions = l.actions; clears = [] }

abbrev pub pass_verdict : Progress → List Attached → Lists → Verdict
pass_verdict a xs l = a.verdict then room_verdict xs (new_pass l)

abbrev pub accepted_pass : Session → Seen → List Attached → Lists → Outcome
accepted_pass S seen xs l = record { reply = acceptance S seen xs (attach_all xs (new_pass l)).clears; lists = attach_all xs (new_pass l) }

-- A refusal leaves the lists as found.
abbrev pub refused_pass : Verdict → Lists → Outcome
refused_pass v l = record { reply = refusal v; lists = l }

unfoldable pub outcome : Session → Progress → List Attached → Lists → Outcome
outcome S a xs l = cond (is_accepted (pass_verdict a xs l)) (accepted_pass S a.seen xs l) (refused_pass (pass_verdict a xs l) l)

unfoldable pub check_pass : Session → Pass → Lists → Outcome
check_pass S p l = outcome S (check S p) (attachments S p) l
