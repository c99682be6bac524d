-- The reply to one pass as C callers see it, determined whole by the definition's.
use Rattle.std.specs.Prelude.{ℕ, Result, Ok, Err}
use Rattle.definition.specs.Refusals.{number_of}
use Rattle.definition.specs.declared.refusals.Refusal.{Refusal}
use Rattle.definition.specs.Verdict.{nowhere, refused_at}
use Rattle.definition.specs.Pass.{refusal}
use Rattle.definition.specs.Calls.{Answer, checked, submitted}
use Rattle.render_pass.specs.declared.Reply.{Reply}
use Rattle.render_pass.specs.Outcome.{replied}

-- Refused as n, at no place.
abbrev pub refused_reply : ℕ → Reply
refused_reply n = replied (refusal (refused_at n nowhere))

-- What a call answers to a pass.
abbrev pub answered : Answer → Reply
answered (checked r) = replied r
answered (submitted n status) = refused_reply n

-- A reply, or that of its refusal.
abbrev pub reply_in : Result Reply Refusal → Reply
reply_in (Ok r) = r
reply_in (Err refusal) = refused_reply (number_of refusal)
