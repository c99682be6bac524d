-- The invariant: the records are those before the loop, then those of the attachments of the first k slots.
use Prim.Native.Nat.{◌+◌, ◌*◌, ◌≤◌}
use mathlib.Core.List.{List, ◌++◌}
use Rattle.definition.specs.Attachments.{Attached, slot_parts}
use Rattle.definition.specs.Pass.{attachment_reply}
use Rattle.definition.specs.declared.Attachment.{Attachment}
use Rattle.session.specs.Rows.{pass_in, session_in}
use Rattle.attachments.proofs.Resolving.{Filled}
use Rattle.attachments.proofs.resolve.replies_of.Given as goal

abbrev pub invariant-loop-k : goal.invariant-loop-k
invariant-loop-k l = ((start : List Attachment) (xs : List Attached) → Filled (λ a. a) (attachment_reply (session_in l.pass)) start l.initial.records l.initial.count xs → Filled (λ a. a) (attachment_reply (session_in l.pass)) start l.records l.count (xs ++ slot_parts (session_in l.pass) (pass_in l.pass) l.k))
    × (l.initial.count ≤ 1) × (l.count ≤ l.initial.count + 2 * l.k)
