-- What the reply says of the attachments of a pass.
use Rattle.std.specs.Prelude.{ℕ, zero, suc, List, [], ◌∷◌, length}
use Rattle.definition.specs.Sizes.{max_attachments}
use Rattle.definition.specs.declared.Attachment.{Attachment}
use Rattle.attachments.specs.declared.resolve.Attachments.{Attachments}
use Rattle.attachments.specs.Attached.{blank}

-- n records: the first n of xs, and blank ones after the last.
abbrev pub padded : ℕ → List Attachment → List Attachment
padded zero xs = []
padded (suc n) [] = blank ∷ padded n []
padded (suc n) (x ∷ xs) = x ∷ padded n xs

-- A list of attachments as an array of seventeen records and a count.
abbrev pub listed : List Attachment → Attachments
listed xs = record { records = padded max_attachments xs; count = length xs }
