-- A submission: actions run in order, then discards mark empty; both lists empty, clears stay.
use Rattle.std.specs.Prelude.{ℕ, List, [], ◌∷◌, cond}
use Rattle.definition.specs.Surfaces.{hits, elem}
use Rattle.definition.specs.Status.{restart, act_byte, empty_byte}
use Rattle.definition.specs.MemoryInit.{Lists}
use Rattle.definition.specs.declared.Surface.{Surface}
use Rattle.definition.specs.declared.Action.{Action}

-- One surface's byte after actions, in order, from the byte b.
abbrev pub byte_acts : List Action → Surface → ℕ → ℕ
byte_acts [] s b = b
byte_acts (a ∷ rest) s b = byte_acts rest s (cond (hits a.range s) (act_byte a.kind b) b)

-- One surface's byte after a submission.
unfoldable pub byte_after : List Action → List Surface → Surface → ℕ → ℕ
byte_after a d s b = cond (elem s d) (empty_byte (byte_acts a s (restart b))) (byte_acts a s (restart b))

-- Every surface's byte, in order; bytes past the last surface stay.
abbrev pub submit_bytes : List Action → List Surface → List Surface → List ℕ → List ℕ
submit_bytes a d [] bytes = bytes
submit_bytes a d (s ∷ rest) [] = []
submit_bytes a d (s ∷ rest) (b ∷ bytes) = byte_after a d s b ∷ submit_bytes a d rest bytes

abbrev pub submit_lists : Lists → Lists
submit_lists l = record { discards = []; actions = []; clears = l.clears }
