-- Where the status byte of a surface stands, as C callers are told.
use Rattle.std.specs.Prelude.{ℕ, List, cond, eqb, Result, Ok, Err}
use Rattle.definition.specs.Session.{session, surface_index}
use Rattle.definition.specs.Readable.{session_refusal}
use Rattle.definition.specs.Calls.{surface_valid}
use Rattle.definition.specs.Refusals.{number_of}
use Rattle.definition.specs.declared.Surface.{Surface}
use Rattle.definition.specs.declared.refusals.Refusal.{Refusal}
use Rattle.desk.specs.declared.index.SurfaceIndex.{SurfaceIndex}

-- A number and an index.
abbrev pub indexed : (number index : ℕ) → SurfaceIndex
indexed n i = record { number = n; index = i }

-- The session's refusal; 6 for a surface that the session does not have; else 0, and its place among the status bytes.
unfoldable pub status_index : List ℕ → Surface → SurfaceIndex
status_index s x =
    cond (eqb (session_refusal s) 0)
    (cond (surface_valid (session s) x) (indexed 0 (surface_index (session s) x)) (indexed 6 0))
    (indexed (session_refusal s) 0)

-- The same of an index, or of its refusal.
abbrev pub index_in : Result ℕ Refusal → SurfaceIndex
index_in (Ok i) = indexed 0 i
index_in (Err refusal) = indexed (number_of refusal) 0
