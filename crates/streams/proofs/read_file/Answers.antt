-- What is read of the rest stands behind what the buffer holds.
use Rattle.std.proofs.Common.{List, ℕ, ◌++◌, take}
use Rattle.std.specs.Io.KnownBytes.{Consumes}
use Rattle.std.proofs.KnownBytes.{Consumes-trans}
use Rattle.streams.proofs.Pieces.{on_err}
use Rattle.streams.proofs.read_file.Goals as goal

pub returns-in_err-bytes-clause-err : goal.returns-in_err-bytes-clause-err
returns-in_err-bytes-clause-err g c =
    let head = take c.in_ok-held.held c.read_head.new.buf in
    let (bs, read) = c.in_err-bytes.ensures.err in
    let all : (l : List ℕ) × Consumes (g.R.Read.remaining c.args.input.now) (g.R.Read.remaining c.read_rest.new.input) l =
    (head ++ bs, Consumes-trans _ _ _ head bs c.in_ok-held.ensures.ok read) in
    on_err _ all
