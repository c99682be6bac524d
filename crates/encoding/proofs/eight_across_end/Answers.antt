-- At or past the end all eight numbers are 0; before it each is the definition's at its place, seen from the place on.
use Rattle.encoding.proofs.Reading.{no_eight, eight_from}
use Rattle.encoding.proofs.eight_across_end.Goals as goal

pub returns-then-at-s : goal.returns-then-at-s
returns-then-at-s c = no_eight _ _ c.if-at-s.true

pub returns : goal.returns
returns c =
    simp (c.u32_at.ensures, c.u32_at-2.ensures, c.u32_at-3.ensures, c.u32_at-4.ensures, c.u32_at-5.ensures, c.u32_at-6.ensures, c.u32_at-7.ensures, c.u32_at-8.ensures)
    (eight_from c.rest-rest.result.now c.args.s.now c.args.at c.rest-rest.ensures)
