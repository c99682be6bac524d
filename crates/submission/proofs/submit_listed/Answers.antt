-- What the parts leave, one after the other, is the submission.
use borrow.Author.Rules.{rules}
use Rattle.definition.specs.Session.{session}
use Rattle.definition.specs.Status.{restart}
use Rattle.submission.proofs.Sweeps.{submit_all}
use Rattle.submission.proofs.submit_listed.Goals as goal

pub invariant_of-layout : goal.invariant_of-layout
invariant_of-layout c = let b = c.texture_bases-n.ensures.1 in record { rows = b.rows; few = b.surfaces; long = b.long; before = b.before }

pub returns : goal.returns
returns c =
    submit_all (session c.args.s.now) _ _ _ _ _ _ _ c.requires.status
    c.texture_bases-n.ensures.0 (c.update.ensures restart (λ b x p. search rules)) c.run_actions.ensures c.run_discards.ensures
