-- Where both counts are 0 the bytes begin; nothing is cut off, where the surfaces are no more than a session has at most.
use mathlib.Core.Path.{◌≡◌, sym, ◌∙◌}
use Prim.Native.Nat.{ℕ, ◌≤◌}
use mathlib.Core.List.{List}
use native.Mathlib.Omega.{arith}
use lib.Dec.{eqb}
use Rattle.definition.specs.Sizes.{max_surfaces}
use Rattle.session.specs.Counted.{surfaces_up_to}
use borrow.Author.Tests.{eqb-true}
use borrow.Author.Rules.{rules}
use Rattle.definition.specs.Session.{session, surface_count}
use Rattle.definition.specs.Status.{restart}
use Rattle.laws.proofs.Tests.{and_left, and_right}
use Rattle.session.proofs.Counted.{up_to_is}
use Rattle.submission.proofs.Sweeps.{submit_none}
use Rattle.submission.proofs.submit.Goals as goal

-- As many as the session has.
counted : (s : List ℕ) (n k : ℕ) → n ≡ surfaces_up_to (session s) k → k ≡ (session s).texture_count → surface_count (session s) ≤ max_surfaces → n ≡ surface_count (session s)
counted s n k e ek few = let S = session s in cc (up_to_is S S.texture_count few)

pub update-requires-clause-room : goal.update-requires-clause-room
update-requires-clause-room c =
    omega (arith, counted c.args.s.now _ _ c.surfaces_before-n.ensures.0 c.texture_count.ensures c.requires.surfaces, c.requires.status)

pub returns-then-count : goal.returns-then-count
returns-then-count c =
    let S = session c.args.s.now in
    let d = c.count in
    let a = c.count-2 in
    let both = c.if-count.true in
    let none = sym d.ensures ∙ eqb-true d.result 0 (and_left (eqb d.result 0) (eqb a.result 0) both) in
    let idle = sym a.ensures ∙ eqb-true a.result 0 (and_right (eqb d.result 0) (eqb a.result 0) both) in
    let all = counted c.args.s.now _ _ c.surfaces_before-n.ensures.0 c.texture_count.ensures c.requires.surfaces in
    submit_none S _ _ _ _ _ c.requires.status none idle all (c.update.ensures restart (λ b x p. search rules))
