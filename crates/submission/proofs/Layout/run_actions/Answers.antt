-- An action more: the session has its range.
use native.Mathlib.Omega.{arith}
use mathlib.Core.Path.{◌≡◌, sym, subst}
use Prim.Native.Nat.{ℕ, ◌<◌}
use mathlib.Core.List.{List}
use mathlib.Core.Bool.{true}
use Rattle.definition.specs.Session.{session}
use Rattle.laws.specs.Surfaces.{RangeInside}
use Rattle.laws.proofs.Surfaces.{range_inside}
use Rattle.definition.specs.Calls.{actions_valid}
use Rattle.definition.specs.declared.Range.{Range}
use Rattle.lists.specs.Lists.{action_in, actions_in, count_in}
use Rattle.submission.proofs.Sweeps.{actions_none, action_further}
use Rattle.submission.proofs.Lent.{actions_each}
use Rattle.submission.proofs.Layout.run_actions.Goals as goal

-- The session has the action's range.
inside : (s b : List ℕ) (i : ℕ) (r : Range) → actions_valid (session s) (actions_in b) ≡ true → i < count_in b → r ≡ (action_in i b).range → RangeInside (session s) r
inside s b i r h k e = subst (RangeInside (session s)) (sym e) (range_inside (session s) (action_in i b).range (actions_each (session s) b h i k))

pub loop-i-init : goal.loop-i-init
loop-i-init c = actions_none (session c.args.self.now.bytes.now) c.args.b.now _

pub act-requires-clause-range : goal.act-requires-clause-range
act-requires-clause-range c = inside _ c.args.b.now c.loop-i.i _ c.requires.valid (omega (arith, c.count-i-end.ensures)) c.range_at.ensures

pub loop-i-preserved : goal.loop-i-preserved
loop-i-preserved c =
    action_further (session c.args.self.now.bytes.now) c.args.b.now c.loop-i.i _ _ c.args.status.now c.loop-i.status _
    c.range_at.ensures c.kind_at.ensures c.loop-i.invariant c.act.ensures
