-- A channel without its aspect has no operations.
use mathlib.Core.Path.{◌≡◌, refl, ◌∙◌}
use mathlib.Core.Bool.{Bool}
use mathlib.Core.Option.{Option, none, some}
use Prim.Native.Nat.{ℕ}
use Rattle.definition.specs.Channel.{LoadOp, PassChannel, Resolved, absent_pair, resolve_absent}
use Rattle.channel.specs.Pass.{without_ops}

by_operations : {X Y : Type 0} (l : Option (LoadOp X)) (s : Option Bool) (n : ℕ) → without_ops {Y = Y} l s n n ≡ absent_pair l s n
by_operations (some l) s n = refl
by_operations none (some keep) n = refl
by_operations none none n = refl

pub absent : {X Y : Type 0} {a : Resolved Y} (c : PassChannel X) (n : ℕ) → a ≡ without_ops c.load c.store n n → a ≡ resolve_absent c n
unfolding resolve_absent
absent c n e = e ∙ by_operations c.load c.store n
