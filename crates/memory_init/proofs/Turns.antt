-- The plans of a pass, one after another: for loops over them.
use Prim.Native.Nat.{ℕ, ◌+◌, ◌<◌}
use mathlib.Core.Path.{◌≡◌, sym, ap, ◌∙◌}
use mathlib.Core.List.{List, [], ◌∷◌, map}
use lib.ListN.{length, drop, get_or, length-map}
use lib.Seq.{drop-length}
use Rattle.std.proofs.lemmas.List.{drop-map}
use Rattle.laws.proofs.Lists.{drop_turn}
use Rattle.memory_init.specs.Plans.{plan_in, plans_in}
use Rattle.memory_init.specs.declared.Planned.{Planned}

-- There are as many plans.
pub plans_length : (ps : List Planned) → length (plans_in ps) ≡ length ps
plans_length ps = length-map ps plan_in

-- The plan at place i is the next of those that are left.
pub plans_turn : (ps : List Planned) (o : Planned) (i : ℕ) → i < length ps → drop i (plans_in ps) ≡ plan_in (get_or ps i o) ∷ drop (i + 1) (plans_in ps)
plans_turn ps o i more = drop-map plan_in i ps ∙ ap (map plan_in) (drop_turn ps o i more) ∙ (λ q. plan_in (get_or ps i o) ∷ sym (drop-map plan_in (i + 1) ps) q)

-- After the last none is left.
pub plans_done : (ps : List Planned) → drop (length ps) (plans_in ps) ≡ []
plans_done ps = ap (λ (q : ℕ). drop q (plans_in ps)) (sym (plans_length ps)) ∙ drop-length (plans_in ps)
