-- A submission as sweeps over all status bytes: a beginning, each action in order, the discards.
use Rattle.std.specs.Prelude.{ℕ, List, [], ◌∷◌, cond}
use Rattle.definition.specs.Surfaces.{hits, elem}
use Rattle.definition.specs.Status.{act_byte, empty_byte}
use Rattle.definition.specs.declared.Surface.{Surface}
use Rattle.definition.specs.declared.Action.{Action}

-- A function of the surface and its byte, at every surface; bytes past the last surface stay.
abbrev pub sweep : (Surface → ℕ → ℕ) → List Surface → List ℕ → List ℕ
sweep f [] bs = bs
sweep f (s ∷ ss) [] = []
sweep f (s ∷ ss) (b ∷ bs) = f s b ∷ sweep f ss bs

-- An action at a surface.
abbrev pub act_at : Action → Surface → ℕ → ℕ
act_at a s b = cond (hits a.range s) (act_byte a.kind b) b

-- The discards at a surface.
abbrev pub empty_at : List Surface → Surface → ℕ → ℕ
empty_at d s b = cond (elem s d) (empty_byte b) b

-- Actions in order, one sweep each.
abbrev pub sweep_acts : List Action → List Surface → List ℕ → List ℕ
sweep_acts [] ss bs = bs
sweep_acts (a ∷ acts) ss bs = sweep_acts acts ss (sweep (act_at a) ss bs)
