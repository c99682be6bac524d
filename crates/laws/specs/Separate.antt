-- What attachments reach, and attachments that reach no surface twice.
use Rattle.std.specs.Prelude.{List, [], ◌∷◌, ◌≡◌, Bool, true, false, ◌||◌}
use Rattle.definition.specs.Surfaces.{hits, named, elem}
use Rattle.definition.specs.Attachments.{Attached, range_in}
use Rattle.definition.specs.declared.Surface.{Surface}

-- What an attachment's action reaches, and what the actions of attachments reach.
abbrev pub reaches : Attached → Surface → Bool
reaches x s = hits (range_in x) s

abbrev pub reached : Surface → List Attached → Bool
reached s [] = false
reached s (x ∷ xs) = reaches x s || reached s xs

-- No surface is reached twice: what one reaches no later one does, and what it lists it reaches.
abbrev pub Separate : List Attached → Type 0
Separate [] = Unit {0}
Separate (x ∷ xs) = ((s : Surface) → reaches x s ≡ true → reached s xs ≡ false) × ((s : Surface) → elem s (named (range_in x)) ≡ true → reaches x s ≡ true) × Separate xs
