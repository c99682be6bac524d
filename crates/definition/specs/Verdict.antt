-- What a check answers: a number (0 accepted), its place, and the place of the view that it was compared with.
use Rattle.std.specs.Prelude.{ℕ, ◌+◌, Bool, cond, eqb}
use Rattle.definition.specs.declared.Verdict.{Verdict}

infixr 20 ◌then◌
-- Places: k a colour slot, 8 + k its resolve target, 16 depth-stencil, 17 none.
abbrev pub resolve_at : ℕ → ℕ
resolve_at k = 8 + k

abbrev pub at_depth_stencil : ℕ
at_depth_stencil = 16

abbrev pub nowhere : ℕ
nowhere = 17

abbrev pub accepted : Verdict
accepted = record { number = 0; place = nowhere; earlier = nowhere }

abbrev pub is_accepted : Verdict → Bool
is_accepted v = eqb v.number 0

abbrev pub refused_at : ℕ → ℕ → Verdict
refused_at n place = record { number = n; place = place; earlier = nowhere }

-- The first refusal of two checks.
unfoldable pub ◌then◌ : Verdict → Verdict → Verdict
v then w = cond (eqb v.number 0) w v

-- Number n at the place, where the test fails.
unfoldable pub unless : Bool → ℕ → ℕ → Verdict
unless b n place = cond b accepted (refused_at n place)

-- The same, compared with the view at an earlier place.
unfoldable pub unless_against : Bool → ℕ → ℕ → ℕ → Verdict
unless_against b n place earlier = cond b accepted (record { number = n; place = place; earlier = earlier })
