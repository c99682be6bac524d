-- What a promise gives of the buffers: they hold what the call leaves.
use Prim.Native.Nat.{ℕ}
use mathlib.Core.List.{List}
use mathlib.Core.Path.{◌≡◌, ap, ◌∙◌}
use Rattle.definition.specs.Session.{session}
use Rattle.definition.specs.Calls.{pass, submit, Step, call}
use Rattle.buffer_validation.specs.Buffers.{Buffers, held_in}
use Rattle.desk.specs.Entry.{Opened}
use Rattle.desk.proofs.Calls.{entry_call}
use Rattle.desk.specs.EntryPoints.Run.{Told, of_pass, of_submit, call_of, Promised}

module _ (s : List ℕ) where
  pub left_state : (b : Buffers) (t : Told) (b' : Buffers) → Opened s b → Promised s b t b' → held_in b' ≡ (call (session s) (call_of t) (held_in b)).state
  left_state b (of_pass i r) b' o p = p.state ∙ ap (λ (q : Step). q.state) (entry_call s b (pass i) o)
  left_state b (of_submit n) b' o p = p.state ∙ ap (λ (q : Step). q.state) (entry_call s b submit o)
