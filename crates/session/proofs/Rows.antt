-- View rows stand after the session's own textures, and a view takes what its shape takes. The checks of a slot do not ask for its clear value.
use Rattle.std.proofs.Common.{◌≡◌, ℕ, Bool, true, false, cond, eqb, List, refl, ap, ◌∙◌}
use Rattle.definition.specs.Channel.{LoadOp, load_op, clear_op, dont_care, loads, ignores, load_of}
use Rattle.definition.specs.Session.{Session, session, view_at}
use Rattle.definition.specs.Readable.{slot_reads}
use Rattle.definition.specs.Views.{takes, color_view, slice_verdict}
use Rattle.definition.specs.Check.{slot_ops, color_step, resolve_step}
use Rattle.definition.specs.declared.Seen.{Seen}
use Rattle.definition.specs.declared.Slot.{Slot}
use Rattle.definition.specs.declared.Surface.{Surface}
use Rattle.definition.specs.declared.View.{View}
use Rattle.session.specs.Rows.{view_row, view_after, shape_of, without_clear}

-- ── views

pub shape_takes : (s : List ℕ) (textures k slice : ℕ) (v : View) → v ≡ shape_of (view_after s textures k) → textures ≡ (session s).texture_count
    → takes v slice ≡ takes ((session s).view k) slice
unfolding session takes
shape_takes s textures k slice v e n = ap (λ q. takes q slice) (e ∙ ap (λ m. shape_of (view_at s (view_row m k))) n)

-- ── slots without their clear value

pub without_reads : (S : Session) (c : Slot) → slot_reads S (without_clear c) ≡ slot_reads S c
unfolding slot_reads
without_reads S c = refl

pub without_step : (S : Session) (q : Seen) (fit : Bool) (taken : List Surface) (c : Slot) (v : View) (k : ℕ)
    → color_step S q fit taken (without_clear c) v k ≡ color_step S q fit taken c v k
unfolding color_step resolve_step color_view slice_verdict
without_step S q fit taken c v k = refl

-- Whether a load loads or ignores does not depend on the value of a clear.
module _ {X : Type 0} (x y : X) where
  abbrev by : X → Bool → Bool → LoadOp X
  by v clears ignored = cond clears (clear_op v) (cond ignored dont_care load_op)

  ignores_by : (clears ignored : Bool) → ignores (by x clears ignored) ≡ ignores (by y clears ignored)
  ignores_by true ignored = refl
  ignores_by false ignored = refl

  loads_by : (clears ignored : Bool) → loads (by x clears ignored) ≡ loads (by y clears ignored)
  loads_by true ignored = refl
  loads_by false ignored = refl

  pub ignores_alike : (n : ℕ) → ignores (load_of n x) ≡ ignores (load_of n y)
  ignores_alike n = ignores_by (eqb n 1) (eqb n 2)

  pub loads_alike : (n : ℕ) → loads (load_of n x) ≡ loads (load_of n y)
  loads_alike n = loads_by (eqb n 1) (eqb n 2)

pub without_ops_lem : (S : Session) (c : Slot) (k : ℕ) → slot_ops S (without_clear c) k ≡ slot_ops S c k
unfolding slot_ops
without_ops_lem S c k =
    let none = (without_clear c).clear in
    simp (ignores_alike none c.clear c.load, loads_alike none c.clear c.load)
