-- The effect of a channel alone, and the three cases of two: depth decides, stencil decides, or the two diverge. None asks for the value of a Clear.
use mathlib.Core.Path.{◌≡◌, ◌∙◌}
use mathlib.Core.Bool.{Bool, true, false, not}
use Prim.Native.Nat.{ℕ}
use lib.Ieee.{Float}
use Rattle.definition.specs.Channel.{Ops, loads, ignores}
use Rattle.definition.specs.Session.{Session}
use Rattle.definition.specs.Attachments.{color_of, by_depth, depth_stencil_kind, depth_stencil_discards, depth_stencil_divergent}
use Rattle.definition.specs.declared.Slot.{Slot}
use Rattle.laws.specs.Plans.{plan_of}
use Rattle.session.specs.Rows.{without_clear}
use Rattle.session.proofs.Rows.{loads_alike}
use Rattle.attachments.specs.declared.effect.Effect.{Effect}
use Rattle.attachments.specs.Effect.{kind_by, has_effect, regular_effect, by_first, diverged_effect, depth_stencil_effect}

-- The plan of a colour without its clear value.
pub without_plan : (S : Session) (c : Slot) → plan_of (color_of S (without_clear c)) ≡ plan_of (color_of S c)
without_plan S c = simp (loads_alike (without_clear c).clear c.clear c.load)

-- By whether the operations load and store.
pub regular : {X : Type 0} (p : Effect) (c : Ops X) (l k : Bool) → l ≡ loads c.load → k ≡ c.keep → has_effect p (kind_by l k) (not k) 0 → regular_effect p c
regular p c l k e f h = (h.0 ∙ simp (e, f), h.1 ∙ simp f, h.2)

-- Operations that load and store alike, whatever they clear to.
pub record Alike {X Y : Type 0} (o : Ops X) (c : Ops Y) : Type 0 where
  pub loads : loads o.load ≡ loads c.load
  pub ignores : ignores o.load ≡ ignores c.load
  pub keep : o.keep ≡ c.keep

-- By the operations with another value, or none.
pub regular_of : {X Y : Type 0} (p : Effect) (c : Ops X) {o : Ops Y} → Alike o c → regular_effect p o → regular_effect p c
regular_of p c e h = (h.0 ∙ simp (e.loads, e.keep), h.1 ∙ simp e.keep, h.2)

module _ {X Y : Type 0} (p : Effect) (hd hs : Bool) (depth : Ops Float) (stencil : Ops ℕ) {d : Ops X} {s : Ops Y} (ed : Alike d depth) (es : Alike s stencil) where
  decides : {b : Bool} → by_first hs d s ≡ b → by_depth hs depth stencil ≡ b
  decides e = simp (ed.loads, ed.ignores, ed.keep, es.loads, es.ignores, es.keep) at e

  pub depth_decides : by_first hs d s ≡ true → regular_effect p d → depth_stencil_effect p hd hs depth stencil
  unfolding depth_stencil_kind depth_stencil_discards depth_stencil_divergent
  depth_decides e r =
      let b = decides e in
      let h = regular_of p depth ed r in
      (h.0 ∙ simp b, h.1 ∙ simp b, h.2 ∙ simp b)

  pub stencil_decides : by_first hs d s ≡ false → hd ≡ false → regular_effect p s → depth_stencil_effect p hd hs depth stencil
  unfolding depth_stencil_kind depth_stencil_discards depth_stencil_divergent
  stencil_decides e f r =
      let b = decides e in
      let h = regular_of p stencil es r in
      (h.0 ∙ simp (b, f), h.1 ∙ simp (b, f), h.2 ∙ simp (b, f))

  pub diverge : by_first hs d s ≡ false → hd ≡ true → diverged_effect p d s → depth_stencil_effect p hd hs depth stencil
  unfolding depth_stencil_kind depth_stencil_discards depth_stencil_divergent
  diverge e f h =
      let b = decides e in
      (h.0 ∙ simp (b, f, ed.loads, ed.keep, es.loads, es.keep), h.1 ∙ simp (b, f, ed.keep, es.keep), h.2 ∙ simp (b, f, ed.keep, es.keep))
