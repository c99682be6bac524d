-- A discard more: the session has its surface, whose place is among the bytes.
use native.Mathlib.Omega.{arith}
use mathlib.Core.Path.{◌≡◌, sym, subst}
use Prim.Native.Nat.{ℕ, ◌<◌}
use mathlib.Core.List.{List}
use mathlib.Core.Bool.{true}
use Rattle.definition.specs.Session.{session}
use Rattle.laws.specs.Surfaces.{Inside}
use Rattle.laws.proofs.Surfaces.{surface_inside}
use Rattle.laws.proofs.Places.{place_counted}
use Rattle.definition.specs.Calls.{surfaces_valid}
use Rattle.definition.specs.declared.Surface.{Surface}
use Rattle.lists.specs.Lists.{surface_in, surfaces_in, count_in}
use Rattle.submission.proofs.Sweeps.{discards_none, discard_further}
use Rattle.submission.proofs.Lent.{surfaces_each}
use Rattle.submission.proofs.Layout.run_discards.Goals as goal

-- The session has the discard's surface.
inside : (s b : List ℕ) (i : ℕ) (x : Surface) → surfaces_valid (session s) (surfaces_in b) ≡ true → i < count_in b → x ≡ surface_in i b → Inside (session s) x
inside s b i x h k e = subst (Inside (session s)) (sym e) (surface_inside (session s) (surface_in i b) (surfaces_each (session s) b h i k))

pub loop-i-init : goal.loop-i-init
loop-i-init c = discards_none (session c.args.self.now.bytes.now) c.args.b.now _

pub index-at-requires : goal.index-at-requires
index-at-requires c = inside _ c.args.b.now c.loop-i.i _ c.requires.valid (omega (arith, c.count-i-end.ensures)) c.surface_at.ensures

pub bounds-status-at : goal.bounds-status-at
bounds-status-at c =
    let x = inside _ c.args.b.now c.loop-i.i _ c.requires.valid (omega (arith, c.count-i-end.ensures)) c.surface_at.ensures in
    omega (arith, c.index-at.ensures, place_counted (session c.args.self.now.bytes.now) c.surface_at.result x, c.requires.status, c.loop-i.auto.status)

pub bounds-status-at-in-loop-i : goal.bounds-status-at-in-loop-i
bounds-status-at-in-loop-i c =
    let x = inside _ c.args.b.now c.loop-i.i _ c.requires.valid (omega (arith, c.count-i-end.ensures)) c.surface_at.ensures in
    omega (arith, c.index-at.ensures, place_counted (session c.args.self.now.bytes.now) c.surface_at.result x, c.requires.status, c.loop-i.auto.status)

pub loop-i-preserved : goal.loop-i-preserved
loop-i-preserved c =
    let x = inside _ c.args.b.now c.loop-i.i _ c.requires.valid (omega (arith, c.count-i-end.ensures)) c.surface_at.ensures in
    discard_further (session c.args.self.now.bytes.now) c.args.b.now c.loop-i.i c.index-at.result c.empty_byte.result c.surface_at.result c.args.status.now c.loop-i.status
    c.surface_at.ensures x c.requires.status c.loop-i.invariant c.index-at.ensures c.empty_byte.ensures
