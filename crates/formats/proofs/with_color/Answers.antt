-- The library's next multiple is the definition's round_up, for alignments of 1 to 4.
use native.Mathlib.Omega.{arith}
use mathlib.Core.Path.{◌≡◌, ◌∙◌}
use Prim.Native.Nat.{ℕ, zero, suc, ◌+◌, ◌≤◌, ◌<◌}
use Rattle.std.specs.Int.{next_multiple_of}
use Rattle.definition.specs.Formats.{round_up, with_color}
use Rattle.formats.proofs.with_color.Goals as goal

-- The next multiple, and that little is added.
rounded : (k n : ℕ) → 1 ≤ k → k ≤ 4 → (next_multiple_of n k ≡ round_up k n) × (next_multiple_of n k < n + k)
rounded zero n h l = absurd (omega arith)
rounded (suc zero) n h l = (omega arith, omega arith)
rounded (suc (suc zero)) n h l = (omega arith, omega arith)
rounded (suc (suc (suc zero))) n h l = (omega arith, omega arith)
rounded (suc (suc (suc (suc zero)))) n h l = (omega arith, omega arith)
rounded (suc (suc (suc (suc (suc k))))) n h l = absurd (omega arith)

pub next_multiple_of-requires-clause-fits : goal.next_multiple_of-requires-clause-fits
next_multiple_of-requires-clause-fits c = let t = c.target_cost-t.ensures in omega (arith, rounded _ c.args.bytes t.1 t.2)

pub returns : goal.returns
unfolding with_color
returns c =
    let t = c.target_cost-t.ensures in
    let up = rounded c.target_cost-t.result.alignment c.args.bytes t.1 t.2 in
    let e : c.next_multiple_of.result ≡ round_up c.target_cost-t.result.alignment c.args.bytes = c.next_multiple_of.ensures.value ∙ up.0 in
    (simp (e, t.0), omega (arith, c.next_multiple_of.ensures.value, up.1, t.2, t.3))
