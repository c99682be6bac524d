-- A number of 32 bits has none from the thirty-third on.
use mathlib.Core.Path.{◌≡◌, refl, sym}
use mathlib.Core.Bool.{Bool, true, false, cond}
use Prim.Native.Nat.{ℕ, ◌/◌, ◌^◌, ◌≤◌, ◌<◌}
use native.Mathlib.Nat.{div-eq_of_lt, lt_of_lt_of_le}
use lib.Dec.{ltb}
use lib.Pow.{pow_mono}
use borrow.Author.Tests.{ltb-false}

pub shifted_out : (n k : ℕ) → n < 2 ^ 32 → 32 ≤ k → n / 2 ^ k ≡ 0
shifted_out n k h l = div-eq_of_lt (lt_of_lt_of_le h (pow_mono l))

-- A shift that gives 0 from bit 32 on divides by 2 to k.
pub shifted_all : (n k : ℕ) → n < 2 ^ 32 → cond (ltb k 32) (n / 2 ^ k) 0 ≡ n / 2 ^ k
shifted_all n k h = go (ltb k 32) refl
  where
    go : (b : Bool) → ltb k 32 ≡ b → cond b (n / 2 ^ k) 0 ≡ n / 2 ^ k
    go true e = refl
    go false e = sym (shifted_out n k h (ltb-false k 32 e))
