-- A pattern is a NaN's exactly where its magnitude is above the infinity's, and a float is the NaN exactly where it
-- differs from itself. Each law is stated over the format, and serves f32 and f64.
use mathlib.Core.Path.{◌≡◌, refl, sym, ◌∙◌, subst}
use mathlib.Core.Bool.{Bool, true, false, not}
use Prim.Native.Nat.{ℕ, ◌*◌, ◌%◌, ◌≤◌, ◌<◌}
use lib.Dec.{T}
use lib.Ieee.{Float, Format, nan, inf, fin, is_nan, ne, of_bits, nan_bits, ones, hid, top}
use lib.Ieee.Bits.{nan_bits_is, nan_bits_above}
use lib.Ieee.Compare.{differs_from_itself, nan_differs}
use borrow.Author.Tests.{lt-ltb, le-ltb}

-- The NaN is the one float that is none.
pub nan_of : (x : Float) → is_nan x ≡ true → nan ≡ x
unfolding is_nan
nan_of nan e = refl
nan_of (inf s) e = cc
nan_of (fin s m k) e = cc

-- Above the infinity's number, with the sign off, the pattern is the NaN's.
pub above : (f : Format) (n : ℕ) → ones f * hid f < n % top f → nan ≡ of_bits f n
above f n h = nan_of (of_bits f n) (sym (nan_bits_is f n) ∙ nan_bits_above f n ∙ lt-ltb _ _ h)

-- At most the infinity's number: no NaN's pattern.
pub within : (f : Format) (n : ℕ) → n % top f ≤ ones f * hid f → T (not (nan_bits f n))
within f n h = subst (λ (b : Bool). T (not b)) (sym (nan_bits_above f n ∙ le-ltb _ _ h)) tt

-- What differs from itself is the NaN.
pub differs : (x : Float) → ne x x ≡ true → x ≡ nan
differs x e = differs_from_itself x (subst T (sym e) tt)

-- What equals itself is not.
pub same : (x : Float) → ne x x ≡ false → T (not (is_nan x))
unfolding is_nan
same nan e = let z : true ≡ false = sym nan_differs ∙ e in subst T z tt
same (inf s) e = tt
same (fin s m k) e = tt
