-- Of none, one less is no number below another; of some, it is the last that the range has.
use Rattle.std.proofs.Common.{◌≡◌, ℕ, ◌+◌, ◌%◌, ◌<◌, Bool, true, false, ◌&&◌, ltb, leb, refl, arith, le-ltb, lt-ltb, leb-false, leb-true}
use Rattle.session.specs.Derived.{is_part}
use Rattle.session.proofs.surfaces.is_part.Goals as goal

-- The last that the range has, where it has one.
ends : (first count last r : ℕ) → r + 1 ≡ count → ltb (first + r) last ≡ leb (first + count) last
ends first count last r h = go (leb (first + count) last) refl
  where
    go : (b : Bool) → leb (first + count) last ≡ b → ltb (first + r) last ≡ b
    go true e = lt-ltb (first + r) last (omega (arith, h, leb-true (first + count) last e))
    go false e = le-ltb (first + r) last (omega (arith, h, leb-false (first + count) last e))

told : (first count last r : ℕ) → r < 4294967296 → last < 4294967296 → (r + 1) % 4294967296 ≡ count → ltb (first + r) last ≡ is_part first count last
unfolding is_part
told first count last r small low h = go (leb 1 count) refl
  where
    go : (b : Bool) → leb 1 count ≡ b → ltb (first + r) last ≡ (b && leb (first + count) last)
    go true e = ends first count last r (omega (arith, small, h, leb-true 1 count e))
    go false e = le-ltb (first + r) last (omega (arith, small, low, h, leb-false 1 count e))

pub returns : goal.returns
returns c = told _ _ _ _ (omega arith) (omega arith) c.wrapping_sub_u32.ensures.value
