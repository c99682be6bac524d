-- What the tests of a pass part and of a column give.
use mathlib.Core.Path.{◌≡◌, refl, ap}
use mathlib.Core.Logic.{◌≢◌}
use mathlib.Core.Bool.{Bool, true, false, cond}
use mathlib.Core.List.{List, []}
use Prim.Native.Nat.{ℕ, ◌+◌, ◌*◌, ◌≤◌, ◌<◌}
use native.Mathlib.Nat.{mul_comm}
use native.Mathlib.Omega.{arith}
use borrow.Author.Tests.{le-leb, lt-ltb, eq-eqb, leb-true, ltb-true, eqb-true}
use lib.Dec.{leb}
use lib.ListN.{length, take, drop}
use Rattle.definition.specs.Sizes.{pass_bytes, max_passes}
use Rattle.laws.proofs.Tests.{and_left, and_right, and_on, cond_on, cond_off}
use Rattle.columns.specs.Columns.{rows_of, row_bytes_of, is_part, rearrange_number, has_column, column_place, column_part}
use Rattle.columns.specs.declared.Way.{Way}
use Rattle.columns.specs.declared.Way.TheVariants as To
use Rattle.columns.proofs.Columns.{column_room}

-- A pass part has the length of its passes.
pub part_fits : (n bytes : ℕ) → is_part n bytes ≡ true → (n ≤ max_passes) × (bytes ≡ pass_bytes * n)
unfolding is_part
part_fits n bytes h = (leb-true n max_passes (and_left _ _ h), eqb-true bytes (pass_bytes * n) (and_right (leb n max_passes) _ h))

pub fits_part : (n bytes : ℕ) → n ≤ max_passes → bytes ≡ pass_bytes * n → is_part n bytes ≡ true
unfolding is_part
fits_part n bytes h e = and_on _ _ (le-leb n max_passes h) (eq-eqb bytes (pass_bytes * n) e)

-- No refusal: the part has the length of its passes, and the target has room for it.
pub number_fits : (n bytes room : ℕ) → rearrange_number n bytes room ≡ 0 → (n ≤ max_passes) × (bytes ≡ pass_bytes * n) × (bytes ≤ room)
unfolding rearrange_number
number_fits n bytes room h = go (is_part n bytes) refl (leb bytes room) refl h
  where
    go : (p : Bool) → is_part n bytes ≡ p → (q : Bool) → leb bytes room ≡ q → ◌≡◌ {A = ℕ} (cond p (cond q 0 6) 2) 0
        → (n ≤ max_passes) × (bytes ≡ pass_bytes * n) × (bytes ≤ room)
    go true e true f g = let fit = part_fits n bytes e in (fit.0, fit.1, leb-true bytes room f)
    go true e false f g = absurd (omega (arith, g))
    go false e q f g = absurd (omega (arith, g))

pub fits_number : (n bytes room : ℕ) → n ≤ max_passes → bytes ≡ pass_bytes * n → bytes ≤ room → rearrange_number n bytes room ≡ 0
unfolding rearrange_number
fits_number n bytes room h e g = rw (fits_part n bytes h e, le-leb bytes room g)

-- Either way the rows that are read are those bytes.
pub way_bytes : (way : Way) (n : ℕ) → rows_of way n * row_bytes_of way n ≡ pass_bytes * n
way_bytes To.Columns n = mul_comm n pass_bytes
way_bytes To.Rows n = refl

pub way_small : (way : Way) (n : ℕ) → n ≤ max_passes → (rows_of way n ≤ pass_bytes) × (row_bytes_of way n ≤ pass_bytes)
way_small To.Columns n h = (omega arith, omega arith)
way_small To.Rows n h = (omega arith, omega arith)

-- A column that there is, of a part with the length of its passes.
column_fits : (n bytes j : ℕ) → has_column n bytes j ≡ true → (n ≤ max_passes) × (bytes ≡ pass_bytes * n) × (j < pass_bytes)
unfolding has_column
column_fits n bytes j h = let fit = part_fits n bytes (and_left _ _ h) in (fit.0, fit.1, ltb-true j pass_bytes (and_right (is_part n bytes) _ h))

pub fits_column : (n bytes j : ℕ) → n ≤ max_passes → bytes ≡ pass_bytes * n → j < pass_bytes → has_column n bytes j ≡ true
unfolding has_column
fits_column n bytes j h e g = and_on _ _ (fits_part n bytes h e) (lt-ltb j pass_bytes g)

-- It lies inside the part.
pub column_inside : (n bytes j : ℕ) → has_column n bytes j ≡ true → n * j + n ≤ bytes
column_inside n bytes j e =
    let fit = column_fits n bytes j e in
    column_room n pass_bytes j bytes fit.2 (omega (arith, fit.1, mul_comm n pass_bytes))

-- Its place.
pub placed : (n bytes j : ℕ) → has_column n bytes j ≡ true → column_place n bytes j ≡ record { number = 0; first = n * j; bytes = n }
unfolding column_place
placed n bytes j h = cond_on _ _ _ h

-- The place of one that is refused.
pub not_placed : (n bytes j : ℕ) → has_column n bytes j ≡ false → column_place n bytes j ≡ record { number = 2; first = 0; bytes = 0 }
unfolding column_place
not_placed n bytes j h = cond_off _ _ _ h

-- The part of a refused column is empty.
pub refused_empty : (n : ℕ) (b : List ℕ) (j : ℕ) → (column_place n (length b) j).number ≢ 0 → column_part n b j ≡ []
refused_empty n b j h = go (has_column n (length b) j) refl
  where
    go : (q : Bool) → has_column n (length b) j ≡ q → column_part n b j ≡ []
    go true e = absurd (h (ap (λ p. p.number) (placed n (length b) j e)))
    go false e = ap (λ p. take p.bytes (drop p.first b)) (not_placed n (length b) j e)
