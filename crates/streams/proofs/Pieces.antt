-- The front of a list, and the next bytes of it; what holds holds on a failure.
use Rattle.std.proofs.Common.{◌≡◌, ℕ, ◌+◌, ◌≤◌, List, ◌++◌, length, take, drop, sym, ap, ◌∙◌, arith, length-take, OnErr, Result, Ok, Err}
use lib.Seq.{take-add, take-take}

-- What was at the front stays, and the next n are behind it.
pub front_and_next : (at n : ℕ) (old new : List ℕ) → take at new ≡ take at old → take at old ++ take n (drop at new) ≡ take (at + n) new
front_and_next at n old new front = ap (λ l. l ++ take n (drop at new)) (sym front) ∙ sym (take-add at n new)

-- The next n of those that are left are behind the front.
pub front_and_part : (at n k : ℕ) (l : List ℕ) → n ≤ length (take k (drop at l)) → take at l ++ take n (take k (drop at l)) ≡ take (at + n) l
front_and_part at n k l within =
    let fits : n ≤ k = omega (arith, length-take k (drop at l)) in
    ap (λ m. take at l ++ m) (take-take n k (drop at l) fits) ∙ sym (take-add at n l)

pub on_err : {T E P : Type 0} (r : Result T E) → P → OnErr r P
on_err (Ok x) p = tt
on_err (Err e) p = p
