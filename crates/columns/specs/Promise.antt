-- What a rearrangement promises.
use Rattle.std.specs.Prelude.{◌≡◌, cond, List, ◌++◌, ℕ, eqb, length, drop}
use Rattle.columns.specs.Columns.{arranged, rearrange_number}
use Rattle.columns.specs.declared.Way.{Way}

-- Of the pass part of n passes, a target that held `before`, a number and what the target then holds.
pub record Rearranged (way : Way) (n : ℕ) (part before : List ℕ) (number : ℕ) (after : List ℕ) : Type 0 where
  -- The number is the definition's.
  pub refusal : number ≡ rearrange_number n (length part) (length before)
  -- The part stands rearranged at the front, and what is behind it stays; after a refusal all stays.
  pub target : after ≡ cond (eqb number 0) (arranged way n part ++ drop (length part) before) before
