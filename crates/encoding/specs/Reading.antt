-- Eight numbers in a row.
use Rattle.std.specs.Prelude.{ℕ, ◌+◌, List}
use Rattle.definition.specs.Bytes.{u32_at}
use Rattle.encoding.specs.declared.Eight.{Eight}

abbrev pub eight_at : List ℕ → ℕ → Eight
eight_at s at = record {
  n0 = u32_at s at;
  n1 = u32_at s (at + 4);
  n2 = u32_at s (at + 8);
  n3 = u32_at s (at + 12);
  n4 = u32_at s (at + 16);
  n5 = u32_at s (at + 20);
  n6 = u32_at s (at + 24);
  n7 = u32_at s (at + 28);
}
