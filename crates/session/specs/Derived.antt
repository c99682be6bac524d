-- What is derived from the rows: the extent of a view, and whether a range is a part.
use Rattle.std.specs.Prelude.{ℕ, ◌+◌, Bool, ◌&&◌, nat_le}
use Rattle.definition.specs.Session.{Session, width_of, height_of, samples_of}
use Rattle.definition.specs.declared.View.{View}
use Rattle.session.specs.declared.derived.Extent.{Extent}

-- A view's width and height at its first mip, and its texture's samples.
abbrev pub extent_of : Session → View → Extent
extent_of S v = record { width = width_of S v; height = height_of S v; samples = samples_of S v }

-- A range of mips or layers is non-empty and ends by the last.
unfoldable pub is_part : ℕ → ℕ → ℕ → Bool
is_part first count last = nat_le 1 count && nat_le (first + count) last
