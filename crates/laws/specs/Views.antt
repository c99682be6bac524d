-- What number 4 says of a view, as facts.
use Rattle.std.specs.Prelude.{◌≡◌, true, ◌≤◌}
use Rattle.definition.specs.Session.{Session, format_of, texture_format, view_range}
use Rattle.definition.specs.Readable.{usage_among, dimension_fits, format_fits}
use Rattle.definition.specs.declared.View.{View}
use Rattle.laws.specs.Surfaces.{RangeInside}

pub record ValidView (S : Session) (v : View) : Type 0 where
  pub range : RangeInside S (view_range v)
  pub dimension : dimension_fits v.dimension (S.texture v.texture).dimension ≡ true
  pub usage : usage_among v.usage (S.texture v.texture).usage ≡ true
  pub resolvable : v.resolvable ≤ 1
  pub format : format_fits (format_of v) (texture_format S v) ≡ true
