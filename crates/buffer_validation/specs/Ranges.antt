-- What number 6 asks of a surface and of a range, past the number of their texture.
use Rattle.std.specs.Prelude.{◌+◌, ◌-◌, Bool, not, ◌&&◌, eqb, leb, ltb}
use Rattle.definition.specs.Session.{Session, array_layers, slices_in}
use Rattle.definition.specs.declared.Texture.{Texture}
use Rattle.definition.specs.declared.Surface.{Surface}
use Rattle.definition.specs.declared.Range.{Range}

-- The range is of a texture that is not 3D.
abbrev pub is_flat : Session → Range → Bool
is_flat S r = not (eqb (S.texture r.texture).dimension 3)

-- The texture has the surface.
abbrev pub surface_fits : Texture → Surface → Bool
surface_fits t s = ltb s.mip t.mips && (ltb s.layer (array_layers t) && ltb s.slice (slices_in t s.mip))

-- It has the mips and the layers of the range, which has some of both.
abbrev pub area_fits : Texture → Range → Bool
area_fits t r = leb 1 r.mips && leb (r.mip + r.mips) t.mips && (leb 1 r.layers && leb (r.layer + r.layers) (array_layers t))

-- It has the range, and the range is not empty.
abbrev pub range_fits : Texture → Range → Bool
range_fits t r = area_fits t r && ltb r.slice (slices_in t (r.mip + r.mips - 1))
