-- A surface of a range and a surface of a session, as facts on numbers.
use Rattle.std.specs.Prelude.{◌≡◌, ◌+◌, ◌-◌, ◌≤◌, ◌<◌}
use Rattle.definition.specs.Session.{Session, array_layers, slices_in}
use Rattle.definition.specs.declared.Surface.{Surface}
use Rattle.definition.specs.declared.Range.{Range}

-- The range has the surface.
pub record InRange (r : Range) (s : Surface) : Type 0 where
  pub texture : s.texture ≡ r.texture
  pub mip_low : r.mip ≤ s.mip
  pub mip_high : s.mip < r.mip + r.mips
  pub layer_low : r.layer ≤ s.layer
  pub layer_high : s.layer < r.layer + r.layers
  pub slice : s.slice ≡ r.slice

-- The session has the surface.
pub record Inside (S : Session) (s : Surface) : Type 0 where
  pub texture : s.texture < S.texture_count
  pub mip : s.mip < (S.texture s.texture).mips
  pub layer : s.layer < array_layers (S.texture s.texture)
  pub slice : s.slice < slices_in (S.texture s.texture) s.mip

-- The session has the range: it is not empty, and inside its texture.
pub record RangeInside (S : Session) (r : Range) : Type 0 where
  pub texture : r.texture < S.texture_count
  pub some_mip : 1 ≤ r.mips
  pub mips : r.mip + r.mips ≤ (S.texture r.texture).mips
  pub some_layer : 1 ≤ r.layers
  pub layers : r.layer + r.layers ≤ array_layers (S.texture r.texture)
  pub slice : r.slice < slices_in (S.texture r.texture) (r.mip + r.mips - 1)
