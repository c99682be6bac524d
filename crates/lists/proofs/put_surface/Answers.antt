-- The bytes of the four numbers are the surface's.
use Rattle.lists.proofs.Bytes.{surface_stored}
use Rattle.lists.proofs.put_surface.Goals as goal

pub returns : goal.returns
returns c =
    surface_stored _ _ _ _ _ _ c.args.s c.requires c.put_u32_inside.ensures c.put_u32_inside-2.ensures c.put_u32_inside-3.ensures
    c.put_u32_inside-4.ensures
