-- Texture formats by document 01's numbers: their aspects (W3C "Texture Format Capabilities"), siblings and bytes per sample, and mip sizes.
use Rattle.std.specs.Prelude.{ℕ, ◌+◌, ◌-◌, ◌*◌, ◌/◌, ◌^◌, max, Bool, true, false, ◌&&◌, ◌||◌, cond, leb, eqb}
use Rattle.definition.specs.declared.Aspects.{Aspects}
use Rattle.definition.specs.declared.TargetCost.{TargetCost}

-- W3C "Plain color formats": 1 r8unorm to 14 rg11b10ufloat.
unfoldable pub is_color : ℕ → Bool
is_color f = leb 1 f && leb f 14

-- The depth and the stencil aspect of a format, in the order of W3C's table of depth-stencil formats. No other format has either.
unfoldable pub aspects : ℕ → Aspects
aspects f =
    cond (eqb f 20) (record { depth = false; stencil = true })  -- stencil8
    (cond (eqb f 21) (record { depth = true; stencil = false })  -- depth16unorm
    (cond (eqb f 22) (record { depth = true; stencil = false })  -- depth24plus
    (cond (eqb f 23) (record { depth = true; stencil = true })  -- depth24plus-stencil8
    (cond (eqb f 24) (record { depth = true; stencil = false })  -- depth32float
    (cond (eqb f 25) (record { depth = true; stencil = true })  -- depth32float-stencil8
    (record { depth = false; stencil = false }))))))

-- Whether a format has a depth aspect, and whether it has a stencil aspect.
abbrev pub has_depth : ℕ → Bool
has_depth f = (aspects f).depth

abbrev pub has_stencil : ℕ → Bool
has_stencil f = (aspects f).stencil

-- W3C "depth-or-stencil format": one with a depth or a stencil aspect.
abbrev pub is_depth_stencil : ℕ → Bool
is_depth_stencil f = has_depth f || has_stencil f

-- Whether a number is a format's.
unfoldable pub is_format : ℕ → Bool
is_format f = is_color f || is_depth_stencil f

-- The format without its sRGB suffix: rgba8unorm of rgba8unorm-srgb, bgra8unorm of bgra8unorm-srgb.
unfoldable pub remove_srgb_suffix : ℕ → ℕ
remove_srgb_suffix f = cond (eqb f 4) 3 (cond (eqb f 6) 5 f)

-- W3C "render target pixel byte cost" and "render target component alignment", in the order of W3C's table of colour formats. Any other format costs nothing.
unfoldable pub target_cost : ℕ → TargetCost
target_cost f =
    cond (eqb f 1) (record { cost = 1; alignment = 1 })  -- r8unorm
    (cond (eqb f 2) (record { cost = 2; alignment = 1 })  -- rg8unorm
    (cond (eqb f 3) (record { cost = 8; alignment = 1 })  -- rgba8unorm
    (cond (eqb f 4) (record { cost = 8; alignment = 1 })  -- rgba8unorm-srgb
    (cond (eqb f 5) (record { cost = 8; alignment = 1 })  -- bgra8unorm
    (cond (eqb f 6) (record { cost = 8; alignment = 1 })  -- bgra8unorm-srgb
    (cond (eqb f 7) (record { cost = 2; alignment = 2 })  -- r16float
    (cond (eqb f 8) (record { cost = 4; alignment = 2 })  -- rg16float
    (cond (eqb f 9) (record { cost = 8; alignment = 2 })  -- rgba16float
    (cond (eqb f 10) (record { cost = 4; alignment = 4 })  -- r32float
    (cond (eqb f 11) (record { cost = 8; alignment = 4 })  -- rg32float
    (cond (eqb f 12) (record { cost = 16; alignment = 4 })  -- rgba32float
    (cond (eqb f 13) (record { cost = 8; alignment = 4 })  -- rgb10a2unorm
    (cond (eqb f 14) (record { cost = 8; alignment = 4 })  -- rg11b10ufloat
    (record { cost = 0; alignment = 1 }))))))))))))))

-- W3C "round_up": the least multiple of k that is n or more.
abbrev pub round_up : ℕ → ℕ → ℕ
round_up k n = (n + k - 1) / k * k

-- The bytes of a sample with a colour of format f more: rounded up to its alignment, and its cost added.
unfoldable pub with_color : ℕ → ℕ → ℕ
with_color bytes f = round_up (target_cost f).alignment bytes + (target_cost f).cost

-- W3C "logical miplevel-specific texture extent": size divided by 2 to the mip, rounded down, at least 1.
unfoldable pub mip_size : ℕ → ℕ → ℕ
mip_size size mip = max 1 (size / 2 ^ mip)
