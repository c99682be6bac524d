-- What the structs of this crate say of a pass's attachments.
use Rattle.std.specs.Prelude as code
use Rattle.std.specs.Prelude.{ℕ, ◌≡◌, Bool, false, List, [], ◌∷◌, None, Some}
use Rattle.definition.specs.Session.{Session}
use Rattle.definition.specs.Attachments.{Attached, divergent_of}
use Rattle.definition.specs.Pass.{black, zero32, attachment_reply, depth_read_only, stencil_read_only}
use Rattle.definition.specs.declared.Attachment.{Attachment}
use Rattle.laws.specs.Plans.{plan_of}
use Rattle.memory_init.specs.Plans.{plan_in}
use Rattle.attachments.specs.declared.DepthStencilPart.{DepthStencilPart}
use Rattle.attachments.specs.Effect.{aspect_in}

-- A record of a reply that stands for no attachment.
abbrev pub blank : Attachment
blank = record { view = 0; usage = 0; ops = 0; stencil_ops = 0; color = black; depth = zero32; stencil = 0 }

-- d is the depth-stencil attachment x.
pub record Present (S : Session) (d : DepthStencilPart) (x : Attached) : Type 0 where
  pub planned : plan_in d.planned ≡ plan_of x
  pub reply : d.reply ≡ attachment_reply S x
  pub depth : d.is_depth_read_only ≡ depth_read_only x
  pub stencil : d.is_stencil_read_only ≡ stencil_read_only x
  pub divergent : aspect_in d.divergent ≡ divergent_of x

-- d is the depth-stencil attachment of these, if there is one.
abbrev pub PartOf : Session → code.Option DepthStencilPart → List Attached → Type 0
PartOf S None xs = xs ≡ []
PartOf S (Some d) xs = (x : Attached) × (xs ≡ x ∷ []) × Present S d x

-- Whether its depth and its stencil are read-only, and the aspect that is cleared after the pass.
abbrev pub is_depth_read_only : code.Option DepthStencilPart → Bool
is_depth_read_only None = false
is_depth_read_only (Some d) = d.is_depth_read_only

abbrev pub is_stencil_read_only : code.Option DepthStencilPart → Bool
is_stencil_read_only None = false
is_stencil_read_only (Some d) = d.is_stencil_read_only

abbrev pub divergent_in : code.Option DepthStencilPart → ℕ
divergent_in None = 0
divergent_in (Some d) = aspect_in d.divergent
