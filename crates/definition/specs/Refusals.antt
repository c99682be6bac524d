-- The numbers of the refusals, as document 01 gives them.
use Rattle.std.specs.Prelude.{ℕ, Result, Ok, Err}
use Rattle.definition.specs.declared.refusals.Refusal.{Refusal}
use Rattle.definition.specs.declared.refusals.Refusal.TheVariants as R

abbrev pub number_of : Refusal → ℕ
number_of R.WrongLength = 1
number_of R.InvalidHeader = 2
number_of R.InvalidTexture = 3
number_of R.InvalidView = 4
number_of R.InvalidPass = 5
number_of R.InvalidLent = 6
number_of R.TooMany = 10
number_of R.ColorDontCare = 11
number_of R.InvalidTransientOp = 12
number_of R.InvalidDepthStencilFormat = 13
number_of R.InvalidTransientDepthOps = 14
number_of R.ReadOnlyTransientDepth = 15
number_of R.InvalidTransientStencilOps = 16
number_of R.ReadOnlyTransientStencil = 17
number_of R.ReadOnlyWithLoad = 18
number_of R.ReadOnlyWithStore = 19
number_of R.NoLoad = 20
number_of R.NoClearValue = 21
number_of R.ClearValueOutOfRange = 22
number_of R.ChannelDontCare = 23
number_of R.NoStore = 24
number_of R.DepthOpsWithoutAspect = 25
number_of R.StencilOpsWithoutAspect = 26
number_of R.MultiviewDimensionMismatch = 30
number_of R.MultiviewMismatch = 31
number_of R.MissingMultiview = 32
number_of R.TooManyMultiviewViews = 33
number_of R.NotRenderable = 34
number_of R.DimensionMismatch = 35
number_of R.SampleCountMismatch = 36
number_of R.InvalidFormat = 37
number_of R.DepthSliceLimit = 38
number_of R.MissingDepthSlice = 39
number_of R.UnneededDepthSlice = 40
number_of R.SubresourceOverlap = 41
number_of R.InvalidResolveSampleCounts = 42
number_of R.MismatchedResolveFormat = 43
number_of R.UnsupportedResolveFormat = 44
number_of R.InvalidTransientResolveTarget = 45
number_of R.MissingAttachments = 46
number_of R.MissingSelectiveMultiview = 47
number_of R.InvalidResolveDimension = 48
number_of R.TooManyColorBytes = 51
number_of R.TooManyDiscards = 49
number_of R.TooManyActions = 50

-- The number of what is accepted, 0, or of its refusal.
abbrev pub number_in : {X : Type 0} → Result X Refusal → ℕ
number_in (Ok x) = 0
number_in (Err refusal) = number_of refusal
