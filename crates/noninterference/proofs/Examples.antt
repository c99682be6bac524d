-- The theorem applied to files, the memory computed on small runs, and runs outside the theorem of which the claim is false: without the strict flag, and with masks
-- that leave layers out.
use mathlib.Core.Path.{◌≡◌, refl, sym, ◌∙◌}
use mathlib.Core.Bool.{Bool, true, false, not}
use mathlib.Core.List.{List, [], ◌∷◌}
use mathlib.Core.Option.{none}
use Prim.Native.Nat.{ℕ, ◌+◌}
use native.Mathlib.Omega.{arith}
use lib.ListN.{take}
use Rattle.definition.specs.Sizes.{no_view}
use Rattle.definition.specs.Surfaces.{surface_at}
use Rattle.definition.specs.Session.{session, strict}
use Rattle.definition.specs.Readable.{session_refusal}
use Rattle.definition.specs.Status.{filled}
use Rattle.definition.specs.Calls.{fresh, Call, pass, submit, answers}
use Rattle.definition.specs.Computing.{computing}
use Rattle.definition.specs.Files.{texture, view, shown_as, channel, absent, slice_slot, slot, pass_of, colors, depth_stencil, file}
use Rattle.definition.specs.declared.Surface.{Surface}
use Rattle.laws.specs.Surfaces.{Inside}
use Rattle.laws.proofs.Tests.{clash}
use Rattle.noninterference.specs.Memory.{color_aspect, stencil_aspect, Drawing, Contents}
use Rattle.noninterference.specs.Claim.{all_masked, Masked, byte_at, submitted_passes, last_use, kept, loaded_by, memory_after, Hidden, Claim}
use Rattle.noninterference.proofs.Theorem.{demand_three, fresh_starts}

-- ── inside the theorem

-- A colour texture and a depth-stencil texture. Passes: 0 Clear with Discard; 1 Load with Store; 2 Clear with Store;
-- 3 depth Load with Store and stencil Clear with Discard, which diverge; 4 both Load with Store.
abbrev strict_file : List ℕ
strict_file =
    file 8 0 1 (texture 3 2 4 1 1 1 16 ∷ texture 23 2 4 1 1 1 16 ∷ []) (view 0 2 1 1 16 0 ∷ view 1 2 1 1 16 0 ∷ [])
    (colors (slot 0 1 1 ∷ []) ∷ colors (slot 0 0 0 ∷ []) ∷ colors (slot 0 1 0 ∷ [])
    ∷ depth_stencil 1 (channel 0 0 0 0 0) (channel 1 1 0 1 0)
    ∷ depth_stencil 1 (channel 0 0 0 0 0) (channel 0 0 0 0 0)
    ∷ [])

-- The premises can be met.
pub applies : Claim (session strict_file)
unfolding computing
applies = demand_three strict_file refl refl

-- A memory of numbers: zero is 0, a clear gives 1, the pass of call n draws 100 + n; 5 is there at the start, and a discard leaves 7.
abbrev drawing : Drawing ℕ
drawing = record { nil = 0; clear_to = λ a c. 1; draw = λ n v s a. 100 + n }

abbrev contents : Contents ℕ
contents = record { first = λ s a. 5; left = λ n s a. 7 }

abbrev run_of : List ℕ → List Call → List (List ℕ)
run_of s calls = loaded_by drawing contents (session s) fresh calls

abbrev run : List Call → List (List ℕ)
run = run_of strict_file

-- The first load shows zero; so does one after a discard, in the same buffer or in the next; a load after a store shows what was drawn, and a
-- divergent aspect is zero.
pub computed : (run (pass 1 ∷ submit ∷ [])
    ∷ run (pass 2 ∷ pass 0 ∷ pass 1 ∷ submit ∷ [])
    ∷ run (pass 0 ∷ submit ∷ pass 1 ∷ submit ∷ [])
    ∷ run (pass 2 ∷ submit ∷ pass 1 ∷ submit ∷ pass 1 ∷ submit ∷ [])
    ∷ run (pass 3 ∷ submit ∷ pass 4 ∷ submit ∷ [])
    ∷ [])
    ≡ (((0 ∷ []) ∷ [])
    ∷ ((1 ∷ []) ∷ (1 ∷ []) ∷ (0 ∷ []) ∷ [])
    ∷ ((1 ∷ []) ∷ (0 ∷ []) ∷ [])
    ∷ ((1 ∷ []) ∷ (100 ∷ []) ∷ (102 ∷ []) ∷ [])
    ∷ ((0 ∷ 1 ∷ []) ∷ (100 ∷ 0 ∷ []) ∷ [])
    ∷ [])
unfolding computing
computed = refl

-- One texture, shown as 3 by view 0 and as 4 by view 1. Passes: 0 Clear with Store as 3; 1 Load with Store as 4; 2 Clear with Discard as 3.
abbrev siblings_file : List ℕ
siblings_file =
    file 8 0 1 (texture 3 2 4 1 1 1 16 ∷ []) (view 0 2 1 1 16 0 ∷ shown_as 4 (view 0 2 1 1 16 0) ∷ [])
    (colors (slot 0 1 0 ∷ []) ∷ colors (slot 1 0 0 ∷ []) ∷ colors (slot 0 1 1 ∷ []) ∷ [])

-- Siblings share their memory: the load as 4 shows what was drawn as 3, and zero where that was discarded, in the same buffer or in the next.
pub siblings : (run_of siblings_file (pass 0 ∷ submit ∷ pass 1 ∷ submit ∷ [])
    ∷ run_of siblings_file (pass 0 ∷ pass 2 ∷ pass 1 ∷ submit ∷ [])
    ∷ run_of siblings_file (pass 2 ∷ submit ∷ pass 1 ∷ submit ∷ [])
    ∷ [])
    ≡ (((1 ∷ []) ∷ (100 ∷ []) ∷ []) ∷ ((1 ∷ []) ∷ (1 ∷ []) ∷ (0 ∷ []) ∷ []) ∷ ((1 ∷ []) ∷ (0 ∷ []) ∷ []) ∷ [])
unfolding computing
siblings = refl

-- What is left: what was there before any submission, what a discard left, what was drawn, and the zero of the divergent aspect.
pub remains : (memory_after drawing contents (session strict_file) fresh (pass 0 ∷ []) (surface_at 0 0 0 0) color_aspect
    ∷ memory_after drawing contents (session strict_file) fresh (pass 0 ∷ submit ∷ []) (surface_at 0 0 0 0) color_aspect
    ∷ memory_after drawing contents (session strict_file) fresh (pass 2 ∷ submit ∷ []) (surface_at 0 0 0 0) color_aspect
    ∷ memory_after drawing contents (session strict_file) fresh (pass 3 ∷ submit ∷ []) (surface_at 1 0 0 0) stencil_aspect
    ∷ [])
    ≡ (5 ∷ 7 ∷ 100 ∷ 0 ∷ [])
unfolding computing
remains = refl

-- A 3D texture of four slices, two mips. Passes: 0 Clear with Discard of slice 0 and Clear with Store of slice 1; 1 Load with Store of both.
abbrev slices_file : List ℕ
slices_file =
    file 8 0 1 (texture 3 3 4 4 2 1 16 ∷ []) (view 0 6 1 1 16 0 ∷ [])
    (colors (slice_slot 0 1 0 no_view 1 1 ∷ slice_slot 0 1 1 no_view 1 0 ∷ []) ∷ colors (slice_slot 0 1 0 no_view 0 0 ∷ slice_slot 0 1 1 no_view 0 0 ∷ []) ∷ [])

-- The discard empties its slice alone.
pub slice_emptied : (run_of slices_file (pass 0 ∷ pass 1 ∷ submit ∷ [])
    ∷ run_of slices_file (pass 0 ∷ submit ∷ pass 1 ∷ submit ∷ [])
    ∷ [])
    ≡ (((1 ∷ 1 ∷ []) ∷ (0 ∷ 100 ∷ []) ∷ []) ∷ ((1 ∷ 1 ∷ []) ∷ (0 ∷ 100 ∷ []) ∷ []) ∷ [])
unfolding computing
slice_emptied = refl

pub slices_apply : Claim (session slices_file)
unfolding computing
slices_apply = demand_three slices_file refl refl

-- A view of both layers of a texture, and a pass that has it as its colour, under a mask.
abbrev stereo_file : (flags : ℕ) → List (List ℕ) → List ℕ
stereo_file flags passes = file 8 2 flags (texture 3 2 4 2 1 1 16 ∷ []) (view 0 3 1 2 16 0 ∷ []) passes

abbrev stereo : (mask load store : ℕ) → List ℕ
stereo mask load store = pass_of mask 0 no_view absent absent (slot 0 load store ∷ [])

-- Mask 3 names both. Passes: 0 Clear with Store; 1 Clear with Discard; 2 Load with Store.
abbrev eyes_file : List ℕ
eyes_file = stereo_file 3 (stereo 3 1 0 ∷ stereo 3 1 1 ∷ stereo 3 0 0 ∷ [])

-- A discard empties both: a load shows zero in each, in the same buffer and in the next. After a store it shows what was drawn.
pub both_emptied : (run_of eyes_file (pass 0 ∷ pass 1 ∷ pass 2 ∷ submit ∷ [])
    ∷ run_of eyes_file (pass 0 ∷ pass 1 ∷ submit ∷ pass 2 ∷ submit ∷ [])
    ∷ run_of eyes_file (pass 0 ∷ submit ∷ pass 2 ∷ submit ∷ [])
    ∷ [])
    ≡ (((1 ∷ 1 ∷ []) ∷ (1 ∷ 1 ∷ []) ∷ (0 ∷ 0 ∷ []) ∷ [])
    ∷ ((1 ∷ 1 ∷ []) ∷ (1 ∷ 1 ∷ []) ∷ (0 ∷ 0 ∷ []) ∷ [])
    ∷ ((1 ∷ 1 ∷ []) ∷ (100 ∷ 100 ∷ []) ∷ [])
    ∷ [])
unfolding computing
both_emptied = refl

-- The masks are what the claim asks for, and so the theorem speaks of it.
abbrev eyes_calls : List Call
eyes_calls = pass 0 ∷ pass 1 ∷ pass 2 ∷ submit ∷ pass 1 ∷ submit ∷ pass 2 ∷ submit ∷ []

pub eyes_masked : Masked (session eyes_file) fresh eyes_calls
unfolding computing
eyes_masked = refl

pub eyes_apply : {Val : Type 0} (D : Drawing Val) (c c' : Contents Val) → Hidden D c c' (session eyes_file) fresh eyes_calls
unfolding computing
eyes_apply {Val} D c c' = demand_three eyes_file refl refl Val D c c' fresh (fresh_starts eyes_file refl) eyes_calls eyes_masked

-- ── outside it

-- A readable session and calls of it, strict or not and masked or not, of which what is claimed is false.
pub record Fails (s : List ℕ) (calls : List Call) (is_strict is_masked : Bool) : Type 0 where
  pub readable : session_refusal s ≡ 0
  pub strict : strict (session s) ≡ is_strict
  pub masked : all_masked (session s) calls (answers (session s) calls fresh) ≡ is_masked
  pub fails : Hidden drawing contents contents (session s) fresh calls → ⊥

not_opposite : (b : Bool) → b ≡ not b → ⊥
not_opposite true h = clash {b = true} refl h
not_opposite false h = clash {b = false} h refl

-- After the first n calls a surface is marked otherwise than the last pass kept it.
marked_wrong : (s : List ℕ) (calls : List Call) (n : ℕ) (x : Surface) (b : Bool) → Inside (session s) x
    → filled (byte_at (session s) fresh (take n calls) x) ≡ b → kept (last_use none (submitted_passes (session s) fresh (take n calls)) x) ≡ not b
    → Hidden drawing contents contents (session s) fresh calls → ⊥
marked_wrong s calls n x b inside marked left h = not_opposite b (sym marked ∙ h.marks n x inside ∙ left)

-- Depth Clear and stencil DontCare, both stored.
abbrev loose_file : List ℕ
loose_file =
    file 8 0 0 (texture 23 2 4 1 1 1 16 ∷ []) (view 0 2 1 1 16 0 ∷ []) (depth_stencil 0 (channel 1 0 0 1 0) (channel 2 0 0 0 0) ∷ [])

-- Not strict: the pass registers nothing, so the surface is not marked filled.
pub not_loose : Fails loose_file (pass 0 ∷ submit ∷ []) false true
unfolding computing
not_loose = record {
  readable = refl;
  strict = refl;
  masked = refl;
  fails = marked_wrong loose_file (pass 0 ∷ submit ∷ []) 2 (surface_at 0 0 0 0) false (record { texture = omega arith; mip = omega arith; layer = omega arith; slice = omega arith }) refl refl;
}

-- With SELECTIVE_MULTIVIEW. Passes: 0 Clear with Store under mask 1, which names the first layer alone; 1 Clear with Store under no mask, which names none; 2 Load
-- with Store under mask 3.
abbrev mask_file : List ℕ
mask_file = stereo_file 7 (stereo 1 1 0 ∷ stereo 0 1 0 ∷ stereo 3 0 0 ∷ [])

-- Not masked: the second layer is marked filled, though the pass does not draw it;
pub not_masked : Fails mask_file (pass 0 ∷ submit ∷ []) true false
unfolding computing
not_masked = record {
  readable = refl;
  strict = refl;
  masked = refl;
  fails = marked_wrong mask_file (pass 0 ∷ submit ∷ []) 2 (surface_at 0 0 1 0) true (record { texture = omega arith; mip = omega arith; layer = omega arith; slice = omega arith }) refl refl;
}

-- and so is the first, where there is no mask.
pub no_mask : Fails mask_file (pass 1 ∷ submit ∷ []) true false
unfolding computing
no_mask = record {
  readable = refl;
  strict = refl;
  masked = refl;
  fails = marked_wrong mask_file (pass 1 ∷ submit ∷ []) 2 (surface_at 0 0 0 0) true (record { texture = omega arith; mip = omega arith; layer = omega arith; slice = omega arith }) refl refl;
}

-- What was there then shows in a load: of the second layer, and of both.
pub unnamed_shown : (run_of mask_file (pass 0 ∷ submit ∷ pass 2 ∷ submit ∷ []) ∷ run_of mask_file (pass 1 ∷ submit ∷ pass 2 ∷ submit ∷ []) ∷ [])
    ≡ (((1 ∷ []) ∷ (100 ∷ 5 ∷ []) ∷ []) ∷ ([] ∷ (5 ∷ 5 ∷ []) ∷ []) ∷ [])
unfolding computing
unnamed_shown = refl
