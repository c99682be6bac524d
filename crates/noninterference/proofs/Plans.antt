-- What an attachment registers and lists, against what it does to each aspect: four facts, computed over all operations of both channels.
use mathlib.Core.Path.{◌≡◌, refl}
use mathlib.Core.Bool.{Bool, true, false, not, ◌&&◌, ◌||◌, cond, beq}
use mathlib.Core.List.{List, [], ◌∷◌, ◌++◌}
use mathlib.Core.Option.{Option, none, some}
use Prim.Native.Nat.{ℕ}
use lib.Ieee.{Float}
use Rattle.definition.specs.Surfaces.{layers_of}
use Rattle.definition.specs.Channel.{LoadOp, load_op, clear_op, dont_care, Ops, ignores}
use Rattle.definition.specs.Attachments.{Attached, depth_stencil, color, resolve_to, range_in, depth_stencil_kind, depth_stencil_discards, depth_stencil_divergent, kind_of, discards, divergent_of}
use Rattle.definition.specs.declared.Color.{Color}
use Rattle.definition.specs.declared.Range.{Range}
use Rattle.laws.proofs.Tests.{clash, and_left, and_right, both_at, four_at, implies_on, beq_eq, not_on, not_off}
use Rattle.noninterference.specs.Memory.{Aspect, color_aspect, depth_aspect, stencil_aspect, same_aspect, Clear, of_color, of_depth, of_stencil, Input, shows, clears, nothing, Part, Use, part_at, is_divergent}
use Rattle.noninterference.specs.Claim.{all_discarded}
use Rattle.noninterference.proofs.Spots.{is_none, needs}

-- ── an attachment as the memory is told of it

abbrev pub input_of : {X : Type 0} → (X → Clear) → LoadOp X → Input
input_of f load_op = shows
input_of f (clear_op x) = clears (f x)
input_of f dont_care = shows

abbrev pub part_of : {X : Type 0} → Aspect → (X → Clear) → Ops X → Part
part_of a f c = record { aspect = a; input = input_of f c.load; keep = c.keep }

abbrev pub parts_of : Attached → List Part
parts_of (depth_stencil v r hd hs d s) = cond hd (part_of depth_aspect of_depth d ∷ []) [] ++ cond hs (part_of stencil_aspect of_stencil s ∷ []) []
parts_of (color v r c) = part_of color_aspect of_color c ∷ []
parts_of (resolve_to v r) = record { aspect = color_aspect; input = nothing; keep = true } ∷ []

abbrev pub planned_use : Attached → Use
planned_use x = record { surfaces = layers_of (range_in x); parts = parts_of x; divergent = divergent_of x }

-- ── questions about its parts

abbrev pub is_load : Input → Bool
is_load shows = true
is_load (clears v) = false
is_load nothing = false

abbrev pub any_load : List Part → Bool
any_load [] = false
any_load (q ∷ qs) = is_load q.input || any_load qs

abbrev pub has_part : List Part → Aspect → Bool
has_part [] a = false
has_part (q ∷ qs) a = same_aspect a q.aspect || has_part qs a

abbrev pub kept_part : Option Part → Bool
kept_part none = false
kept_part (some q) = q.keep

-- After the pass the aspect shows neither what was there nor what a discard left.
abbrev pub settled : Attached → Aspect → Bool
settled x a = is_divergent (divergent_of x) a || kept_part (part_at (parts_of x) a)

all_settled : Attached → List Part → Bool
all_settled x [] = true
all_settled x (q ∷ qs) = settled x q.aspect && all_settled x qs

-- What acceptance in a strict session gives of one attachment: no DontCare, and a depth-stencil format has an aspect.
abbrev pub proper : Attached → Bool
proper (depth_stencil v r hd hs d s) = (hd || hs) && not (hd && ignores d.load) && not (hs && ignores s.load)
proper (color v r c) = not (ignores c.load)
proper (resolve_to v r) = true

-- ── the four facts as tests

abbrev implies : Bool → Bool → Bool
implies a b = not a || b

-- It registers a needing action exactly where it loads.
abbrev loads_test : Attached → Bool
loads_test x = beq (any_load (parts_of x)) (needs (kind_of x))

-- What it does not list as discarded, it registers.
abbrev keeps_test : Attached → Bool
keeps_test x = implies (not (discards x)) (not (is_none (kind_of x)))

-- It lists exactly what it discards in every aspect.
abbrev discards_test : Attached → Bool
discards_test x = beq (discards x) (all_discarded (parts_of x))

-- What it does not list as discarded, it settles in every aspect.
abbrev settled_test : Attached → Bool
settled_test x = implies (not (discards x)) (all_settled x (parts_of x))

abbrev plan_test : Attached → Bool
plan_test x = loads_test x && keeps_test x && discards_test x && settled_test x

-- ── at every attachment

abbrev both_channels : Range → LoadOp Float → LoadOp ℕ → Bool → Bool → ℕ → Bool → Bool → Bool → Bool → Attached
both_channels r l m e f v hd hs k n = depth_stencil v r hd hs (record { load = l; keep = k; read_only = e }) (record { load = m; keep = n; read_only = f })

abbrev depth_stencil_good : Range → LoadOp Float → LoadOp ℕ → Bool → Bool → ℕ → Bool → Bool → Bool → Bool → Bool
depth_stencil_good r l m e f v hd hs k n = implies (proper (both_channels r l m e f v hd hs k n)) (plan_test (both_channels r l m e f v hd hs k n))

depth_stencil_test : (r : Range) (l : LoadOp Float) (m : LoadOp ℕ) (e f : Bool) (v : ℕ) (hd hs k n : Bool) → depth_stencil_good r l m e f v hd hs k n ≡ true
unfolding all_settled depth_stencil_kind depth_stencil_discards depth_stencil_divergent
depth_stencil_test r load_op load_op e f v = four_at (depth_stencil_good r load_op load_op e f v) refl
depth_stencil_test r load_op (clear_op y) e f v = four_at (depth_stencil_good r load_op (clear_op y) e f v) refl
depth_stencil_test r load_op dont_care e f v = four_at (depth_stencil_good r load_op dont_care e f v) refl
depth_stencil_test r (clear_op x) load_op e f v = four_at (depth_stencil_good r (clear_op x) load_op e f v) refl
depth_stencil_test r (clear_op x) (clear_op y) e f v = four_at (depth_stencil_good r (clear_op x) (clear_op y) e f v) refl
depth_stencil_test r (clear_op x) dont_care e f v = four_at (depth_stencil_good r (clear_op x) dont_care e f v) refl
depth_stencil_test r dont_care load_op e f v = four_at (depth_stencil_good r dont_care load_op e f v) refl
depth_stencil_test r dont_care (clear_op y) e f v = four_at (depth_stencil_good r dont_care (clear_op y) e f v) refl
depth_stencil_test r dont_care dont_care e f v = four_at (depth_stencil_good r dont_care dont_care e f v) refl

abbrev color_good : Range → LoadOp Color → Bool → ℕ → Bool → Bool
color_good r l e v k =
    implies (proper (color v r (record { load = l; keep = k; read_only = e }))) (plan_test (color v r (record { load = l; keep = k; read_only = e })))

color_test : (r : Range) (l : LoadOp Color) (e : Bool) (v : ℕ) (k : Bool) → color_good r l e v k ≡ true
unfolding all_settled
color_test r load_op e v = both_at (color_good r load_op e v) refl
color_test r (clear_op x) e v = both_at (color_good r (clear_op x) e v) refl
color_test r dont_care e v = both_at (color_good r dont_care e v) refl

plan_test_lem : (x : Attached) → proper x ≡ true → plan_test x ≡ true
unfolding all_settled
plan_test_lem (depth_stencil v r hd hs d s) h =
    implies_on _ _ (depth_stencil_test r d.load s.load d.read_only s.read_only v hd hs d.keep s.keep) h
plan_test_lem (color v r c) h = implies_on _ _ (color_test r c.load c.read_only v c.keep) h
plan_test_lem (resolve_to v r) h = refl

-- ── the four facts

pub plan_loads : (x : Attached) → proper x ≡ true → any_load (parts_of x) ≡ needs (kind_of x)
plan_loads x h =
    beq_eq _ _ (and_left (loads_test x) (keeps_test x) (and_left (loads_test x && keeps_test x) (discards_test x)
    (and_left (loads_test x && keeps_test x && discards_test x) (settled_test x) (plan_test_lem x h))))

pub plan_keeps : (x : Attached) → proper x ≡ true → discards x ≡ false → is_none (kind_of x) ≡ false
plan_keeps x h e =
    not_off _ (implies_on (not (discards x)) _ (and_right (loads_test x) (keeps_test x) (and_left (loads_test x && keeps_test x) (discards_test x)
    (and_left (loads_test x && keeps_test x && discards_test x) (settled_test x) (plan_test_lem x h)))) (not_on _ e))

pub plan_discards : (x : Attached) → proper x ≡ true → discards x ≡ all_discarded (parts_of x)
plan_discards x h =
    beq_eq _ _ (and_right (loads_test x && keeps_test x) (discards_test x)
    (and_left (loads_test x && keeps_test x && discards_test x) (settled_test x) (plan_test_lem x h)))

aspect_eq : (a b : Aspect) → same_aspect a b ≡ true → a ≡ b
aspect_eq color_aspect color_aspect h = refl
aspect_eq color_aspect depth_aspect h = clash {b = false} h refl
aspect_eq color_aspect stencil_aspect h = clash {b = false} h refl
aspect_eq depth_aspect color_aspect h = clash {b = false} h refl
aspect_eq depth_aspect depth_aspect h = refl
aspect_eq depth_aspect stencil_aspect h = clash {b = false} h refl
aspect_eq stencil_aspect color_aspect h = clash {b = false} h refl
aspect_eq stencil_aspect depth_aspect h = clash {b = false} h refl
aspect_eq stencil_aspect stencil_aspect h = refl

settled_at : (x : Attached) (qs : List Part) (a : Aspect) → all_settled x qs ≡ true → has_part qs a ≡ true → settled x a ≡ true
unfolding all_settled
settled_at x [] a h e = clash {b = false} e refl
settled_at x (q ∷ qs) a h e = go (same_aspect a q.aspect) refl (settled_at x qs a (and_right (settled x q.aspect) _ h))
  where
    go : (t : Bool) → same_aspect a q.aspect ≡ t → (has_part qs a ≡ true → settled x a ≡ true) → settled x a ≡ true
    go true f ih = rw (aspect_eq a q.aspect f) (and_left (settled x q.aspect) _ h)
    go false f ih = ih (rw f at e)

pub plan_settled : (x : Attached) (a : Aspect) → proper x ≡ true → discards x ≡ false → has_part (parts_of x) a ≡ true → settled x a ≡ true
plan_settled x a h e f =
    settled_at x (parts_of x) a
    (implies_on (not (discards x)) _ (and_right (loads_test x && keeps_test x && discards_test x) (settled_test x) (plan_test_lem x h)) (not_on _ e))
    f
