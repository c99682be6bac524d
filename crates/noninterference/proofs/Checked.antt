-- One attachment that the checks accept is one mip of the session, and sound where the session is strict: its parts are its format's aspects, and its reply tells
-- them, if the mask names all its layers.
use mathlib.Core.Path.{◌≡◌, refl, sym, ap, ap₂, subst, ◌∙◌}
use mathlib.Core.Bool.{Bool, true, false, not, ◌&&◌, ◌||◌, cond}
use mathlib.Core.List.{List, [], ◌∷◌, ◌++◌}
use mathlib.Core.Option.{Option, none, some}
use Prim.Native.Nat.{ℕ, zero, suc, ◌+◌, ◌-◌, ◌≤◌, ◌<◌}
use native.Mathlib.Omega.{arith}
use lib.Dec.{ltb, eqb}
use lib.Ieee.{Float}
use borrow.Author.Tests.{eqb-true, ltb-true}
use Rattle.definition.specs.Bytes.{bit}
use Rattle.definition.specs.Formats.{is_color, is_depth_stencil, aspects, has_depth, has_stencil}
use Rattle.definition.specs.Surfaces.{surface_at, hits, layers_from, layers_of, elem, meets}
use Rattle.definition.specs.Session.{Pass, Session, strict, format_of, texture_format, slices_in, range_of, attached_slice, slice_range, view_range, depth_of, is_d2, is_d2_array, is_d3, transient}
use Rattle.definition.specs.Verdict.{at_depth_stencil, is_accepted, ◌then◌, unless}
use Rattle.definition.specs.Readable.{views_valid}
use Rattle.definition.specs.MemoryInit.{retain}
use Rattle.definition.specs.Channel.{LoadOp, load_op, clear_op, dont_care, Ops, operational, keep_of, ignores, load_bits, store_bits, clear_value, PassChannel, depth_channel, stencil_channel, Handled, value, refusal, resolve_read_only, with_store, with_clear, resolve_ops, resolve, handle_depth, handle_stencil, resolve_depth, resolve_stencil, depth_resolved, stencil_resolved, resolved_ops}
use Rattle.definition.specs.Views.{none_seen, renderable, multiview_verdict, view_verdict, slice_verdict, takes, overlap_verdict, depth_stencil_view, color_view, target_view, target_of, resolve_view}
use Rattle.definition.specs.Check.{slot_load, channel_ops}
use Rattle.definition.specs.Attachments.{Attached, depth_stencil, color, resolve_to, depth_ops, stencil_ops, depth_stencil_of, color_of, range_in}
use Rattle.definition.specs.Pass.{zero32, black, attachment_reply}
use Rattle.definition.specs.declared.Texture.{Texture}
use Rattle.definition.specs.declared.View.{View}
use Rattle.definition.specs.declared.Channel.{Channel}
use Rattle.definition.specs.declared.Color.{Color}
use Rattle.definition.specs.declared.Slot.{Slot}
use Rattle.definition.specs.declared.Seen.{Seen}
use Rattle.definition.specs.declared.Surface.{Surface}
use Rattle.definition.specs.declared.Range.{Range}
use Rattle.laws.specs.Surfaces.{RangeInside}
use Rattle.laws.specs.Views.{ValidView}
use Rattle.laws.proofs.Tests.{clash, and_on, not_off}
use Rattle.laws.proofs.Formats.{color_depth, color_stencil, depth_color, fits_color, fits_aspects}
use Rattle.laws.proofs.Surfaces.{hits_in_lem, layers_all}
use Rattle.laws.proofs.Verdicts.{then_left, then_right, unless_on}
use Rattle.laws.proofs.Folds.{and_each, views_each}
use Rattle.laws.proofs.Views.{valid_view, range_surface, slices_some, solid_view, renderable_mip}
use Rattle.noninterference.specs.Memory.{Aspect, color_aspect, depth_aspect, stencil_aspect, format_has, Clear, of_color, of_depth, of_stencil, nothing, Part, part_in, draws, drawn, use_of}
use Rattle.noninterference.specs.Claim.{bits_set, names_layers}
use Rattle.noninterference.proofs.Plans.{input_of, part_of, parts_of, planned_use, has_part, proper}
use Rattle.noninterference.proofs.Sound.{Sound}

-- ── the parts of an attachment are its format's aspects

color_aspects : (f : ℕ) → is_color f ≡ true → (q : Part) → q.aspect ≡ color_aspect → (a : Aspect) → format_has f a ≡ has_part (q ∷ []) a
color_aspects f h q e color_aspect = rw (h, e)
color_aspects f h q e depth_aspect = rw (color_depth f h, e)
color_aspects f h q e stencil_aspect = rw (color_stencil f h, e)

depth_aspects : (f : ℕ) → is_depth_stencil f ≡ true → (hd hs : Bool) → has_depth f ≡ hd → has_stencil f ≡ hs
    → (d s : Part) → d.aspect ≡ depth_aspect → s.aspect ≡ stencil_aspect
    → (a : Aspect) → format_has f a ≡ has_part (cond hd (d ∷ []) [] ++ cond hs (s ∷ []) []) a
depth_aspects f h true true i j d s p q color_aspect = rw (depth_color f h, p, q)
depth_aspects f h true false i j d s p q color_aspect = rw (depth_color f h, p)
depth_aspects f h false true i j d s p q color_aspect = rw (depth_color f h, q)
depth_aspects f h false false i j d s p q color_aspect = rw (depth_color f h)
depth_aspects f h true true i j d s p q depth_aspect = rw (i, p)
depth_aspects f h true false i j d s p q depth_aspect = rw (i, p)
depth_aspects f h false true i j d s p q depth_aspect = rw (i, q)
depth_aspects f h false false i j d s p q depth_aspect = rw i
depth_aspects f h true true i j d s p q stencil_aspect = rw (j, p, q)
depth_aspects f h true false i j d s p q stencil_aspect = rw (j, p)
depth_aspects f h false true i j d s p q stencil_aspect = rw (j, q)
depth_aspects f h false false i j d s p q stencil_aspect = rw j

-- ── a mask that names all layers draws all

-- Each bit below n.
bits_each : (mask n : ℕ) → bits_set mask n ≡ true → (j : ℕ) → j < n → bit mask j ≡ true
bits_each mask = and_each (bits_set mask) (bit mask) (λ n. refl)

-- Layers that are all drawn.
layers_drawn : (mask : ℕ) (r : Range) (t m k l n : ℕ) → ((i : ℕ) → l ≤ i → i < l + n → draws mask r (surface_at t m i k) ≡ true)
    → retain (draws mask r) (layers_from t m k l n) ≡ layers_from t m k l n
layers_drawn mask r t m k l zero h = refl
layers_drawn mask r t m k l (suc n) h =
    rw (h l (omega arith) (omega arith))
    (ap (λ x. surface_at t m l k ∷ x) (layers_drawn mask r t m k (l + 1) n (λ i a b. h i (omega (arith, a)) (omega (arith, b)))))

-- The layers of a view at a slice.
drawn_all : (mask : ℕ) (v : View) (k : ℕ) → names_layers mask v ≡ true → drawn mask (range_of v k) ≡ layers_of (range_of v k)
drawn_all mask v k h = layers_drawn mask (range_of v k) v.texture v.mip k v.layer v.layers (λ i a b. go i a b (ltb v.layers 2) refl)
  where
    go : (i : ℕ) → v.layer ≤ i → i < v.layer + v.layers → (q : Bool) → ltb v.layers 2 ≡ q → draws mask (range_of v k) (surface_at v.texture v.mip i k) ≡ true
    go i a b true e = rw e
    go i a b false e = simp (e, bits_each mask v.layers (rw e at h) (i - v.layer) (omega (arith, a, b)))

-- ── the reply tells the parts

part_told : {X : Type 0} (a : Aspect) (f : X → Clear) (o : X) (l : LoadOp X) (k : Bool)
    → part_in a (load_bits l + store_bits k) (f (clear_value o l)) ≡ record { aspect = a; input = input_of f l; keep = k }
part_told a f o load_op true = refl
part_told a f o load_op false = refl
part_told a f o (clear_op x) true = refl
part_told a f o (clear_op x) false = refl
part_told a f o dont_care true = refl
part_told a f o dont_care false = refl

resolve_told : (S : Session) (n d k mask : ℕ) → is_color (texture_format S (S.view n)) ≡ true → names_layers mask (S.view n) ≡ true
    → use_of S mask d k (attachment_reply S (resolve_to n (range_of (S.view n) k))) ≡ planned_use (resolve_to n (range_of (S.view n) k))
resolve_told S n d k mask h g = rw (drawn_all mask (S.view n) k g, h)

color_told : (S : Session) (n d k mask : ℕ) (o : Ops Color) → is_color (texture_format S (S.view n)) ≡ true → names_layers mask (S.view n) ≡ true
    → use_of S mask d k (attachment_reply S (color n (range_of (S.view n) k) o)) ≡ planned_use (color n (range_of (S.view n) k) o)
color_told S n d k mask o h g =
    rw (drawn_all mask (S.view n) k g, h)
    (ap (λ q. record { surfaces = layers_of (range_of (S.view n) k); parts = q ∷ []; divergent = 0 }) (part_told color_aspect of_color black o.load o.keep))

depth_told : (S : Session) (n : ℕ) (d : Ops Float) (s : Ops ℕ) (hd hs : Bool) (div mask : ℕ)
    → is_color (texture_format S (S.view n)) ≡ false → has_depth (texture_format S (S.view n)) ≡ hd → has_stencil (texture_format S (S.view n)) ≡ hs → names_layers mask (S.view n) ≡ true
    → use_of S mask div 0 (attachment_reply S (depth_stencil n (view_range (S.view n)) hd hs d s))
    ≡ record { surfaces = layers_of (view_range (S.view n)); parts = parts_of (depth_stencil n (view_range (S.view n)) hd hs d s); divergent = div }
depth_told S n d s hd hs div mask h p q g =
    rw (drawn_all mask (S.view n) 0 g, h, p, q)
    (ap₂ (λ a b. record { surfaces = layers_of (view_range (S.view n)); parts = cond hd (a ∷ []) [] ++ cond hs (b ∷ []) []; divergent = div })
    (part_told depth_aspect of_depth zero32 d.load d.keep) (part_told stencil_aspect of_stencil 0 s.load s.keep))

-- ── one mip of the session

-- What number 4 gives of a view.
pub view_facts : (S : Session) → views_valid S ≡ true → (k : ℕ) → ltb k S.view_count ≡ true → ValidView S (S.view k)
view_facts S vs k h = valid_view S (S.view k) (views_each S S.view_count vs k (ltb-true k S.view_count h))

-- An attachment of one mip of the session.
sound_of : (S : Session) (x : Attached) → RangeInside S (range_in x) → (range_in x).mips ≡ 1 → proper x ≡ true
    → ((a : Aspect) → format_has (S.texture (range_in x).texture).format a ≡ has_part (parts_of x) a) → Sound S x
sound_of S x range mip strict aspects = record {
  strict = strict;
  names = layers_all (range_in x) mip;
  spreads = layers_all (range_in x) mip;
  inside = range_surface S (range_in x) range;
  aspects = λ s e a. ap (λ t. format_has (S.texture t).format a) (hits_in_lem (range_in x) s e).texture ∙ aspects a;
}

-- An attachment takes what its action reaches.
pub takes_reached : (v : View) (slice : ℕ) → v.mips ≡ 1 → (s : Surface) → elem s (takes v slice) ≡ hits (slice_range v slice) s
unfolding takes
takes_reached v slice mip s = layers_all (slice_range v slice) mip s

-- A view of one mip at a slice of it.
range_at : (S : Session) (v : View) (k : ℕ) → ValidView S v → v.mips ≡ 1 → k < slices_in (S.texture v.texture) v.mip → RangeInside S (range_of v k)
range_at S v k known mip h = record {
  texture = known.range.texture;
  some_mip = known.range.some_mip;
  mips = known.range.mips;
  some_layer = known.range.some_layer;
  layers = known.range.layers;
  slice = subst (λ m. k < slices_in (S.texture v.texture) m) (let e : v.mip ≡ v.mip + v.mips - 1 = omega (arith, mip) in e) h;
}

-- 38.
slice_inside : (S : Session) (c : Slot) (v : View) (place : ℕ) → ValidView S v → v.mips ≡ 1 → is_accepted (slice_verdict S c v place) ≡ true → RangeInside S (slice_range v c.slice)
unfolding slice_verdict slices_in
slice_inside S c v place known mip h = range_at S v (attached_slice v c.slice) known mip (go (is_d3 v) refl h)
  where
    x : Texture
    x = S.texture v.texture

    go : (b : Bool) → is_d3 v ≡ b
        → is_accepted (cond b (unless (eqb c.sliced 1) 39 place then unless (ltb c.slice (depth_of S v)) 38 place) (unless (eqb c.sliced 0) 40 place)) ≡ true
        → cond b c.slice 0 < slices_in x v.mip
    go true e h =
        let d : slices_in x v.mip ≡ depth_of S v = rw (solid_view v.dimension x.dimension known.dimension e) in
        omega (arith, d, ltb-true c.slice (depth_of S v) (unless_on (ltb c.slice (depth_of S v)) 38 place refl (then_right (unless (eqb c.sliced 1) 39 place) _ h)))
    go false e h = omega (arith, slices_some x v.mip)

target_inside : (S : Session) (v : View) → ValidView S v → v.mips ≡ 1 → RangeInside S (slice_range v 0)
target_inside S v known mip = range_at S v (attached_slice v 0) known mip (go (is_d3 v))
  where
    go : (b : Bool) → cond b 0 0 < slices_in (S.texture v.texture) v.mip
    go true = omega (arith, slices_some (S.texture v.texture) v.mip)
    go false = omega (arith, slices_some (S.texture v.texture) v.mip)

-- ── colours and resolve targets

pub record ColorFacts (S : Session) (x : Attached) : Type 0 where
  pub sound : strict S ≡ true → Sound S x
  pub range : RangeInside S (range_in x)
  pub mip : (range_in x).mips ≡ 1
  pub colored : is_color (S.texture (range_in x).texture).format ≡ true
  pub told : (d mask : ℕ) → names_layers mask (S.view (attachment_reply S x).view) ≡ true → use_of S mask d (range_in x).slice (attachment_reply S x) ≡ planned_use x

pub strict_off : (x b : Bool) → not (x && b) ≡ true → b ≡ true → x ≡ false
strict_off true b h e = clash e (not_off b h)
strict_off false b h e = refl

-- A resolve target: 41, 34, 43.
pub target_facts : (S : Session) (v : View) (n place : ℕ) (q : Seen) (taken : List Surface) → ValidView S (S.view n) → is_color (format_of v) ≡ true
    → is_accepted (resolve_view S q taken v (S.view n) place) ≡ true
    → ColorFacts S (resolve_to n (slice_range (S.view n) 0)) × (meets (takes (S.view n) 0) taken ≡ false)
unfolding resolve_view target_view target_of overlap_verdict
target_facts S v n place q taken known col h =
    let r : View = S.view n in
    let from-48 = then_right (multiview_verdict S q r place) _ (then_left (target_view S q taken r place) _ h) in
    let from-41 = then_right (unless (is_d2 r || is_d2_array r) 48 place) _ from-48 in
    let on-34 = then_right (overlap_verdict taken r 0 place) _ from-41 in
    let from-42 = then_right _ _ (then_right (target_view S q taken r place) _ h) in
    let from-43 = then_right _ _ from-42 in
    let same_format : format_of v ≡ format_of r = eqb-true _ _ (unless_on (eqb (format_of v) (format_of r)) 43 place refl (then_left _ _ from-43)) in
    let rcol : is_color (texture_format S r) ≡ true = sym (fits_color (format_of r) (texture_format S r) known.format) ∙ ap is_color (sym same_format) ∙ col in
    let mip : r.mips ≡ 1 = renderable_mip r (unless_on (renderable r) 34 place refl on-34) in (
      record {
        sound = λ st. sound_of S (resolve_to n (slice_range r 0)) (target_inside S r known mip) mip refl
            (color_aspects (texture_format S r) rcol (record { aspect = color_aspect; input = nothing; keep = true }) refl);
        range = target_inside S r known mip;
        mip = mip;
        colored = rcol;
        told = λ d mask. resolve_told S n d (attached_slice r 0) mask rcol;
      },
      not_off _ (unless_on (not (meets (takes r 0) taken)) 41 place refl (then_left _ _ from-41)),
    )

-- A colour: 11, 34, 37, 41.
pub color_facts : (S : Session) (c : Slot) (k : ℕ) (q : Seen) (fit : Bool) (taken : List Surface) → ValidView S (S.view c.view) → (strict S ≡ true → ignores (slot_load c) ≡ false)
    → is_accepted (color_view S q fit taken c (S.view c.view) k) ≡ true
    → ColorFacts S (color_of S c) × (meets (takes (S.view c.view) c.slice) taken ≡ false) × (is_color (format_of (S.view c.view)) ≡ true)
unfolding color_view view_verdict overlap_verdict
color_facts S c k q fit taken known cares h =
    let v : View = S.view c.view in
    let from-34 = then_right (multiview_verdict S q v k) _ h in
    let from-37 = then_right (view_verdict S q v k) _ from-34 in
    let from-38 = then_right (unless (is_color (format_of v)) 37 k) _ from-37 in
    let shown : is_color (format_of v) ≡ true = unless_on (is_color (format_of v)) 37 k refl (then_left _ _ from-37) in
    let col : is_color (texture_format S v) ≡ true = sym (fits_color (format_of v) (texture_format S v) known.format) ∙ shown in
    let mip : v.mips ≡ 1 = renderable_mip v (unless_on (renderable v) 34 k refl (then_left _ _ (then_left (view_verdict S q v k) _ from-34))) in
    let range : RangeInside S (slice_range v c.slice) = slice_inside S c v k known mip (then_left (slice_verdict S c v k) _ from-38) in (
      record {
        sound = λ st. sound_of S (color_of S c) range mip (ap not (cares st))
            (color_aspects (texture_format S v) col (part_of color_aspect of_color (operational (slot_load c) (keep_of c.store))) refl);
        range = range;
        mip = mip;
        colored = col;
        told = λ d mask. color_told S c.view d (attached_slice v c.slice) mask (operational (slot_load c) (keep_of c.store)) col;
      },
      not_off _ (unless_on (not (meets (takes v c.slice) taken)) 41 k refl (then_right (unless fit 51 k) _ (then_right (slice_verdict S c v k) _ from-38))),
      shown,
    )

-- ── the depth-stencil attachment

-- In a strict session no resolved channel has DontCare.
store_cares : {Y : Type 0} (l : LoadOp Y) (store : Option Bool) → ignores l ≡ false → ignores (resolved_ops (with_store l store)).load ≡ false
store_cares l none h = refl
store_cares l (some keep) h = h

clear_cares : {Y : Type 0} (x : Handled Y) (store : Option Bool) → ignores (resolved_ops (with_clear x store)).load ≡ false
clear_cares (value y) store = store_cares (clear_op y) store refl
clear_cares (refusal n) store = refl

ops_cares : {X Y : Type 0} (handle : X → Handled Y) (load : Option (LoadOp X)) (store : Option Bool)
    → ignores (resolved_ops (resolve_ops handle true load store)).load ≡ false
ops_cares handle none store = refl
ops_cares handle (some load_op) store = store_cares load_op store refl
ops_cares handle (some (clear_op x)) store = clear_cares (handle x) store
ops_cares handle (some dont_care) store = refl

read_only_cares : (Y : Type 0) {X : Type 0} (load : Option (LoadOp X)) (store : Option Bool) → ignores (resolved_ops {X = Y} (resolve_read_only load store)).load ≡ false
read_only_cares Y (some l) store = refl
read_only_cares Y none (some keep) = refl
read_only_cares Y none none = refl

resolve_cares : {X Y : Type 0} (handle : X → Handled Y) (c : PassChannel X) → ignores (resolved_ops (resolve handle true c)).load ≡ false
unfolding resolve
resolve_cares {X} {Y} handle c = go c.read_only
  where
    go : (b : Bool) → ignores (resolved_ops {X = Y} (cond b (resolve_read_only c.load c.store) (resolve_ops handle true c.load c.store))).load ≡ false
    go true = read_only_cares Y c.load c.store
    go false = ops_cares handle c.load c.store

depth_cares : (has : Bool) (c : Channel) → not (has && ignores (resolved_ops (depth_resolved has true c)).load) ≡ true
unfolding depth_resolved resolve_depth
depth_cares true c = ap not (resolve_cares handle_depth (depth_channel c))
depth_cares false c = refl

stencil_cares : (has : Bool) (c : Channel) → not (has && ignores (resolved_ops (stencil_resolved has true c)).load) ≡ true
unfolding stencil_resolved resolve_stencil
stencil_cares true c = ap not (resolve_cares handle_stencil (stencil_channel c))
stencil_cares false c = refl

-- 13, 23, 34.
pub record DepthFacts (S : Session) (p : Pass) : Type 0 where
  pub sound : strict S ≡ true → Sound S (depth_stencil_of S p (S.view p.depth_stencil))
  pub range : RangeInside S (view_range (S.view p.depth_stencil))
  pub mip : (S.view p.depth_stencil).mips ≡ 1
  pub format : is_depth_stencil (texture_format S (S.view p.depth_stencil)) ≡ true
  pub told : (d mask : ℕ) → names_layers mask (S.view p.depth_stencil) ≡ true → use_of S mask d 0 (attachment_reply S (depth_stencil_of S p (S.view p.depth_stencil)))
      ≡ record { surfaces = layers_of (view_range (S.view p.depth_stencil)); parts = parts_of (depth_stencil_of S p (S.view p.depth_stencil)); divergent = d }

pub depth_facts : (S : Session) (p : Pass) → ValidView S (S.view p.depth_stencil)
    → is_accepted (channel_ops (strict S) (transient (S.view p.depth_stencil)) (format_of (S.view p.depth_stencil)) p.depth p.stencil) ≡ true
    → is_accepted (depth_stencil_view S (S.view p.depth_stencil)) ≡ true → DepthFacts S p
unfolding channel_ops depth_stencil_view view_verdict
depth_facts S p known ops h =
    let v : View = S.view p.depth_stencil in
    let f : ℕ = format_of v in
    let t : ℕ = texture_format S v in
    let ds : is_depth_stencil f ≡ true = unless_on (is_depth_stencil f) 13 at_depth_stencil refl (then_left _ _ ops) in
    let alike : aspects t ≡ aspects f = sym (fits_aspects f t known.format) in
    let own : is_depth_stencil t ≡ true = ap (λ a. a.depth || a.stencil) alike ∙ ds in
    let depths : has_depth t ≡ has_depth f = ap (λ a. a.depth) alike in
    let stencils : has_stencil t ≡ has_stencil f = ap (λ a. a.stencil) alike in
    let mip : v.mips ≡ 1 = renderable_mip v (unless_on (renderable v) 34 at_depth_stencil refl (then_left _ _ (then_right (multiview_verdict S none_seen v at_depth_stencil) (view_verdict S none_seen v at_depth_stencil) h))) in
    record {
      sound = λ st. sound_of S (depth_stencil_of S p v) known.range mip
          (and_on ((has_depth f || has_stencil f) && not (has_depth f && ignores (depth_ops S p f).load)) _
          (and_on (has_depth f || has_stencil f) _ ds
          (subst (λ b. not (has_depth f && ignores (resolved_ops (depth_resolved (has_depth f) b p.depth)).load) ≡ true) (sym st) (depth_cares (has_depth f) p.depth)))
          (subst (λ b. not (has_stencil f && ignores (resolved_ops (stencil_resolved (has_stencil f) b p.stencil)).load) ≡ true) (sym st) (stencil_cares (has_stencil f) p.stencil)))
          (depth_aspects t own (has_depth f) (has_stencil f) depths stencils (part_of depth_aspect of_depth (depth_ops S p f)) (part_of stencil_aspect of_stencil (stencil_ops S p f)) refl refl);
      range = known.range;
      mip = mip;
      format = own;
      told = λ d mask. depth_told S p.depth_stencil (depth_ops S p f) (stencil_ops S p f) (has_depth f) (has_stencil f) d mask (depth_color t own) depths stencils;
    }
