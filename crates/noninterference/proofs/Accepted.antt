-- A pass that the checks accept: slot by slot, what is taken covers what the attachments reach, so that 41 keeps the next slot apart from it.
use mathlib.Core.Path.{◌≡◌, refl, sym, ap, ap₂, ◌∙◌}
use mathlib.Core.Bool.{Bool, true, false, not, ◌&&◌, ◌||◌, cond}
use mathlib.Core.List.{List, [], ◌∷◌, ◌++◌, map}
use mathlib.Core.Option.{none, some}
use Prim.Native.Nat.{ℕ, zero, suc}
use lib.Dec.{leb, ltb}
use Rattle.definition.specs.Sizes.{max_slots}
use Rattle.definition.specs.Formats.{is_color}
use Rattle.definition.specs.Surfaces.{elem, meets}
use Rattle.definition.specs.Session.{Pass, Session, is_none, strict, format_of, texture_format, attached_slice, slice_range, is_d3, transient}
use Rattle.definition.specs.Verdict.{resolve_at, at_depth_stencil, nowhere, accepted, is_accepted, refused_at, ◌then◌, unless}
use Rattle.definition.specs.Readable.{views_valid, channel_reads, depth_stencil_reads, resolve_reads, slot_reads, slots_read, pass_valid}
use Rattle.definition.specs.Channel.{ignores, keep_of, transient_ops}
use Rattle.definition.specs.Views.{none_seen, takes, depth_stencil_view, color_view, resolve_view, see_view}
use Rattle.definition.specs.Check.{slot_load, slot_ops, color_ops, channel_ops, depth_stencil_ops, ops_verdict, progress, resolve_takes, slot_takes, taken_before, bytes_fit, depth_stencil_step, resolve_step, color_step, slot_step, next_slot, slot_steps, mask_step, view_steps, check}
use Rattle.definition.specs.Attachments.{Attached, resolve_to, depth_stencil_of, depth_stencil_part, resolve_part, color_of, slot_part, slot_parts, attachments, range_in, divergent_of}
use Rattle.definition.specs.Pass.{attachment_reply, of_first}
use Rattle.definition.specs.declared.View.{View}
use Rattle.definition.specs.declared.Slot.{Slot}
use Rattle.definition.specs.declared.Seen.{Seen}
use Rattle.definition.specs.declared.Surface.{Surface}
use Rattle.definition.specs.declared.Verdict.{Verdict}
use Rattle.definition.specs.declared.Progress.{Progress}
use Rattle.laws.proofs.Tests.{clash, and_left, and_right, or_on_left, or_on_right, or_second}
use Rattle.laws.proofs.Formats.{depth_color}
use Rattle.laws.proofs.Surfaces.{hits_in_lem, elem_append, layers_all}
use Rattle.laws.proofs.Lists.{map-append}
use Rattle.laws.proofs.Overlap.{apart_elem}
use Rattle.laws.proofs.Verdicts.{then_left, then_right, unless_on}
use Rattle.laws.proofs.Folds.{next_accepted, next_refused}
use Rattle.noninterference.specs.Memory.{uses_of, slot_slices, slots_slices, pass_slices}
use Rattle.noninterference.specs.Claim.{names_layers, names_all}
use Rattle.noninterference.proofs.Plans.{planned_use}
use Rattle.laws.specs.Surfaces.{RangeInside}
use Rattle.laws.specs.Views.{ValidView}
use Rattle.laws.specs.Separate.{reaches, reached, Separate}
use Rattle.noninterference.proofs.Passes.{find, All, Distinct, all_map, all_append, distinct_append, unfound, reached_append}
use Rattle.noninterference.proofs.Sound.{Sound, Fit}
use Rattle.noninterference.proofs.Checked.{view_facts, takes_reached, strict_off, ColorFacts, target_facts, color_facts, DepthFacts, depth_facts}

-- ── one slot

-- Attachments of a slot, after what is taken: they reach no surface twice and none that is taken, and whatever they reach the slot takes.
record SlotFacts (S : Session) (taken : List Surface) (xs : List Attached) (own : List Surface) : Type 0 where
  facts : All (ColorFacts S) xs
  distinct : Distinct xs
  apart : (s : Surface) → elem s taken ≡ true → find s xs ≡ none
  takes : (s : Surface) → reached s xs ≡ true → elem s own ≡ true

slot_none : (S : Session) (taken own : List Surface) → SlotFacts S taken [] own
slot_none S taken own = record { facts = tt; distinct = tt; apart = λ s e. refl; takes = λ s e. clash {b = false} e refl }

find_off : (x : Attached) (s : Surface) (xs : List Attached) → reaches x s ≡ false → find s xs ≡ none → find s (x ∷ xs) ≡ none
find_off x s xs h g = rw h g

-- One more in front, which takes t, apart from what is taken.
slot_more : (S : Session) (taken t own : List Surface) (x : Attached) (xs : List Attached) → ColorFacts S x → ((s : Surface) → elem s t ≡ reaches x s) → meets t taken ≡ false
    → SlotFacts S (t ++ taken) xs own → SlotFacts S taken (x ∷ xs) (own ++ t)
slot_more S taken t own x xs c took a r = record {
  facts = (c, r.facts);
  distinct = (λ s h. r.apart s (elem_append s t taken ∙ or_on_left (elem s t) (elem s taken) (took s ∙ h)), r.distinct);
  apart = λ s h. find_off x s xs (sym (took s) ∙ apart_elem t taken s a h) (r.apart s (elem_append s t taken ∙ or_on_right (elem s t) (elem s taken) h));
  takes = λ s h. elem_append s own t ∙ go s (reaches x s) refl h;
}
  where
    go : (s : Surface) (b : Bool) → reaches x s ≡ b → (reaches x s || reached s xs) ≡ true → (elem s own || elem s t) ≡ true
    go s true f h = or_on_right (elem s own) (elem s t) (took s ∙ f)
    go s false f h = or_on_left (elem s own) (elem s t) (r.takes s (or_second (reaches x s) (reached s xs) h f))

abbrev fine_step : Progress → Bool
fine_step a = is_accepted a.verdict

module _ (S : Session) (vs : views_valid S ≡ true) where
  -- Its resolve target, where the colour view v takes t.
  resolve_facts : (s : Slot) (k : ℕ) (v : View) (q : Seen) (taken : List Surface) → resolve_reads S s.resolve ≡ true → is_color (format_of v) ≡ true
      → fine_step (resolve_step S q taken s v k) ≡ true → SlotFacts S (takes v s.slice ++ taken) (resolve_part S s) (resolve_takes S s)
  unfolding resolve_step resolve_part resolve_reads
  resolve_facts s k v q taken ok col h = go (is_none s.resolve) refl h
    where
      r : View
      r = S.view s.resolve

      before : List Surface
      before = takes v s.slice ++ taken

      go : (b : Bool) → is_none s.resolve ≡ b
          → fine_step (cond b (progress accepted q) (progress (resolve_view S q before v r (resolve_at k)) q)) ≡ true
          → SlotFacts S before (cond b [] (resolve_to s.resolve (slice_range r 0) ∷ [])) (cond b [] (takes r 0))
      go true e h = slot_none S before []
      go false e h =
          let known : ValidView S r = view_facts S vs s.resolve (or_second (is_none s.resolve) (ltb s.resolve S.view_count) ok e) in
          let f : ColorFacts S (resolve_to s.resolve (slice_range r 0)) × (meets (takes r 0) before ≡ false) = target_facts S v s.resolve (resolve_at k) q before known col h in
          slot_more S before (takes r 0) [] (resolve_to s.resolve (slice_range r 0)) [] f.0 (takes_reached r 0 f.0.mip) f.1 (slot_none S (takes r 0 ++ before) [])

  -- Slot k of a pass.
  slot_facts : (p : Pass) (fit : Bool) (k : ℕ) (q : Seen) → slot_reads S (p.slot k) ≡ true → is_accepted (slot_ops S (p.slot k) k) ≡ true → fine_step (slot_step S p fit k q) ≡ true
      → SlotFacts S (taken_before S p k) (slot_part S (p.slot k)) (slot_takes S (p.slot k))
  unfolding slot_reads slot_ops slot_step color_step slot_part
  slot_facts p fit k q ok ops h = go (is_none s.view) ok ops h
    where
      s : Slot
      s = p.slot k

      v : View
      v = S.view s.view

      taken : List Surface
      taken = taken_before S p k

      reads : Bool
      reads = ltb s.view S.view_count && leb s.sliced 1 && resolve_reads S s.resolve && leb s.load 2 && leb s.store 1

      allowed : Verdict
      allowed = unless (not (ignores (slot_load s) && strict S)) 11 k then unless (not (transient v) || transient_ops (slot_load s) (keep_of s.store)) 12 k

      full : reads ≡ true → is_accepted allowed ≡ true → (b : Bool) → is_accepted (color_view S q fit taken s v k) ≡ b
          → fine_step (cond b (resolve_step S (see_view S q v k) taken s v k) (progress (color_view S q fit taken s v k) q)) ≡ true
          → SlotFacts S taken (color_of S s ∷ resolve_part S s) (resolve_takes S s ++ takes v s.slice)
      full ok ops false e h = clash h e
      full ok ops true e h =
          let r1 : (ltb s.view S.view_count && leb s.sliced 1 && resolve_reads S s.resolve && leb s.load 2) ≡ true = and_left _ (leb s.store 1) ok in
          let r2 : (ltb s.view S.view_count && leb s.sliced 1 && resolve_reads S s.resolve) ≡ true = and_left _ (leb s.load 2) r1 in
          let r3 : (ltb s.view S.view_count && leb s.sliced 1) ≡ true = and_left _ (resolve_reads S s.resolve) r2 in
          let known : ValidView S v = view_facts S vs s.view (and_left (ltb s.view S.view_count) (leb s.sliced 1) r3) in
          let cares : strict S ≡ true → ignores (slot_load s) ≡ false = strict_off (ignores (slot_load s)) (strict S) (unless_on (not (ignores (slot_load s) && strict S)) 11 k refl (then_left _ _ ops)) in
          let f : ColorFacts S (color_of S s) × (meets (takes v s.slice) taken ≡ false) × (is_color (format_of v) ≡ true) = color_facts S s k q fit taken known cares e in
          slot_more S taken (takes v s.slice) (resolve_takes S s) (color_of S s) (resolve_part S s) f.0 (takes_reached v s.slice f.0.mip) f.1
          (resolve_facts s k v (see_view S q v k) taken (and_right (ltb s.view S.view_count && leb s.sliced 1) (resolve_reads S s.resolve) r2) f.2 h)

      go : (b : Bool) → (b || reads) ≡ true → is_accepted (cond b accepted allowed) ≡ true
          → fine_step (cond b (progress accepted q) (color_step S q fit taken s v k)) ≡ true
          → SlotFacts S taken (cond b [] (color_of S s ∷ resolve_part S s)) (cond b [] (resolve_takes S s ++ takes v s.slice))
      go true ok ops h = slot_none S taken []
      go false ok ops h = full ok ops (is_accepted (color_view S q fit taken s v k)) refl h

  -- ── all slots

  record SlotsFacts (p : Pass) (n : ℕ) : Type 0 where
    facts : All (ColorFacts S) (slot_parts S p n)
    distinct : Distinct (slot_parts S p n)
    taken : (s : Surface) → reached s (slot_parts S p n) ≡ true → elem s (taken_before S p n) ≡ true

  -- A step is accepted where what came before it is.
  next_start : (p : Pass) (fit : Bool) (k : ℕ) (a : Progress) → fine_step (next_slot S p fit k a) ≡ true → fine_step a ≡ true
  next_start p fit k a h = go (fine_step a) refl
    where
      go : (b : Bool) → fine_step a ≡ b → fine_step a ≡ true
      go true e = e
      go false e = ap fine_step (sym (next_refused S p fit k a e)) ∙ h

  steps_start : (p : Pass) (fit : Bool) (a : Progress) (n : ℕ) → fine_step (slot_steps S p fit a n) ≡ true → fine_step a ≡ true
  unfolding slot_steps
  steps_start p fit a zero h = h
  steps_start p fit a (suc n) h = steps_start p fit a n (next_start p fit n (slot_steps S p fit a n) h)

  slots_facts : (p : Pass) (fit : Bool) (a : Progress) (n : ℕ) → slots_read S p n ≡ true → is_accepted (color_ops S p n) ≡ true → fine_step (slot_steps S p fit a n) ≡ true → SlotsFacts p n
  unfolding slots_read color_ops slot_steps slot_parts taken_before
  slots_facts p fit a zero ok ops h = record { facts = tt; distinct = tt; taken = λ s e. clash {b = false} e refl }
  slots_facts p fit a (suc n) ok ops h =
      let g : fine_step (slot_steps S p fit a n) ≡ true = next_start p fit n (slot_steps S p fit a n) h in
      let r : SlotsFacts p n = slots_facts p fit a n (and_left (slots_read S p n) _ ok) (then_left (color_ops S p n) _ ops) g in
      let f : SlotFacts S (taken_before S p n) (slot_part S (p.slot n)) (slot_takes S (p.slot n)) =
      slot_facts p fit n (slot_steps S p fit a n).seen (and_right (slots_read S p n) (slot_reads S (p.slot n)) ok) (then_right (color_ops S p n) (slot_ops S (p.slot n) n) ops)
      (ap fine_step (sym (next_accepted S p fit n (slot_steps S p fit a n) g)) ∙ h) in
      record {
        facts = all_append (ColorFacts S) (slot_parts S p n) (slot_part S (p.slot n)) r.facts f.facts;
        distinct = distinct_append (slot_parts S p n) (slot_part S (p.slot n)) r.distinct f.distinct (λ s e. f.apart s (r.taken s e));
        taken = λ s e. elem_append s (slot_takes S (p.slot n)) (taken_before S p n)
            ∙ either s (reached s (slot_parts S p n)) refl (sym (reached_append s (slot_parts S p n) (slot_part S (p.slot n))) ∙ e) (r.taken s) (f.takes s);
      }
    where
      either : (s : Surface) (b : Bool) → reached s (slot_parts S p n) ≡ b → (reached s (slot_parts S p n) || reached s (slot_part S (p.slot n))) ≡ true
          → (reached s (slot_parts S p n) ≡ true → elem s (taken_before S p n) ≡ true)
          → (reached s (slot_part S (p.slot n)) ≡ true → elem s (slot_takes S (p.slot n)) ≡ true)
          → (elem s (slot_takes S (p.slot n)) || elem s (taken_before S p n)) ≡ true
      either s true e h old new = or_on_right (elem s (slot_takes S (p.slot n))) (elem s (taken_before S p n)) (old e)
      either s false e h old new =
          or_on_left (elem s (slot_takes S (p.slot n))) (elem s (taken_before S p n)) (new (or_second (reached s (slot_parts S p n)) (reached s (slot_part S (p.slot n))) h e))

-- ── the parts of an accepted pass

-- 5.
record Reads (S : Session) (p : Pass) : Type 0 where
  depth : depth_stencil_reads S p ≡ true
  slots : slots_read S p p.colors ≡ true

reads_parts : (S : Session) (p : Pass) → pass_valid S p ≡ true → Reads S p
unfolding pass_valid
reads_parts S p h = go (leb p.colors max_slots) refl h
  where
    go : (b : Bool) → leb p.colors max_slots ≡ b → cond b (leb p.ends 1 && depth_stencil_reads S p && slots_read S p p.colors) false ≡ true → Reads S p
    go true e h = record {
      depth = and_right (leb p.ends 1) (depth_stencil_reads S p) (and_left (leb p.ends 1 && depth_stencil_reads S p) _ h);
      slots = and_right (leb p.ends 1 && depth_stencil_reads S p) _ h;
    }
    go false e h = clash {b = false} h refl

record Accepted (S : Session) (p : Pass) : Type 0 where
  reads : Reads S p
  slot_ops : is_accepted (color_ops S p p.colors) ≡ true
  depth_ops : is_accepted (depth_stencil_ops S p) ≡ true
  steps : fine_step (slot_steps S p (bytes_fit S p) (depth_stencil_step S p) p.colors) ≡ true

check_parts : (S : Session) (p : Pass) → fine_step (check S p) ≡ true → Accepted S p
unfolding check ops_verdict view_steps mask_step
check_parts S p h = go (pass_valid S p) refl (is_accepted (ops_verdict S p)) refl h
  where
    go : (a : Bool) → pass_valid S p ≡ a → (b : Bool) → is_accepted (ops_verdict S p) ≡ b
        → fine_step (cond a (cond b (view_steps S p) (progress (ops_verdict S p) none_seen)) (progress (refused_at 5 nowhere) none_seen)) ≡ true → Accepted S p
    go false e b f h = clash {b = false} h refl
    go true e false f h = clash h f
    go true e true f h =
        let o = then_right (unless (leb p.colors S.max_colors) 10 nowhere) _ f in
        record {
          reads = reads_parts S p e;
          slot_ops = then_left (color_ops S p p.colors) _ o;
          depth_ops = then_right (color_ops S p p.colors) _ o;
          steps = then_left _ _ h;
        }

-- ── whatever is accepted is sound

-- The slice of an attachment.
abbrev slice_in : Attached → ℕ
slice_in x = (range_in x).slice

-- Of one mip, inside the session.
pub record Ranged (S : Session) (x : Attached) : Type 0 where
  pub range : RangeInside S (range_in x)
  pub mip : (range_in x).mips ≡ 1

-- What holds of every accepted pass of a readable session; of a strict one; and where the mask names all layers.
pub record Okay (S : Session) (xs : List Attached) : Type 0 where
  pub sound : strict S ≡ true → All (Sound S) xs
  pub ranged : All (Ranged S) xs
  pub distinct : Distinct xs
  pub told : (mask : ℕ) → names_all S mask (map (attachment_reply S) xs) ≡ true
      → uses_of S mask (of_first 0 divergent_of xs) (map slice_in xs) (map (attachment_reply S) xs) ≡ map planned_use xs

-- The slices of the attachments are those that the memory is told.
target_slice : (S : Session) (c : Slot) (b : Bool) → ◌≡◌ {A = List ℕ} (cond b [] (0 ∷ [])) (map slice_in (cond b [] (resolve_to c.resolve (slice_range (S.view c.resolve) 0) ∷ [])))
target_slice S c true = refl
target_slice S c false = ap (λ k. k ∷ []) (go (is_d3 (S.view c.resolve)))
  where
    go : (b : Bool) → ◌≡◌ {A = ℕ} 0 (cond b 0 0)
    go true = refl
    go false = refl

slot_slices_lem : (S : Session) (c : Slot) → slot_slices S c ≡ map slice_in (slot_part S c)
unfolding slot_part resolve_part
slot_slices_lem S c = go (is_none c.view)
  where
    go : (b : Bool) → cond b [] (attached_slice (S.view c.view) c.slice ∷ cond (is_none c.resolve) [] (0 ∷ [])) ≡ map slice_in (cond b [] (color_of S c ∷ resolve_part S c))
    go true = refl
    go false = ap (λ l. attached_slice (S.view c.view) c.slice ∷ l) (target_slice S c (is_none c.resolve))

slots_slices_lem : (S : Session) (p : Pass) (n : ℕ) → slots_slices S p n ≡ map slice_in (slot_parts S p n)
unfolding slot_parts
slots_slices_lem S p zero = refl
slots_slices_lem S p (suc n) = ap₂ ◌++◌ (slots_slices_lem S p n) (slot_slices_lem S (p.slot n)) ∙ sym (map-append slice_in (slot_parts S p n) (slot_part S (p.slot n)))

pass_slices_lem : (S : Session) (p : Pass) → pass_slices S p ≡ map slice_in (attachments S p)
unfolding attachments depth_stencil_part
pass_slices_lem S p = go (is_none p.depth_stencil)
  where
    go : (b : Bool) → ◌++◌ {A = ℕ} (cond b [] (0 ∷ [])) (slots_slices S p p.colors)
        ≡ map slice_in (◌++◌ {A = Attached} (cond b [] (depth_stencil_of S p (S.view p.depth_stencil) ∷ [])) (slot_parts S p p.colors))
    go true = slots_slices_lem S p p.colors
    go false = ap (λ l. 0 ∷ l) (slots_slices_lem S p p.colors)

all_told : (S : Session) (d : ℕ) (xs : List Attached) → All (ColorFacts S) xs → (mask : ℕ) → names_all S mask (map (attachment_reply S) xs) ≡ true
    → uses_of S mask d (map slice_in xs) (map (attachment_reply S) xs) ≡ map planned_use xs
all_told S d [] a mask g = refl
all_told S d (x ∷ xs) a mask g =
    let one : Bool = names_layers mask (S.view (attachment_reply S x).view) in
    let more : Bool = names_all S mask (map (attachment_reply S) xs) in
    ap₂ ◌∷◌ (a.0.told d mask (and_left one more g)) (all_told S d xs a.1 mask (and_right one more g))

-- A depth-stencil texture is none of the colours'.
depth_apart : (S : Session) (t : ℕ) (xs : List Attached) → is_color (S.texture t).format ≡ false → All (ColorFacts S) xs → (s : Surface) → s.texture ≡ t → find s xs ≡ none
depth_apart S t [] n h s e = refl
depth_apart S t (x ∷ xs) n h s e = go (reaches x s) refl (depth_apart S t xs n h.1 s e)
  where
    go : (b : Bool) → reaches x s ≡ b → find s xs ≡ none → cond (reaches x s) (some x) (find s xs) ≡ none
    go true f ih = clash h.0.colored (ap (λ u. is_color (S.texture u).format) (sym (hits_in_lem (range_in x) s f).texture ∙ e) ∙ n)
    go false f ih = rw f ih

pub accepted_okay : (S : Session) → views_valid S ≡ true → (p : Pass) → fine_step (check S p) ≡ true → Okay S (attachments S p)
unfolding attachments depth_stencil_part depth_stencil_step depth_stencil_reads depth_stencil_ops
accepted_okay S vs p h =
    go (is_none p.depth_stencil) k.reads.depth k.depth_ops (steps_start S vs p (bytes_fit S p) (depth_stencil_step S p) p.colors k.steps)
    (slots_facts S vs p (bytes_fit S p) (depth_stencil_step S p) p.colors k.reads.slots k.slot_ops k.steps)
  where
    k : Accepted S p
    k = check_parts S p h

    v : View
    v = S.view p.depth_stencil

    x : Attached
    x = depth_stencil_of S p v

    xs : List Attached
    xs = slot_parts S p p.colors

    sounds : All (ColorFacts S) xs → strict S ≡ true → All (Sound S) xs
    sounds a st = all_map (ColorFacts S) (Sound S) (λ y f. f.sound st) xs a

    ranges : All (ColorFacts S) xs → All (Ranged S) xs
    ranges = all_map (ColorFacts S) (Ranged S) (λ y f. record { range = f.range; mip = f.mip }) xs

    go : (b : Bool) → (b || ltb p.depth_stencil S.view_count && channel_reads p.depth && channel_reads p.stencil) ≡ true
        → is_accepted (cond b accepted (channel_ops (strict S) (transient v) (format_of v) p.depth p.stencil)) ≡ true
        → fine_step (cond b (progress accepted none_seen) (progress (depth_stencil_view S v) (see_view S none_seen v at_depth_stencil))) ≡ true
        → SlotsFacts S vs p p.colors
        → Okay S (◌++◌ {A = Attached} (cond b [] (x ∷ [])) xs)
    go true r o g sl = record { sound = sounds sl.facts; ranged = ranges sl.facts; distinct = sl.distinct; told = all_told S (of_first 0 divergent_of xs) xs sl.facts }
    go false r o g sl =
        let known : ValidView S v =
        view_facts S vs p.depth_stencil (and_left (ltb p.depth_stencil S.view_count) _ (and_left (ltb p.depth_stencil S.view_count && channel_reads p.depth) _ r)) in
        let d : DepthFacts S p = depth_facts S p known o g in
        record {
          sound = λ st. (d.sound st, sounds sl.facts st);
          ranged = (record { range = d.range; mip = d.mip }, ranges sl.facts);
          distinct = (λ s e. depth_apart S v.texture xs (depth_color (texture_format S v) d.format) sl.facts s (hits_in_lem (range_in x) s e).texture, sl.distinct);
          told = λ mask g.
              let one : Bool = names_layers mask v in
              let more : Bool = names_all S mask (map (attachment_reply S) xs) in
              ap₂ ◌∷◌ (d.told (divergent_of x) mask (and_left one more g)) (all_told S (divergent_of x) xs sl.facts mask (and_right one more g));
        }

-- ── what the code rests on too

-- An attachment is one mip inside the session.
pub pass_ranged : (S : Session) → views_valid S ≡ true → (p : Pass) → is_accepted (check S p).verdict ≡ true → All (Ranged S) (attachments S p)
pass_ranged S vs p h = (accepted_okay S vs p h).ranged

-- No surface is reached twice.
all_separate : (S : Session) (xs : List Attached) → All (Ranged S) xs → Distinct xs → Separate xs
all_separate S [] a d = tt
all_separate S (x ∷ xs) a d = (λ s h. unfound s xs (d.0 s h), λ s h. sym (layers_all (range_in x) a.0.mip s) ∙ h, all_separate S xs a.1 d.1)

pub pass_separate : (S : Session) → views_valid S ≡ true → (p : Pass) → is_accepted (check S p).verdict ≡ true → Separate (attachments S p)
pass_separate S vs p h = let k : Okay S (attachments S p) = accepted_okay S vs p h in all_separate S (attachments S p) k.ranged k.distinct

-- ── the theorem's conditions

-- Readable and strict.
pub conditions_fit : (S : Session) → views_valid S ≡ true → strict S ≡ true → Fit S
conditions_fit S vs st = record {
  sound = λ p h. (accepted_okay S vs p h).sound st;
  distinct = λ p h. (accepted_okay S vs p h).distinct;
  tells = λ p h g n q cl. ap (λ u. record { number = n; uses = u; clears = cl })
      (ap (λ ks. uses_of S p.mask (of_first 0 divergent_of (attachments S p)) ks (map (attachment_reply S) (attachments S p))) (pass_slices_lem S p)
      ∙ (accepted_okay S vs p h).told p.mask g);
}
