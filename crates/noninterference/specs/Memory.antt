-- Document 01's memory: a value for each aspect of each surface. It is fed the session, the calls in order, their answers and the status
-- bytes after each submission; it knows nothing of the lists, nor of how a pass is judged.
use Rattle.std.specs.Prelude.{Bool, true, false, not, ◌||◌, cond, List, [], ◌∷◌, ◌++◌, ℕ, zero, suc, ◌+◌, ◌-◌, ltb, eqb, Float, get_or}
use Rattle.std.proofs.Math.Option.{Option, none, some}
use Rattle.definition.specs.Bytes.{bit}
use Rattle.definition.specs.Formats.{is_color, has_depth, has_stencil}
use Rattle.definition.specs.Surfaces.{layers_of, elem}
use Rattle.definition.specs.Session.{Session, Pass, is_none, texture_format, range_of, attached_slice, surface_index}
use Rattle.definition.specs.Verdict.{is_accepted}
use Rattle.definition.specs.MemoryInit.{retain}
use Rattle.definition.specs.Status.{cleared}
use Rattle.definition.specs.Pass.{Reply}
use Rattle.definition.specs.Calls.{Call, pass, submit, Answer, checked, submitted}
use Rattle.definition.specs.declared.Color.{Color}
use Rattle.definition.specs.declared.Surface.{Surface}
use Rattle.definition.specs.declared.Range.{Range}
use Rattle.definition.specs.declared.Slot.{Slot}
use Rattle.definition.specs.declared.Attachment.{Attachment}

-- ── aspects

pub data Aspect : Type 0 where
  color_aspect : Aspect
  depth_aspect : Aspect
  stencil_aspect : Aspect

abbrev pub same_aspect : Aspect → Aspect → Bool
same_aspect color_aspect color_aspect = true
same_aspect color_aspect depth_aspect = false
same_aspect color_aspect stencil_aspect = false
same_aspect depth_aspect color_aspect = false
same_aspect depth_aspect depth_aspect = true
same_aspect depth_aspect stencil_aspect = false
same_aspect stencil_aspect color_aspect = false
same_aspect stencil_aspect depth_aspect = false
same_aspect stencil_aspect stencil_aspect = true

-- The aspects of a format.
abbrev pub format_has : ℕ → Aspect → Bool
format_has f color_aspect = is_color f
format_has f depth_aspect = has_depth f
format_has f stencil_aspect = has_stencil f

-- The aspects of a surface are those of its texture's format.
abbrev pub has_aspect : Session → Surface → Aspect → Bool
has_aspect S s a = format_has (S.texture s.texture).format a

-- ── what an accepted pass tells

-- A clear value.
pub data Clear : Type 0 where
  of_color : Color → Clear
  of_depth : Float → Clear
  of_stencil : ℕ → Clear

-- What a pass draws from in an aspect: what the memory shows, a clear value, or nothing.
pub data Input : Type 0 where
  shows : Input
  clears : Clear → Input
  nothing : Input

-- An aspect of an attachment: what goes in, and whether the result is stored (true) or discarded (false).
pub record Part : Type 0 where
  pub aspect : Aspect
  pub input : Input
  pub keep : Bool

-- An attachment: the surfaces that its pass draws, the aspects of each, and the divergent aspect (0 none, 1 depth, 2 stencil).
pub record Use : Type 0 where
  pub surfaces : List Surface
  pub parts : List Part
  pub divergent : ℕ

-- An accepted pass: the number of its call, its attachments, the clears before it.
pub record Told : Type 0 where
  pub number : ℕ
  pub uses : List Use
  pub clears : List Surface

-- Operations: 2 Clear, 16 Discard; 0 is a resolve target, which draws from nothing and is stored. DontCare shows what is there, as Load does.
abbrev pub input_in : ℕ → Clear → Input
input_in ops c = cond (eqb ops 0) nothing (cond (bit ops 1) (clears c) shows)

abbrev pub part_in : Aspect → ℕ → Clear → Part
part_in a ops c = record { aspect = a; input = input_in ops c; keep = not (bit ops 4) }

-- A depth-stencil attachment has the aspects of its format, whatever operations the reply gives for the others.
abbrev pub depth_stencil_parts : ℕ → Attachment → List Part
depth_stencil_parts f x =
    cond (has_depth f) (part_in depth_aspect x.ops (of_depth x.depth) ∷ []) []
    ++ cond (has_stencil f) (part_in stencil_aspect x.stencil_ops (of_stencil x.stencil) ∷ []) []

-- An attachment of a texture of a format, in a reply with a divergent aspect.
abbrev pub use_in : ℕ → ℕ → List Surface → Attachment → Use
use_in divergent f surfaces x =
    cond (is_color f)
    (record { surfaces = surfaces; parts = part_in color_aspect x.ops (of_color x.color) ∷ []; divergent = 0 })
    (record { surfaces = surfaces; parts = depth_stencil_parts f x; divergent = divergent })

-- A pass with a mask draws a layer of a range: of several those whose bits the mask has, the first layer's being bit 0; a single one whatever the mask.
abbrev pub draws : (mask : ℕ) → Range → Surface → Bool
draws mask r s = ltb r.layers 2 || bit mask (s.layer - r.layer)

-- Those that it draws.
abbrev pub drawn : (mask : ℕ) → Range → List Surface
drawn mask r = retain (draws mask r) (layers_of r)

-- An attachment at a slice, in a pass with the mask.
abbrev pub use_of : Session → (mask divergent slice : ℕ) → Attachment → Use
use_of S mask divergent slice x = use_in divergent (texture_format S (S.view x.view)) (drawn mask (range_of (S.view x.view) slice)) x

-- Attachments, each at its slice.
abbrev pub uses_of : Session → (mask divergent : ℕ) → List ℕ → List Attachment → List Use
uses_of S mask divergent [] xs = []
uses_of S mask divergent (k ∷ ks) [] = []
uses_of S mask divergent (k ∷ ks) (x ∷ xs) = use_of S mask divergent k x ∷ uses_of S mask divergent ks xs

-- The slices of a pass's attachments, in the order of a reply: of a D3 colour view the slot's, else 0. Of a slot, of the first n slots, of the pass.
abbrev pub slot_slices : Session → Slot → List ℕ
slot_slices S c = cond (is_none c.view) [] (attached_slice (S.view c.view) c.slice ∷ cond (is_none c.resolve) [] (0 ∷ []))

abbrev pub slots_slices : Session → Pass → ℕ → List ℕ
slots_slices S p zero = []
slots_slices S p (suc n) = slots_slices S p n ++ slot_slices S (p.slot n)

abbrev pub pass_slices : Session → Pass → List ℕ
pass_slices S p = cond (is_none p.depth_stencil) [] (0 ∷ []) ++ slots_slices S p p.colors

-- The pass p of call n, by its reply, which names neither the mask nor the slices.
abbrev pub told : Session → (n : ℕ) → Pass → Reply → Told
told S n p r = record { number = n; uses = uses_of S p.mask r.divergent (pass_slices S p) r.attachments; clears = r.clears }

-- ── what the answers tell

pub data Event : Type 0 where
  refused : Event
  accepted : Told → Event
  done : List ℕ → Event

-- A refused call does nothing, a pass waits, a submission gives the status bytes. (No submission is answered as a pass is.)
abbrev pub event : Session → ℕ → Call → Answer → Event
event S n (pass i) (checked r) = cond (is_accepted r.verdict) (accepted (told S n (S.pass i) r)) refused
event S n submit (checked r) = refused
event S n c (submitted number status) = cond (eqb number 0) (done status) refused

-- The calls in order, from call n on, with their answers.
abbrev pub events : Session → ℕ → List Call → List Answer → List Event
events S n [] rest = []
events S n (c ∷ cs) [] = []
events S n (c ∷ cs) (a ∷ rest) = event S n c a ∷ events S (n + 1) cs rest

-- ── the memory

-- A value for each aspect of each surface.
abbrev pub Cells : Type 0 → Type 0
Cells Val = Surface → Aspect → Val

-- What both runs share: zero, what a clear value is in an aspect, and what the pass of a call draws from what its attachments load or clear to.
pub record Drawing (Val : Type 0) : Type 0 where
  pub nil : Val
  pub clear_to : Aspect → Clear → Val
  pub draw : ℕ → List Val → Cells Val

-- What is nobody's: the contents at the start, and what the pass of a call leaves where it discards.
pub record Contents (Val : Type 0) : Type 0 where
  pub first : Cells Val
  pub left : ℕ → Cells Val

-- The byte of a surface.
abbrev pub byte_of : Session → List ℕ → Surface → ℕ
byte_of S status s = get_or status (surface_index S s) 0

-- The attachment of a pass that has the surface, and an attachment's part of an aspect.
abbrev pub use_at : Surface → List Use → Option Use
use_at s [] = none
use_at s (u ∷ us) = cond (elem s u.surfaces) (some u) (use_at s us)

abbrev pub part_at : List Part → Aspect → Option Part
part_at [] a = none
part_at (q ∷ qs) a = cond (same_aspect a q.aspect) (some q) (part_at qs a)

-- The divergent aspect.
abbrev pub is_divergent : ℕ → Aspect → Bool
is_divergent d color_aspect = false
is_divergent d depth_aspect = eqb d 1
is_divergent d stencil_aspect = eqb d 2

module _ {Val : Type 0} (D : Drawing Val) where
  abbrev pub zeroed : (Surface → Bool) → Cells Val → Cells Val
  zeroed z m s a = cond (z s) D.nil (m s a)

  -- What a part, the parts at a surface, the parts at some surfaces, and attachments load or clear to.
  abbrev pub part_value : Input → Aspect → Val → List Val
  part_value shows a v = v ∷ []
  part_value (clears c) a v = D.clear_to a c ∷ []
  part_value nothing a v = []

  abbrev pub part_values : List Part → Surface → Cells Val → List Val
  part_values [] s m = []
  part_values (q ∷ qs) s m = part_value q.input q.aspect (m s q.aspect) ++ part_values qs s m

  abbrev pub layer_values : List Part → List Surface → Cells Val → List Val
  layer_values qs [] m = []
  layer_values qs (s ∷ ss) m = part_values qs s m ++ layer_values qs ss m

  abbrev pub values : List Use → Cells Val → List Val
  values [] m = []
  values (u ∷ us) m = layer_values u.parts u.surfaces m ++ values us m

  -- The memory as a pass starts: its clears are zeroed.
  abbrev pub before : Told → Cells Val → Cells Val
  before w m = zeroed (λ s. elem s w.clears) m

  -- What the pass loads or clears to.
  abbrev pub sees : Told → Cells Val → List Val
  sees w m = values w.uses (before w m)

  -- A cell after the pass: drawn where it is stored, left to anything where it is discarded; and then zero in the divergent aspect.
  abbrev pub part_after : Option Part → Val → Val → Val → Val
  part_after none old new left = old
  part_after (some q) old new left = cond q.keep new left

  abbrev pub cell_after : Option Use → Aspect → Val → Val → Val → Val
  cell_after none a old new left = old
  cell_after (some u) a old new left = cond (is_divergent u.divergent a) D.nil (part_after (part_at u.parts a) old new left)

  module _ (left : ℕ → Cells Val) where
    -- One pass, and passes in order: the memory after them, and what they load.
    abbrev pub run : Told → Cells Val → Cells Val
    run w m s a = cell_after (use_at s w.uses) a (before w m s a) (D.draw w.number (sees w m) s a) (left w.number s a)

    abbrev pub runs : List Told → Cells Val → Cells Val
    runs [] m = m
    runs (w ∷ ws) m = runs ws (run w m)

    abbrev pub shown : List Told → Cells Val → List (List Val)
    shown [] m = []
    shown (w ∷ ws) m = sees w m ∷ shown ws (run w m)

    -- A submission zeroes each surface whose status has 2.
    abbrev pub started : Session → List ℕ → Cells Val → Cells Val
    started S status m = zeroed (λ s. cleared (byte_of S status s)) m

    -- Over the events, from the memory m and the waiting passes ws: what the passes load, and the memory that is left.
    abbrev pub loaded : Session → List Event → List Told → Cells Val → List (List Val)
    loaded S [] ws m = []
    loaded S (refused ∷ es) ws m = loaded S es ws m
    loaded S (accepted w ∷ es) ws m = loaded S es (ws ++ (w ∷ [])) m
    loaded S (done status ∷ es) ws m = shown ws (started S status m) ++ loaded S es [] (runs ws (started S status m))

    abbrev pub cells : Session → List Event → List Told → Cells Val → Cells Val
    cells S [] ws m = m
    cells S (refused ∷ es) ws m = cells S es ws m
    cells S (accepted w ∷ es) ws m = cells S es (ws ++ (w ∷ [])) m
    cells S (done status ∷ es) ws m = cells S es [] (runs ws (started S status m))
