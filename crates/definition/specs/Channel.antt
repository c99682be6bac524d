-- Load and store operations, and the depth and stencil channels: numbers 14 to 26.
use Rattle.std.specs.Prelude.{ℕ, ◌%◌, Bool, true, false, not, ◌&&◌, cond, eqb, ltb, Float}
use Rattle.std.specs.Bool.{beq}
use Rattle.std.proofs.Math.Option.{Option, none, some}
use Rattle.std.specs.Float.Ieee.{le}
use Rattle.definition.specs.Bytes.{f32_of_bits}
use Rattle.definition.specs.Verdict.{accepted, refused_at, at_depth_stencil, unless}
use Rattle.definition.specs.declared.Verdict.{Verdict}
use Rattle.definition.specs.declared.Channel.{Channel}

-- ── operations

-- W3C GPULoadOp, and the Rust's DontCare; a Clear holds its value.
pub data LoadOp (X : Type 0) : Type 0 where
  load_op : LoadOp X
  clear_op : X → LoadOp X
  dont_care : LoadOp X

-- What an attachment or a channel does: its load, whether it stores (true) or discards (false), and whether it is read-only.
pub record Ops (X : Type 0) : Type 0 where
  pub load : LoadOp X
  pub keep : Bool
  pub read_only : Bool

-- By the fields' numbers: load 0 Load, 1 Clear, 2 DontCare; store 0 Store, 1 Discard.
abbrev pub load_of : {X : Type 0} → ℕ → X → LoadOp X
load_of n x = cond (eqb n 1) (clear_op x) (cond (eqb n 2) dont_care load_op)

abbrev pub keep_of : ℕ → Bool
keep_of n = eqb n 0

abbrev pub operational : {X : Type 0} → LoadOp X → Bool → Ops X
operational l keep = record { load = l; keep = keep; read_only = false }

-- A read-only channel loads and stores (W3C depthReadOnly, stencilReadOnly).
abbrev pub read_only_ops : {X : Type 0} → Ops X
read_only_ops = record { load = load_op; keep = true; read_only = true }

abbrev pub loads : {X : Type 0} → LoadOp X → Bool
loads load_op = true
loads (clear_op x) = false
loads dont_care = false

abbrev pub ignores : {X : Type 0} → LoadOp X → Bool
ignores load_op = false
ignores (clear_op x) = false
ignores dont_care = true

-- LoadOp::eq_variant.
abbrev pub same_load : {X Y : Type 0} → LoadOp X → LoadOp Y → Bool
same_load a b = beq (loads a) (loads b) && beq (ignores a) (ignores b)

-- load_hal_ops: 1 Load, 2 Clear, 4 DontCare; store_hal_ops: 8 Store, 16 Discard.
abbrev pub load_bits : {X : Type 0} → LoadOp X → ℕ
load_bits load_op = 1
load_bits (clear_op x) = 2
load_bits dont_care = 4

abbrev pub store_bits : Bool → ℕ
store_bits true = 8
store_bits false = 16

-- clear_value: a value that is not cleared is zero.
abbrev pub clear_value : {X : Type 0} → X → LoadOp X → X
clear_value o load_op = o
clear_value o (clear_op x) = x
clear_value o dont_care = o

-- check_transient_attachment_ops: (Clear or DontCare) with Discard.
abbrev pub transient_ops : {X : Type 0} → LoadOp X → Bool → Bool
transient_ops l keep = not (loads l) && not keep

-- ── a channel as a pass gives it

-- PassChannel: a load and a store that may be absent (W3C GPURenderPassDepthStencilAttachment).
pub record PassChannel (X : Type 0) : Type 0 where
  pub load : Option (LoadOp X)
  pub store : Option Bool
  pub read_only : Bool

-- Load 3 and store 2 stand for absent, a clear value may not be given.
abbrev pub load_field : {X : Type 0} → ℕ → X → Option (LoadOp X)
load_field n x = cond (ltb n 3) (some (load_of n x)) none

abbrev pub store_field : ℕ → Option Bool
store_field n = cond (ltb n 2) (some (keep_of n)) none

abbrev pub channel_of : {X : Type 0} → (ℕ → X) → Channel → PassChannel (Option X)
channel_of value c = record
    { load = load_field c.load (cond (eqb c.given 1) (some (value c.clear)) none); store = store_field c.store; read_only = eqb c.readonly 1 }

abbrev pub depth_channel : Channel → PassChannel (Option Float)
depth_channel c = channel_of f32_of_bits c

abbrev pub stencil_channel : Channel → PassChannel (Option ℕ)
stencil_channel c = channel_of (λ n. n) c

-- ── 14 to 17

-- Of a transient attachment's channel: n where both operations are given and are not that pair, m where one is absent and it is read-only.
abbrev pub transient_pair : {X : Type 0} → Option (LoadOp X) → Option Bool → Bool → ℕ → ℕ → Verdict
transient_pair none store read_only n m = unless (not read_only) m at_depth_stencil
transient_pair (some l) none read_only n m = unless (not read_only) m at_depth_stencil
transient_pair (some l) (some keep) read_only n m = unless (transient_ops l keep) n at_depth_stencil

unfoldable pub transient_channel : {X : Type 0} → PassChannel X → ℕ → ℕ → Verdict
transient_channel c n m = transient_pair c.load c.store c.read_only n m

-- ── PassChannel::resolve: 18 to 24

-- What is made of a clear value: the value, or the number that refuses it.
pub data Handled (X : Type 0) : Type 0 where
  value : X → Handled X
  refusal : ℕ → Handled X

-- A resolved channel, or the number that refuses it.
pub data Resolved (X : Type 0) : Type 0 where
  channel : Ops X → Resolved X
  refused : ℕ → Resolved X

-- A read-only channel: 18 with a load, 19 with a store.
abbrev pub resolve_read_only : {X Y : Type 0} → Option (LoadOp X) → Option Bool → Resolved Y
resolve_read_only (some l) store = refused 18
resolve_read_only none (some keep) = refused 19
resolve_read_only none none = channel read_only_ops

-- 24 without a store.
abbrev pub with_store : {Y : Type 0} → LoadOp Y → Option Bool → Resolved Y
with_store l none = refused 24
with_store l (some keep) = channel (operational l keep)

abbrev pub with_clear : {Y : Type 0} → Handled Y → Option Bool → Resolved Y
with_clear (value y) store = with_store (clear_op y) store
with_clear (refusal n) store = refused n

-- 20 without a load; a Clear is handled; 23 for a strict DontCare.
abbrev pub resolve_ops : {X Y : Type 0} → (X → Handled Y) → Bool → Option (LoadOp X) → Option Bool → Resolved Y
resolve_ops handle strict none store = refused 20
resolve_ops handle strict (some load_op) store = with_store load_op store
resolve_ops handle strict (some (clear_op x)) store = with_clear (handle x) store
resolve_ops handle strict (some dont_care) store = cond strict (refused 23) (with_store dont_care store)

unfoldable pub resolve : {X Y : Type 0} → (X → Handled Y) → Bool → PassChannel X → Resolved Y
resolve handle strict c =
    cond c.read_only (resolve_read_only c.load c.store) (resolve_ops handle strict c.load c.store)

-- W3C depthClearValue: 0.0 to 1.0, both included. -0.0 is in it, and no NaN.
unfoldable pub depth_in_range : Float → Bool
depth_in_range x = le (f32_of_bits 0) x && le x (f32_of_bits 0x3f80_0000)

-- 21 and 22.
abbrev pub handle_depth : Option Float → Handled Float
handle_depth none = refusal 21
handle_depth (some x) = cond (depth_in_range x) (value x) (refusal 22)

-- convert_stencil_value, W3C stencilClearValue: the low 8 bits. Absent means 0.
abbrev pub handle_stencil : Option ℕ → Handled ℕ
handle_stencil none = value 0
handle_stencil (some n) = value (n % 256)

unfoldable pub resolve_depth : Bool → Channel → Resolved Float
resolve_depth strict c = resolve handle_depth strict (depth_channel c)

unfoldable pub resolve_stencil : Bool → Channel → Resolved ℕ
resolve_stencil strict c = resolve handle_stencil strict (stencil_channel c)

-- ── 18 to 26, of an aspect that the format has or lacks

-- A channel without its aspect is read-only, or refused as n where it has an operation.
abbrev pub absent_pair : {X Y : Type 0} → Option (LoadOp X) → Option Bool → ℕ → Resolved Y
absent_pair (some l) store n = refused n
absent_pair none (some keep) n = refused n
absent_pair none none n = channel read_only_ops

unfoldable pub resolve_absent : {X Y : Type 0} → PassChannel X → ℕ → Resolved Y
resolve_absent c n = absent_pair c.load c.store n

unfoldable pub depth_resolved : Bool → Bool → Channel → Resolved Float
depth_resolved has strict c = cond has (resolve_depth strict c) (resolve_absent (depth_channel c) 25)

unfoldable pub stencil_resolved : Bool → Bool → Channel → Resolved ℕ
stencil_resolved has strict c = cond has (resolve_stencil strict c) (resolve_absent (stencil_channel c) 26)

-- The verdict on a channel, and what it does. (Of a refused one nothing is asked.)
abbrev pub resolved_verdict : {X : Type 0} → Resolved X → Verdict
resolved_verdict (channel ops) = accepted
resolved_verdict (refused n) = refused_at n at_depth_stencil

abbrev pub resolved_ops : {X : Type 0} → Resolved X → Ops X
resolved_ops (channel ops) = ops
resolved_ops (refused n) = read_only_ops
