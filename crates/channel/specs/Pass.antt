-- What a channel, and its answer, stand for in the definition.
use Rattle.std.specs.Prelude.{◌≡◌, ℕ, Bool}
use Rattle.std.specs.Prelude as S
use Rattle.std.proofs.Math.Option.{Option, none, some}
use Rattle.definition.specs.Channel.{Ops, Handled, value, refusal, Resolved, channel, refused, read_only_ops}
use Rattle.definition.specs.Channel as Ch
use Rattle.definition.specs.Refusals.{number_of}
use Rattle.definition.specs.declared.refusals.Refusal.{Refusal}
use Rattle.channel.specs.Operations.{store_in, load_by, ops_in}
use Rattle.channel.specs.declared.LoadOp.{LoadOp}
use Rattle.channel.specs.declared.pass.PassChannel.{PassChannel}
use Rattle.channel.specs.declared.pass.ResolvedPassChannel.{ResolvedPassChannel}
use Rattle.channel.specs.declared.pass.ResolvedPassChannel.TheVariants as R

-- A clear value that may be absent.
abbrev pub option_in : {X : Type 0} → S.Option X → Option X
option_in S.None = none
option_in (S.Some x) = some x

abbrev pub field_in : {X : Type 0} → S.Option (LoadOp (S.Option X)) → Option (Ch.LoadOp (Option X))
field_in S.None = none
field_in (S.Some l) = some (load_by option_in l)

abbrev pub channel_in : {X : Type 0} → PassChannel (S.Option X) → Ch.PassChannel (Option X)
channel_in c = record { load = field_in c.load_op; store = store_in c.store_op; read_only = c.read_only }

-- What is made of a clear value, or the number that refuses it.
abbrev pub handled_in : {X : Type 0} → S.Result X Refusal → Handled X
handled_in (S.Ok x) = value x
handled_in (S.Err n) = refusal (number_of n)

-- Whatever a function makes of a clear value, by its results, handle makes of it.
abbrev pub Handles : {X : Type 0} → (S.Option X → S.Result X Refusal → Type 0) → (Option X → Handled X) → Type 0
Handles results handle = (x : _) (r : _) → results x r → handled_in r ≡ handle (option_in x)

abbrev pub resolved_in : {X : Type 0} → ResolvedPassChannel X → Ops X
resolved_in R.ReadOnly = read_only_ops
resolved_in (R.Operational o) = ops_in o

-- The resolved channel, or the number that refuses it.
abbrev pub answer_in : {X : Type 0} → S.Result (ResolvedPassChannel X) Refusal → Resolved X
answer_in (S.Ok c) = channel (resolved_in c)
answer_in (S.Err n) = refused (number_of n)

-- A channel that may have no operation is read-only; n with a load, else m with a store.
abbrev pub without_ops : {X Y : Type 0} → Option (Ch.LoadOp X) → Option Bool → ℕ → ℕ → Resolved Y
without_ops (some l) store n m = refused n
without_ops none (some keep) n m = refused m
without_ops none none n m = channel read_only_ops
