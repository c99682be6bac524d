-- What the operations stand for in the definition.
use Rattle.std.specs.Prelude.{Bool, true, false}
use Rattle.std.specs.Prelude as S
use Rattle.std.proofs.Math.Option.{Option, none, some}
use Rattle.definition.specs.Channel.{load_op, clear_op, dont_care, Ops, operational}
use Rattle.definition.specs.Channel as Ch
use Rattle.channel.specs.declared.StoreOp.{StoreOp}
use Rattle.channel.specs.declared.StoreOp.TheVariants as SO
use Rattle.channel.specs.declared.LoadOp.{LoadOp}
use Rattle.channel.specs.declared.LoadOp.TheVariants as LO
use Rattle.channel.specs.declared.Operations.{Operations}

-- Whether it stores.
abbrev pub keep_in : StoreOp → Bool
keep_in SO.Store = true
keep_in SO.Discard = false

abbrev pub store_in : S.Option StoreOp → Option Bool
store_in S.None = none
store_in (S.Some s) = some (keep_in s)

-- A Clear of x stands for one of f x.
abbrev pub load_by : {X Y : Type 0} → (X → Y) → LoadOp X → Ch.LoadOp Y
load_by f LO.Load = load_op
load_by f (LO.Clear x) = clear_op (f x)
load_by f LO.DontCare = dont_care

abbrev pub load_in : {X : Type 0} → LoadOp X → Ch.LoadOp X
load_in l = load_by (λ x. x) l

abbrev pub ops_in : {X : Type 0} → Operations X → Ops X
ops_in o = operational (load_in o.load) (keep_in o.store)
