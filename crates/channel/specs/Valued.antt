-- Operations and channels without the value of a Clear: the definition's own, at the type of one value; and with a value put in.
use Rattle.std.specs.Prelude.{ℕ, Bool, cond}
use Rattle.std.proofs.Math.Option.{Option, none, some}
use Rattle.definition.specs.Channel.{LoadOp, load_op, clear_op, dont_care, clear_value, Ops, operational, PassChannel, Handled, value, refusal, Resolved, channel, refused, resolve, resolve_absent}

-- ── without the value

abbrev pub kind_of : {X : Type 0} → LoadOp X → LoadOp (Unit {0})
kind_of load_op = load_op
kind_of (clear_op x) = clear_op tt
kind_of dont_care = dont_care

abbrev pub kind_field : {X : Type 0} → Option (LoadOp X) → Option (LoadOp (Unit {0}))
kind_field none = none
kind_field (some l) = some (kind_of l)

-- What it does, read-only or not.
abbrev pub operations_of : {X : Type 0} → Ops X → Ops (Unit {0})
operations_of o = operational (kind_of o.load) o.keep

abbrev pub kinds : {X : Type 0} → PassChannel X → PassChannel (Unit {0})
kinds c = record { load = kind_field c.load; store = c.store; read_only = c.read_only }

-- ── with a value

-- The load of a kind, c where it clears.
abbrev pub of_kind : {X : Type 0} → LoadOp X → LoadOp (Unit {0}) → LoadOp X
of_kind c load_op = load_op
of_kind c (clear_op u) = c
of_kind c dont_care = dont_care

abbrev pub valued : {X : Type 0} → X → LoadOp (Unit {0}) → LoadOp X
valued x l = of_kind (clear_op x) l

abbrev pub valued_field : {X : Type 0} → X → Option (LoadOp (Unit {0})) → Option (LoadOp X)
valued_field x none = none
valued_field x (some l) = some (valued x l)

abbrev pub valued_ops : {X : Type 0} → X → Ops (Unit {0}) → Ops X
valued_ops x o = record { load = valued x o.load; keep = o.keep; read_only = o.read_only }

abbrev pub valued_handled : {X : Type 0} → X → Handled (Unit {0}) → Handled X
valued_handled x (value u) = value x
valued_handled x (refusal n) = refusal n

abbrev pub valued_answer : {X : Type 0} → X → Resolved (Unit {0}) → Resolved X
valued_answer x (channel o) = channel (valued_ops x o)
valued_answer x (refused n) = refused n

-- ── the value of a Clear apart from whether it is given

abbrev pub given : {X : Type 0} → Bool → X → Option X
given b x = cond b (some x) none

abbrev pub asked : {X : Type 0} → Bool → LoadOp X → LoadOp (Option X)
asked b load_op = load_op
asked b (clear_op x) = clear_op (given b x)
asked b dont_care = dont_care

abbrev pub asked_field : {X : Type 0} → Bool → Option (LoadOp X) → Option (LoadOp (Option X))
asked_field b none = none
asked_field b (some l) = some (asked b l)

-- The clear value of a load that may be absent, o where there is none.
abbrev pub asked_clear : {X : Type 0} → X → Option (LoadOp X) → X
asked_clear o none = o
asked_clear o (some l) = clear_value o l

abbrev pub asked_channel : {X : Type 0} → Bool → Option (LoadOp X) → Option Bool → Bool → PassChannel (Option X)
asked_channel b l store read_only = record { load = asked_field b l; store = store; read_only = read_only }

-- ── resolve

-- What is made of any clear value.
abbrev pub always : Handled (Unit {0}) → Unit {0} → Handled (Unit {0})
always h u = h

-- Of an aspect that the format has or lacks: by resolve, or n.
unfoldable pub resolved_for : {X Y : Type 0} → (X → Handled Y) → ℕ → Bool → Bool → PassChannel X → Resolved Y
resolved_for h n has strict c = cond has (resolve h strict c) (resolve_absent c n)
