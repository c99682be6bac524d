-- A load answers as the load without its value does, whatever the value, and what is put in again is the value; a load whose
-- clear value may be absent is of the same kind; the ways through resolve, and that the value can be put in afterwards.
use mathlib.Core.Path.{◌≡◌, refl, ap, ◌∙◌}
use mathlib.Core.Bool.{Bool, true, false, cond}
use mathlib.Core.Option.{Option, none, some}
use Prim.Native.Nat.{ℕ, ◌+◌}
use lib.Dec.{eqb, ltb}
use Rattle.definition.specs.declared.Verdict.{Verdict}
use Rattle.definition.specs.Channel.{LoadOp, load_op, clear_op, dont_care, Ops, loads, ignores, load_bits, store_bits, load_of, load_field, PassChannel, Handled, value, refusal, Resolved, refused, with_store, with_clear, resolve_read_only, resolve_ops, resolve, absent_pair, resolve_absent, transient_pair, transient_channel}
use Rattle.definition.specs.Pass.{ops_bits}
use Rattle.channel.specs.Pass.{without_ops}
use Rattle.channel.specs.Valued.{kind_of, kind_field, operations_of, kinds, valued, valued_field, valued_handled, valued_answer, given, asked_field, asked_clear, asked_channel, always, resolved_for}

-- ── without the value

pub loads_kind : {X : Type 0} (l : LoadOp X) → loads (kind_of l) ≡ loads l
loads_kind load_op = refl
loads_kind (clear_op x) = refl
loads_kind dont_care = refl

pub ignores_kind : {X : Type 0} (l : LoadOp X) → ignores (kind_of l) ≡ ignores l
ignores_kind load_op = refl
ignores_kind (clear_op x) = refl
ignores_kind dont_care = refl

bits_kind : {X : Type 0} (l : LoadOp X) → load_bits (kind_of l) ≡ load_bits l
bits_kind load_op = refl
bits_kind (clear_op x) = refl
bits_kind dont_care = refl

-- The bits are those of the operations without the value.
pub bits_of : {X : Type 0} {n : ℕ} {o : Ops (Unit {0})} (c : Ops X) → o ≡ operations_of c → n ≡ ops_bits o → n ≡ ops_bits c
bits_of c e h = h ∙ ap ops_bits e ∙ ap (λ n. n + store_bits c.keep) (bits_kind c.load)

-- ── with a value, by the field's number

by_tests : {X : Type 0} (x : X) (clears ignored : Bool)
    → valued x (cond clears (clear_op tt) (cond ignored dont_care load_op)) ≡ cond clears (clear_op x) (cond ignored dont_care load_op)
by_tests x true ignored = refl
by_tests x false true = refl
by_tests x false false = refl

-- A load by its number is of the kind by its number.
kind_by_tests : {X : Type 0} (x : X) (clears ignored : Bool)
    → cond clears (clear_op tt) (cond ignored dont_care load_op) ≡ kind_of (cond clears (clear_op x) (cond ignored dont_care load_op))
kind_by_tests x true ignored = refl
kind_by_tests x false true = refl
kind_by_tests x false false = refl

pub kind_load : {X : Type 0} {k : LoadOp (Unit {0})} (x : X) (n : ℕ) → k ≡ load_of n tt → k ≡ kind_of (load_of n x)
kind_load x n e = e ∙ kind_by_tests x (eqb n 1) (eqb n 2)

pub valued_load : {X : Type 0} (x : X) (n : ℕ) → valued x (load_of n tt) ≡ load_of n x
valued_load x n = by_tests x (eqb n 1) (eqb n 2)

if_present : {X : Type 0} (x : X) (l : LoadOp (Unit {0})) (present : Bool)
    → valued_field x (cond present (some l) none) ≡ cond present (some (valued x l)) none
if_present x l true = refl
if_present x l false = refl

-- A field with a value put in is the field of that value.
pub valued_field_lem : {X : Type 0} (x : X) (n : ℕ) → valued_field x (load_field n tt) ≡ load_field n x
valued_field_lem x n = if_present x (load_of n tt) (ltb n 3) ∙ ap (λ l. cond (ltb n 3) (some l) none) (valued_load x n)

-- ── a value that is given or absent

asked_by_tests : {X : Type 0} (b : Bool) (x : X) (present clears ignores : Bool)
    → asked_field b (cond present (some (cond clears (clear_op x) (cond ignores dont_care load_op))) none)
    ≡ cond present (some (cond clears (clear_op (given b x)) (cond ignores dont_care load_op))) none
asked_by_tests b x false clears ignores = refl
asked_by_tests b x true true ignores = refl
asked_by_tests b x true false true = refl
asked_by_tests b x true false false = refl

-- A load field with its value, and whether that is given, is the field of the value given or absent.
pub asked_field_lem : {X : Type 0} (b : Bool) (n : ℕ) (x : X) → asked_field b (load_field n x) ≡ load_field n (given b x)
asked_field_lem b n x = asked_by_tests b x (ltb n 3) (eqb n 1) (eqb n 2)

asked_kind : {X : Type 0} (b : Bool) (l : Option (LoadOp X)) → kind_field l ≡ kind_field (asked_field b l)
asked_kind b none = refl
asked_kind b (some load_op) = refl
asked_kind b (some (clear_op x)) = refl
asked_kind b (some dont_care) = refl

-- A channel without its value, by what its questions answer.
pub asked_channel_lem : {X : Type 0} {k : Option (LoadOp (Unit {0}))} {s : Option Bool} {r : Bool} (b : Bool) (l : Option (LoadOp X)) (c : PassChannel (Option X))
    → k ≡ kind_field l → asked_field b l ≡ c.load → s ≡ c.store → r ≡ c.read_only → record { load = k; store = s; read_only = r } ≡ kinds c
asked_channel_lem b l c e f g h = λ i. record { load = (e ∙ asked_kind b l ∙ ap kind_field f) i; store = g i; read_only = h i }

-- ── the ways through resolve

read_only_pair : {X Y : Type 0} (l : Option (LoadOp X)) (s : Option Bool) → without_ops {Y = Y} l s 18 19 ≡ resolve_read_only l s
read_only_pair (some l) s = refl
read_only_pair none (some keep) = refl
read_only_pair none none = refl

-- A read-only channel has no operations.
pub read_only_lem : {X Y : Type 0} {a : Resolved Y} (h : X → Handled Y) (strict : Bool) (c : PassChannel X)
    → c.read_only ≡ true → a ≡ without_ops c.load c.store 18 19 → a ≡ resolve h strict c
unfolding resolve
read_only_lem h strict c e f = f ∙ read_only_pair c.load c.store ∙ simp e

-- Any other has both.
pub operational : {X Y : Type 0} {a : Resolved Y} (h : X → Handled Y) (strict : Bool) (c : PassChannel X)
    → c.read_only ≡ false → a ≡ resolve_ops h strict c.load c.store → a ≡ resolve h strict c
unfolding resolve
operational h strict c e f = f ∙ simp e

-- ── the value put in

transient_pair_lem : {X : Type 0} (l : Option (LoadOp X)) (s : Option Bool) (r : Bool) (n m : ℕ) → transient_pair (kind_field l) s r n m ≡ transient_pair l s r n m
transient_pair_lem none s r n m = refl
transient_pair_lem (some l) none r n m = refl
transient_pair_lem (some load_op) (some keep) r n m = refl
transient_pair_lem (some (clear_op x)) (some keep) r n m = refl
transient_pair_lem (some dont_care) (some keep) r n m = refl

transient_kinds : {X : Type 0} (c : PassChannel X) (n m : ℕ) → transient_channel (kinds c) n m ≡ transient_channel c n m
unfolding transient_channel
transient_kinds c n m = transient_pair_lem c.load c.store c.read_only n m

-- 14 to 17 do not ask for the value.
pub transient_of : {X : Type 0} {v : Verdict} {p : PassChannel (Unit {0})} (c d : PassChannel X) (n m : ℕ)
    → c ≡ d → p ≡ kinds c → v ≡ transient_channel p n m → v ≡ transient_channel d n m
transient_of c d n m e f g = g ∙ ap (λ p. transient_channel p n m) f ∙ transient_kinds c n m ∙ ap (λ c. transient_channel c n m) e

absent_valued : {X Y : Type 0} (y : Y) (l : Option (LoadOp X)) (s : Option Bool) (n : ℕ) → valued_answer y (absent_pair (kind_field l) s n) ≡ absent_pair l s n
absent_valued y (some l) s n = refl
absent_valued y none (some keep) n = refl
absent_valued y none none n = refl

read_only_valued : {X Y : Type 0} (y : Y) (l : Option (LoadOp X)) (s : Option Bool) → valued_answer y (resolve_read_only (kind_field l) s) ≡ resolve_read_only l s
read_only_valued y (some l) s = refl
read_only_valued y none (some keep) = refl
read_only_valued y none none = refl

store_valued : {Y : Type 0} (y : Y) (l : LoadOp (Unit {0})) (s : Option Bool) → valued_answer y (with_store l s) ≡ with_store (valued y l) s
store_valued y l none = refl
store_valued y l (some keep) = refl

clear_valued : {Y : Type 0} (y : Y) (g : Handled (Unit {0})) (s : Option Bool) → valued_answer y (with_clear g s) ≡ with_clear (valued_handled y g) s
clear_valued y (value u) s = store_valued y (clear_op u) s
clear_valued y (refusal n) s = refl

strict_valued : {Y : Type 0} (y : Y) (strict : Bool) (s : Option Bool)
    → valued_answer y (cond strict (refused 23) (with_store dont_care s)) ≡ cond strict (refused 23) (with_store dont_care s)
strict_valued y true s = refl
strict_valued y false s = store_valued y dont_care s

module _ {X Y : Type 0} (h : Option X → Handled Y) (strict b : Bool) (o : X) (y : Y) (g : Handled (Unit {0})) where
  ops_valued : (l : Option (LoadOp X)) (s : Option Bool) → valued_handled y g ≡ h (given b (asked_clear o l))
      → valued_answer y (resolve_ops (always g) strict (kind_field (asked_field b l)) s) ≡ resolve_ops h strict (asked_field b l) s
  ops_valued none s e = refl
  ops_valued (some load_op) s e = store_valued y load_op s
  ops_valued (some (clear_op x)) s e = clear_valued y g s ∙ ap (λ h. with_clear h s) e
  ops_valued (some dont_care) s e = strict_valued y strict s

  by_read_only : (l : Option (LoadOp X)) (s : Option Bool) (r : Bool) → valued_handled y g ≡ h (given b (asked_clear o l))
      → valued_answer y (resolve (always g) strict (kinds (asked_channel b l s r))) ≡ resolve h strict (asked_channel b l s r)
  unfolding resolve
  by_read_only l s true e = read_only_valued y (asked_field b l) s
  by_read_only l s false e = ops_valued l s e

  by_aspect : (has : Bool) (n : ℕ) (l : Option (LoadOp X)) (s : Option Bool) (r : Bool) → valued_handled y g ≡ h (given b (asked_clear o l))
      → valued_answer y (resolved_for (always g) n has strict (kinds (asked_channel b l s r))) ≡ resolved_for h n has strict (asked_channel b l s r)
  unfolding resolved_for resolve_absent
  by_aspect true n l s r e = by_read_only l s r e
  by_aspect false n l s r e = absent_valued y (asked_field b l) s n

  -- A channel resolved without its value, with the value put in, is resolved.
  pub resolve_valued : {r : Resolved Y} {a : Resolved (Unit {0})} {p : PassChannel (Unit {0})} {x : X} (has : Bool) (n : ℕ) (l : Option (LoadOp X)) (s : Option Bool) (read_only : Bool)
      → x ≡ asked_clear o l → valued_handled y g ≡ h (given b x) → p ≡ kinds (asked_channel b l s read_only)
      → a ≡ resolved_for (always g) n has strict p → r ≡ valued_answer y a → r ≡ resolved_for h n has strict (asked_channel b l s read_only)
  resolve_valued has n l s read_only ex eg ep ea er =
      er ∙ ap (valued_answer y) (ea ∙ ap (resolved_for (always g) n has strict) ep) ∙ by_aspect has n l s read_only (eg ∙ ap (λ x. h (given b x)) ex)
