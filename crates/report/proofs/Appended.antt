-- Laws of a text that grows: nothing, one text behind another, the same text; what it leaves in the buffer.
use mathlib.Core.Path.{◌≡◌, refl, sym, subst, ◌∙◌}
use mathlib.Core.List.{List, [], ◌++◌}
use Prim.Native.Nat.{ℕ, ◌≤◌}
use lib.ListN.{length}
use Rattle.report.specs.declared.text.Text.{Text}
use Rattle.report.specs.Appended.{Appended}
use Rattle.report.specs.Put.{Put}
use Rattle.report.specs.Printed.{Printed}
use Rattle.report.proofs.Put.{put_none, put_then, put_as, printed}

pub appended_none : (a : Text) → Appended a [] a
appended_none a = record { put = put_none _ _; same_length = refl; same_reference = refl }

pub appended_then : {a b c : Text} {xs ys : List ℕ} → Appended a xs b → Appended b ys c → Appended a (xs ++ ys) c
appended_then p q = record {
  put = put_then p.put q.put;
  same_length = q.same_length ∙ p.same_length;
  same_reference = q.same_reference ∙ p.same_reference;
}

pub appended_as : {a b : Text} {xs ys : List ℕ} → xs ≡ ys → Appended a xs b → Appended a ys b
appended_as e p = record { put = put_as e p.put; same_length = p.same_length; same_reference = p.same_reference }

-- What is left in the buffer, at whose front the text grew. That the reference stayed is what tells it.
pub printed_left : {a b : Text} {xs left : List ℕ} → Appended a xs b → a.end ≡ 0 → b.end ≤ length a.buffer.now
    → (a.buffer.ghost_name ≡ b.buffer.ghost_name → left ≡ b.buffer.now) → Printed a.buffer.now xs left b.end
printed_left {a} {b} {xs} p front room left =
    subst (λ m. Printed a.buffer.now xs m b.end) (sym (left (sym p.same_reference)))
    (printed (subst (λ (i : ℕ). Put a.buffer.now i xs b.buffer.now b.end) front p.put) room)
