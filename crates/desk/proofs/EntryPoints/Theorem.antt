-- A run of the C functions is the calls of the definition, and what a caller reads is what these answer.
use Prim.Native.Nat.{ℕ, zero, suc}
use mathlib.Core.Path.{◌≡◌, refl, sym, ap, subst, ◌∙◌}
use mathlib.Core.Bool.{◌||◌}
use mathlib.Core.Option.{none}
use mathlib.Core.List.{List, [], ◌∷◌}
use lib.Dec.{ltb}
use lib.ListN.{length, take}
use Rattle.definition.specs.Session.{Session, session}
use Rattle.definition.specs.Readable.{session_refusal}
use Rattle.definition.specs.Sizes.{max_surfaces, surface_bytes, action_bytes, discards_bytes, actions_bytes, clears_bytes}
use Rattle.definition.specs.Status.{filled}
use Rattle.definition.specs.Calls.{State, Call, lent_valid, call, answers, after}
use Rattle.lists.specs.Lists.{surface_of, action_of_bytes}
use Rattle.lists.proofs.Lists.{emptied}
use Rattle.buffer_validation.specs.Buffers.{Buffers, held_in, too_short}
use Rattle.desk.specs.Entry.{Opened}
use Rattle.desk.specs.Promise.{LengthsStay}
use Rattle.desk.proofs.Calls.{entry_called}
use Rattle.noninterference.specs.Memory.{events, byte_of, loaded, cells}
use Rattle.noninterference.specs.Claim.{Fresh, all_masked, submitted_from, last_use, kept, Agree, Hidden}
use Rattle.noninterference.proofs.Theorem.{demand_three, first_answers, never_six}
use Rattle.desk.specs.EntryPoints.Run.{FreshBuffers, Told, of_pass, of_submit, call_of, Promised, Turn, Run, calls_of, buffers_after, read_in, answers_in}
use Rattle.desk.specs.EntryPoints.Theorem.{DemandThreeOfCalls, NeverSixOfCalls}
use Rattle.desk.proofs.EntryPoints.Left.{left_state}
use Rattle.desk.proofs.EntryPoints.Read.{left_read}

-- ── what a promise gives

module _ (s : List ℕ) where
  -- The buffers are as long as before.
  as_long : (b b' : Buffers) → LengthsStay b.lists b'.lists → length b'.status ≡ length b.status → too_short b' ≡ too_short b
  unfolding too_short
  as_long b b' h e =
      λ q. ltb (h.discards q) discards_bytes || ltb (h.actions q) actions_bytes || ltb (h.clears q) clears_bytes || ltb (e q) max_surfaces

  left_long : (b : Buffers) (t : Told) (b' : Buffers) → Promised s b t b' → too_short b' ≡ too_short b
  left_long b (of_pass i r) b' p = as_long b b' p.lengths (ap length p.status)
  left_long b (of_submit n) b' p = as_long b b' p.lengths p.bytes

-- ── call after call

-- A run follows the definition's calls.
record Follows (s : List ℕ) (b : Buffers) (ts : List Turn) : Type 0 where
  answered : answers_in ts ≡ answers (session s) (calls_of ts) (held_in b)
  states : (n : ℕ) → held_in (buffers_after b ts n) ≡ after (session s) (take n (calls_of ts)) (held_in b)
  opened : (n : ℕ) → Opened s (buffers_after b ts n)

module _ (s : List ℕ) where
  follows_none : (b : Buffers) → Opened s b → Follows s b []
  follows_none b o = record { answered = refl; states = none; opened = still }
    where
      none : (n : ℕ) → held_in (buffers_after b [] n) ≡ after (session s) (take n []) (held_in b)
      none zero = refl
      none (suc n) = refl

      still : (n : ℕ) → Opened s (buffers_after b [] n)
      still zero = o
      still (suc n) = o

  -- One call, and then the rest from what it leaves.
  follows_call : (t : Turn) (ts : List Turn) (b : Buffers) → Opened s b → Promised s b t.told t.left → Follows s t.left ts → Follows s b (t ∷ ts)
  follows_call t ts b o p rest = record { answered = λ q. here q ∷ later q; states = states; opened = opened }
    where
      k : Call
      k = call_of t.told

      left : held_in t.left ≡ (call (session s) (call_of t.told) (held_in b)).state
      left = left_state s b t.told t.left o p

      here : read_in t.told t.left ≡ (call (session s) (call_of t.told) (held_in b)).answer
      here = left_read s b t.told t.left o p

      later : answers_in ts ≡ answers (session s) (calls_of ts) (call (session s) (call_of t.told) (held_in b)).state
      later = rest.answered ∙ ap (answers (session s) (calls_of ts)) left

      states : (n : ℕ) → held_in (buffers_after b (t ∷ ts) n) ≡ after (session s) (take n (calls_of (t ∷ ts))) (held_in b)
      states zero = refl
      states (suc n) = rest.states n ∙ ap (after (session s) (take n (calls_of ts))) left

      opened : (n : ℕ) → Opened s (buffers_after b (t ∷ ts) n)
      opened zero = o
      opened (suc n) = rest.opened n

  follows : (ts : List Turn) (b : Buffers) → Opened s b → Run s b ts → Follows s b ts
  follows [] b o r = follows_none b o
  follows (t ∷ ts) b o r =
      follows_call t ts b o r.0
      (follows ts t.left (record { long = left_long s b t.told t.left r.0 ∙ o.long; readable = o.readable }) r.1)

-- ── fresh buffers

-- They hold a fresh state.
fresh_held : (s : List ℕ) (b : Buffers) → FreshBuffers s b → Fresh (session s) (held_in b)
fresh_held s b h = record {
  lists = λ q. record {
    discards = (emptied {k = surface_bytes} {decode = surface_of} {b = b.lists.discards} (record { count = h.discards; behind = refl })).list q;
    actions = (emptied {k = action_bytes} {decode = action_of_bytes} {b = b.lists.actions} (record { count = h.actions; behind = refl })).list q;
    clears = (emptied {k = surface_bytes} {decode = surface_of} {b = b.lists.clears} (record { count = h.clears; behind = refl })).list q;
  };
  status = h.status;
}

from_fresh : (s : List ℕ) → session_refusal s ≡ 0 → (b : Buffers) → FreshBuffers s b → (ts : List Turn) → Run s b ts → Follows s b ts
from_fresh s ok b h ts r = follows s ts b (record { long = h.long; readable = ok }) r

-- ── the theorems

pub never_six_of_calls : NeverSixOfCalls
never_six_of_calls s ok b h ts r n k =
    let run = from_fresh s ok b h ts r in
    entry_called s (buffers_after b ts n) k (run.opened n)
    (ap (lent_valid (session s)) (run.states n) ∙ never_six s ok (held_in b) (fresh_held s b h) (take n (calls_of ts)))

pub demand_three_of_calls : DemandThreeOfCalls
demand_three_of_calls s ok st b h ts r masked Val D c c' =
    let run = from_fresh s ok b h ts r in
    let S : Session = session s in
    let σ : State = held_in b in
    let calls : List Call = calls_of ts in
    let claim : Hidden D c c' S σ calls = demand_three s ok st Val D c c' σ (fresh_held s b h) calls (ap (all_masked S calls) (sym run.answered) ∙ masked) in
    let first : (n : ℕ) → take n (answers_in ts) ≡ answers S (take n calls) σ = λ n. ap (take n) run.answered ∙ sym (first_answers S calls σ n) in
    let bytes : (n : ℕ) → (buffers_after b ts n).status ≡ (after S (take n calls) σ).status = λ n. ap (λ (τ : State). τ.status) (run.states n) in
    record {
      loads = (λ q. loaded D c.left S (events S 0 calls (run.answered q)) [] c.first) ∙ claim.loads ∙ sym (λ q. loaded D c'.left S (events S 0 calls (run.answered q)) [] c'.first);
      marks = λ n x i. ap (λ l. filled (byte_of S l x)) (bytes n) ∙ claim.marks n x i ∙ sym (λ q. kept (last_use none (submitted_from (events S 0 (take n calls) (first n q)) [] []) x));
      equal = λ n x i f. subst (λ l. Agree S x (cells D c.left S (events S 0 (take n calls) l) [] c.first) (cells D c'.left S (events S 0 (take n calls) l) [] c'.first)) (sym (first n))
          (claim.equal n x i (sym (ap (λ l. filled (byte_of S l x)) (bytes n)) ∙ f));
    }
