-- What a caller reads is what a call answers.
use Prim.Native.Nat.{ℕ, ◌≤◌}
use native.Mathlib.Omega.{arith}
use mathlib.Core.Path.{◌≡◌, refl, sym, ap, subst, ◌∙◌}
use mathlib.Core.Bool.{Bool, true, false, cond}
use mathlib.Core.List.{List, []}
use lib.Dec.{eqb, ltb}
use lib.ListN.{length, take, length-map}
use lib.Seq.{take_all}
use Rattle.definition.specs.Session.{Session, Pass, session}
use Rattle.definition.specs.Sizes.{max_attachments}
use Rattle.definition.specs.Verdict.{is_accepted, nowhere, refused_at}
use Rattle.definition.specs.Check.{check}
use Rattle.definition.specs.MemoryInit.{Lists}
use Rattle.definition.specs.Attachments.{attachments}
use Rattle.definition.specs.Pass.{Reply, attachment_reply, Outcome, room_verdict, new_pass, refused_pass, check_pass}
use Rattle.definition.specs.Calls.{State, pass, submit, checked, submitted, Step, lent_valid, called, not_lent, pass_call, pass_step, call}
use Rattle.definition.specs.declared.Surface.{Surface}
use Rattle.buffer_validation.specs.Buffers.{Buffers, held_in}
use Rattle.attachments.proofs.Resolving.{take_padded}
use Rattle.render_pass.proofs.Outcome.{refused_by_start, refused_by_room, accepted_pass_lem}
use Rattle.render_pass.specs.declared.Reply as C
use Rattle.desk.specs.Entry.{number_in, Opened}
use Rattle.desk.specs.Reply.{answered}
use Rattle.desk.proofs.Calls.{entry_call}
use Rattle.desk.proofs.Attached.{attachments_most}
use Rattle.desk.specs.EntryPoints.Run.{Told, of_pass, of_submit, call_of, Promised, read_in}
use Rattle.desk.proofs.EntryPoints.Left.{left_state}

-- ── what a reply tells

-- A reply fits its records, and its clears are the first of the list of clears after it.
record Legible (r : Reply) (l : Lists) : Type 0 where
  few : length r.attachments ≤ max_attachments
  clears : take (length r.clears) l.clears ≡ r.clears

-- A refusal has no attachments and no clears.
legible_refused : (r : Reply) (l : Lists) → r.attachments ≡ [] → r.clears ≡ [] → Legible r l
legible_refused r l e f = record { few = omega (arith, ap length e); clears = ap (λ q. take (length q) l.clears) f ∙ sym f }

-- All of a list.
take_whole : (xs : List Surface) → take (length xs) xs ≡ xs
take_whole xs = take_all (length xs) xs (omega arith)

-- The reply to a pass, by what refuses it.
legible_check : (S : Session) (p : Pass) (l : Lists) → Legible (check_pass S p l).reply (check_pass S p l).lists
legible_check S p l = start (is_accepted (check S p).verdict) refl
  where
    room : (b : Bool) → is_accepted (check S p).verdict ≡ true → is_accepted (room_verdict (attachments S p) (new_pass l)) ≡ b → Legible (check_pass S p l).reply (check_pass S p l).lists
    room false f e = subst (λ (o : Outcome). Legible o.reply o.lists) (sym (refused_by_room S p l _ f refl e)) (legible_refused _ _ refl refl)
    room true f e = subst (λ (o : Outcome). Legible o.reply o.lists) (sym (accepted_pass_lem S p l _ f refl e)) (record {
      few = omega (arith, length-map (attachments S p) (attachment_reply S), attachments_most S p f);
      clears = take_whole _;
    })

    start : (b : Bool) → is_accepted (check S p).verdict ≡ b → Legible (check_pass S p l).reply (check_pass S p l).lists
    start false e = subst (λ (o : Outcome). Legible o.reply o.lists) (sym (refused_by_start S p l e)) (legible_refused _ _ refl refl)
    start true e = room (is_accepted (room_verdict (attachments S p) (new_pass l))) e refl

-- A flag is 1 where it is set.
flag_read : (b : Bool) → eqb (cond b 1 0) 1 ≡ b
flag_read true = refl
flag_read false = refl

-- What a caller reads in a reply is the reply.
reads : (i : ℕ) (r : Reply) (l : Lists) (b : Buffers) → Legible r l → (held_in b).lists ≡ l → read_in (of_pass i (answered (checked r))) b ≡ checked r
reads i r l b h e = λ q. checked (record {
  verdict = r.verdict;
  width = r.width;
  height = r.height;
  samples = r.samples;
  depth_read_only = flag_read r.depth_read_only q;
  stencil_read_only = flag_read r.stencil_read_only q;
  attachments = take_padded max_attachments r.attachments h.few q;
  divergent = r.divergent;
  clears = (ap (λ (m : Lists). take (length r.clears) m.clears) e ∙ h.clears) q;
})

-- ── one call

-- The answer to a pass check is what a caller reads of it.
read_pass : (S : Session) (i : ℕ) (σ : State) (q : C.Reply) (b : Buffers) → q ≡ answered (call S (pass i) σ).answer → held_in b ≡ (call S (pass i) σ).state
    → read_in (of_pass i q) b ≡ (call S (pass i) σ).answer
unfolding call pass_call
read_pass S i σ q b e h = go (lent_valid S σ) (ltb i S.pass_count) e h
  where
    step : Bool → Bool → Step
    step x y = cond x (pass_step (cond y (check_pass S (S.pass i) σ.lists) (refused_pass (refused_at 5 nowhere) σ.lists)) σ) (not_lent (pass i) σ)

    go : (x y : Bool) → q ≡ answered (step x y).answer → held_in b ≡ (step x y).state → read_in (of_pass i q) b ≡ (step x y).answer
    go true true e h = ap (λ (p : C.Reply). read_in (of_pass i p) b) e ∙ reads i _ _ b (legible_check S (S.pass i) σ.lists) (ap (λ (τ : State). τ.lists) h)
    go true false e h = ap (λ (p : C.Reply). read_in (of_pass i p) b) e ∙ reads i _ _ b (legible_refused _ _ refl refl) (ap (λ (τ : State). τ.lists) h)
    go false y e h = ap (λ (p : C.Reply). read_in (of_pass i p) b) e ∙ reads i _ _ b (legible_refused _ _ refl refl) (ap (λ (τ : State). τ.lists) h)

-- And so is the answer to a submission.
read_submit : (S : Session) (σ : State) (n : ℕ) (b : Buffers) → n ≡ number_in (call S submit σ).answer → held_in b ≡ (call S submit σ).state
    → read_in (of_submit n) b ≡ (call S submit σ).answer
unfolding call
read_submit S σ n b e h = go (lent_valid S σ) e h
  where
    step : Bool → Step
    step x = cond x (called S submit σ) (not_lent submit σ)

    go : (x : Bool) → n ≡ number_in (step x).answer → held_in b ≡ (step x).state → read_in (of_submit n) b ≡ (step x).answer
    go true e h = λ q. submitted (e q) (h q).status
    go false e h = λ q. submitted (e q) (h q).status

module _ (s : List ℕ) where
  -- What a promise gives a caller to read: what the call answers.
  pub left_read : (b : Buffers) (t : Told) (b' : Buffers) → Opened s b → Promised s b t b' → read_in t b' ≡ (call (session s) (call_of t) (held_in b)).answer
  left_read b (of_pass i r) b' o p =
      read_pass (session s) i (held_in b) r b' (p.reply ∙ ap (λ (q : Step). answered q.answer) (entry_call s b (pass i) o)) (left_state s b (of_pass i r) b' o p)
  left_read b (of_submit n) b' o p =
      read_submit (session s) (held_in b) n b' (p.number ∙ ap (λ (q : Step). number_in q.answer) (entry_call s b submit o)) (left_state s b (of_submit n) b' o p)
