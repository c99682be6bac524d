-- Laws of what is said of "the first n": each definition one turn further, what stays once it is refused, and what holds of each.
use mathlib.Core.Path.{◌≡◌, refl, sym, ap, subst, ◌∙◌}
use mathlib.Core.Bool.{Bool, true, false, ◌&&◌, cond}
use mathlib.Core.List.{List, [], ◌++◌}
use Prim.Native.Nat.{ℕ, zero, suc, ◌+◌, ◌-◌, ◌<◌, ◌≤◌}
use native.Mathlib.Omega.{arith}
use native.Mathlib.Numerals.{add-one}
use lib.Dec.{leb, eqb}
use borrow.Author.Tests.{eqb-true, eqb-false, leb-true, leb-false}
use lib.ListN.{length, drop, get_or}
use Rattle.definition.specs.Session.{Session, Pass, surfaces_in, surfaces_before}
use Rattle.definition.specs.Verdict.{is_accepted}
use Rattle.definition.specs.Readable.{texture_valid, textures_read, view_valid, first_views_valid, slot_reads, slots_read}
use Rattle.definition.specs.Check.{slot_takes, taken_before, with_slot, sample_bytes, slot_step, next_slot, slot_steps}
use Rattle.definition.specs.Attachments.{slot_part, slot_parts}
use Rattle.definition.specs.Calls.{bytes_valid}
use Rattle.definition.specs.declared.Progress.{Progress}
use Rattle.laws.proofs.Tests.{and_left, and_right}
use Rattle.laws.proofs.Lists.{drop_turn}

-- ── any fold

-- What a turn no longer changes, no later turn changes.
pub stays : {A : Type 0} (P : A → Type 0) (f : ℕ → A) → ((n : ℕ) → P (f n) → f (suc n) ≡ f n) → (k n : ℕ) → k ≤ n → P (f k) → f n ≡ f k
stays P f turn k zero h p = ap f (let e : zero ≡ k = omega arith in e)
stays {A} P f turn k (suc n) h p = go (leb k n) refl (λ l. stays P f turn k n l p)
  where
    go : (b : Bool) → leb k n ≡ b → (k ≤ n → f n ≡ f k) → f (suc n) ≡ f k
    go true e ih = let i : f n ≡ f k = ih (leb-true k n e) in turn n (subst P (sym i) p) ∙ i
    go false e ih = ap f (let z : suc n ≡ k = omega (arith, leb-false k n e) in z)

-- A conjunction of tests: once it fails it fails at the end, and where it holds each test holds.
module _ (f g : ℕ → Bool) (turn : (n : ℕ) → f (suc n) ≡ (f n && g n)) where
  pub and_stops : (k n : ℕ) → k ≤ n → f k ≡ false → f n ≡ false
  and_stops k n h e = stays (λ b. b ≡ false) f (λ m z. turn m ∙ ap (λ b. b && g m) z ∙ sym z) k n h e ∙ e

  pub and_each : (n : ℕ) → f n ≡ true → (i : ℕ) → i < n → g i ≡ true
  and_each zero h i l = absurd (omega arith)
  and_each (suc n) h i l = go (eqb i n) refl (λ a. and_each n a i)
    where
      both : (f n && g n) ≡ true
      both = sym (turn n) ∙ h

      go : (b : Bool) → eqb i n ≡ b → (f n ≡ true → i < n → g i ≡ true) → g i ≡ true
      go true e ih = ap g (eqb-true i n e) ∙ and_right (f n) (g n) both
      go false e ih = ih (and_left (f n) (g n) both) (omega (arith, eqb-false i n e))

-- ── the session's rows: 3 and 4

pub textures_none : (S : Session) → textures_read S 0 ≡ true
unfolding textures_read
textures_none S = refl

pub textures_turn : (S : Session) (n : ℕ) → textures_read S (n + 1) ≡ (textures_read S n && texture_valid (S.texture n))
unfolding textures_read
textures_turn S n = rw add-one

textures_suc : (S : Session) (n : ℕ) → textures_read S (suc n) ≡ (textures_read S n && texture_valid (S.texture n))
unfolding textures_read
textures_suc S n = refl

pub textures_stop : (S : Session) (k n : ℕ) → k ≤ n → textures_read S k ≡ false → textures_read S n ≡ false
textures_stop S = and_stops (textures_read S) (λ n. texture_valid (S.texture n)) (textures_suc S)

pub textures_each : (S : Session) (n : ℕ) → textures_read S n ≡ true → (i : ℕ) → i < n → texture_valid (S.texture i) ≡ true
textures_each S = and_each (textures_read S) (λ n. texture_valid (S.texture n)) (textures_suc S)

pub views_none : (S : Session) → first_views_valid S 0 ≡ true
unfolding first_views_valid
views_none S = refl

pub views_turn : (S : Session) (n : ℕ) → first_views_valid S (n + 1) ≡ (first_views_valid S n && view_valid S (S.view n))
unfolding first_views_valid
views_turn S n = rw add-one

views_suc : (S : Session) (n : ℕ) → first_views_valid S (suc n) ≡ (first_views_valid S n && view_valid S (S.view n))
unfolding first_views_valid
views_suc S n = refl

pub views_stop : (S : Session) (k n : ℕ) → k ≤ n → first_views_valid S k ≡ false → first_views_valid S n ≡ false
views_stop S = and_stops (first_views_valid S) (λ n. view_valid S (S.view n)) (views_suc S)

pub views_each : (S : Session) (n : ℕ) → first_views_valid S n ≡ true → (i : ℕ) → i < n → view_valid S (S.view i) ≡ true
views_each S = and_each (first_views_valid S) (λ n. view_valid S (S.view n)) (views_suc S)

-- ── the slots of a pass

slots_read_suc : (S : Session) (p : Pass) (n : ℕ) → slots_read S p (suc n) ≡ (slots_read S p n && slot_reads S (p.slot n))
unfolding slots_read
slots_read_suc S p n = refl

pub slots_read_each : (S : Session) (p : Pass) (n : ℕ) → slots_read S p n ≡ true → (i : ℕ) → i < n → slot_reads S (p.slot i) ≡ true
slots_read_each S p = and_each (slots_read S p) (λ n. slot_reads S (p.slot n)) (slots_read_suc S p)

pub taken_none : (S : Session) (p : Pass) → taken_before S p 0 ≡ []
unfolding taken_before
taken_none S p = refl

pub taken_turn : (S : Session) (p : Pass) (n : ℕ) → taken_before S p (n + 1) ≡ slot_takes S (p.slot n) ++ taken_before S p n
unfolding taken_before
taken_turn S p n = rw add-one

pub parts_none : (S : Session) (p : Pass) → slot_parts S p 0 ≡ []
unfolding slot_parts
parts_none S p = refl

pub parts_turn : (S : Session) (p : Pass) (n : ℕ) → slot_parts S p (n + 1) ≡ slot_parts S p n ++ slot_part S (p.slot n)
unfolding slot_parts
parts_turn S p n = rw add-one

-- The colour bytes of one slot more.
pub sample_none : (S : Session) (p : Pass) → sample_bytes S p 0 ≡ 0
unfolding sample_bytes
sample_none S p = refl

pub sample_turn : (S : Session) (p : Pass) (n : ℕ) → sample_bytes S p (n + 1) ≡ with_slot S (p.slot n) (sample_bytes S p n)
unfolding sample_bytes
sample_turn S p n = rw add-one

-- A slot's step; once a pass is refused, the steps change nothing.
pub steps_none : (S : Session) (p : Pass) (fit : Bool) (a : Progress) → slot_steps S p fit a 0 ≡ a
unfolding slot_steps
steps_none S p fit a = refl

pub steps_turn : (S : Session) (p : Pass) (fit : Bool) (a : Progress) (n : ℕ) → slot_steps S p fit a (n + 1) ≡ next_slot S p fit n (slot_steps S p fit a n)
unfolding slot_steps
steps_turn S p fit a n = rw add-one

pub next_accepted : (S : Session) (p : Pass) (fit : Bool) (k : ℕ) (a : Progress) → is_accepted a.verdict ≡ true → next_slot S p fit k a ≡ slot_step S p fit k a.seen
unfolding next_slot
next_accepted S p fit k a h = ap (λ b. cond b (slot_step S p fit k a.seen) a) h

pub next_refused : (S : Session) (p : Pass) (fit : Bool) (k : ℕ) (a : Progress) → is_accepted a.verdict ≡ false → next_slot S p fit k a ≡ a
unfolding next_slot
next_refused S p fit k a h = ap (λ b. cond b (slot_step S p fit k a.seen) a) h

-- ── surfaces

pub before_none : (S : Session) → surfaces_before S 0 ≡ 0
unfolding surfaces_before
before_none S = refl

pub before_turn : (S : Session) (n : ℕ) → surfaces_before S (n + 1) ≡ surfaces_before S n + surfaces_in (S.texture n)
unfolding surfaces_before
before_turn S n = rw add-one

-- Later textures have later surfaces.
pub before_grows : (S : Session) (k n : ℕ) → k ≤ n → surfaces_before S k ≤ surfaces_before S n
unfolding surfaces_before
before_grows S k zero h = let e : k ≡ zero = omega arith in rw e (omega arith)
before_grows S k (suc n) h = go (leb k n) refl (before_grows S k n)
  where
    go : (b : Bool) → leb k n ≡ b → (k ≤ n → surfaces_before S k ≤ surfaces_before S n) → surfaces_before S k ≤ surfaces_before S (suc n)
    go true e ih = omega (arith, ih (leb-true k n e))
    go false e ih = let z : k ≡ suc n = omega (arith, leb-false k n e) in rw z (omega arith)

-- ── the rest of a list

-- One turn of a loop that has n - k to go.
pub to_go : (n k : ℕ) → k < n → n - k ≡ suc (n - (k + 1))
to_go n k h = omega arith

-- The status bytes of number 6.
pub bytes_turn : (bs : List ℕ) (n i : ℕ) → i < n → n ≤ length bs
    → bytes_valid (n - i) (drop i bs) ≡ (leb (get_or bs i 0) 3 && bytes_valid (n - (i + 1)) (drop (i + 1) bs))
bytes_turn bs n i h g = ap (λ m. bytes_valid m (drop i bs)) (to_go n i h) ∙ ap (bytes_valid (suc (n - (i + 1)))) (drop_turn bs 0 i (omega arith))
