-- Laws of submissions: of one byte, of all bytes one place further, and of all bytes in sweeps, one for each action.
use mathlib.Core.Path.{◌≡◌, refl, sym, ap, ap₂, ◌∙◌}
use mathlib.Core.Logic.{◌≢◌}
use mathlib.Core.Bool.{Bool, true, false, ◌||◌, cond}
use mathlib.Core.List.{List, [], ◌∷◌, ◌++◌, map}
use Prim.Native.Nat.{ℕ, zero, suc, ◌+◌, ◌<◌, ◌≤◌}
use native.Mathlib.Omega.{arith}
use native.Mathlib.Numerals.{add-one}
use lib.Dec.{leb, eqb}
use lib.ListN.{length, take, get_or, set, replicate, length-set}
use lib.Seq.{ext_get_or, get_or-set_same, get_or-set_other}
use borrow.Author.Tests.{le-leb, eqb-true, eqb-false}
use Rattle.definition.specs.Surfaces.{same, hits, elem}
use Rattle.definition.specs.Session.{Session, surface_count, surfaces_of, surface_index}
use Rattle.definition.specs.Status.{filled, cleared, restart, act_byte, empty_byte}
use Rattle.definition.specs.MemoryInit.{implicit_at}
use Rattle.definition.specs.Submission.{byte_acts, byte_after, submit_bytes}
use Rattle.definition.specs.Calls.{bytes_valid}
use Rattle.definition.specs.declared.Surface.{Surface}
use Rattle.definition.specs.declared.Action.{Action}
use Rattle.definition.specs.declared.MemoryInitKind.TheVariants.{ImplicitlyInitialized}
use Rattle.laws.specs.Surfaces.{Inside}
use Rattle.laws.specs.Submission.{sweep, act_at, empty_at, sweep_acts}
use Rattle.laws.proofs.Tests.{clash, by_order, and_right, and_on, or_off_left, or_off_right}
use Rattle.laws.proofs.Surfaces.{same_refl, same_ne, hits_only, elem_append}
use Rattle.laws.proofs.Status.{filled_restart, cleared_restart, cleared_empty, act_filled, empty_twice, act_most, empty_most, restart_most}
use Rattle.laws.proofs.Places.{surfaces_counted, place_counted, place_within, place_holds, place_only, Placed, place_of}

-- ── one byte through actions

pub acts_append : (a c : List Action) (s : Surface) (b : ℕ) → byte_acts (a ++ c) s b ≡ byte_acts c s (byte_acts a s b)
acts_append [] c s b = refl
acts_append (x ∷ a) c s b = acts_append a c s (act_at x s b)

-- Actions leave a filled surface's byte.
pub acts_filled : (a : List Action) (s : Surface) (b : ℕ) → filled b ≡ true → byte_acts a s b ≡ b
acts_filled [] s b h = refl
acts_filled (x ∷ a) s b h = go (hits x.range s) (acts_filled a s b h)
  where
    go : (q : Bool) → byte_acts a s b ≡ b → byte_acts a s (cond q (act_byte x.kind b) b) ≡ b
    go true ih = rw (act_filled x.kind b h) ih
    go false ih = ih

-- Implicit actions at other surfaces leave a surface's byte.
pub acts_elsewhere : (x : List Surface) (s : Surface) (b : ℕ) → elem s x ≡ false → byte_acts (map implicit_at x) s b ≡ b
acts_elsewhere [] s b h = refl
acts_elsewhere (y ∷ x) s b h =
    ap (λ q. byte_acts (map implicit_at x) s (cond q (act_byte ImplicitlyInitialized b) b)) (hits_only y s ∙ or_off_left (same s y) (elem s x) h)
    ∙ acts_elsewhere x s b (or_off_right (same s y) (elem s x) h)

pub acts_most : (a : List Action) (s : Surface) (b : ℕ) → b ≤ 3 → byte_acts a s b ≤ 3
acts_most [] s b h = h
acts_most (x ∷ a) s b h = acts_most a s (act_at x s b) (go (hits x.range s))
  where
    go : (q : Bool) → cond q (act_byte x.kind b) b ≤ 3
    go true = act_most x.kind b h
    go false = h

-- ── one byte through a submission

-- Emptied or not, a byte at which a submission begins is not marked as cleared.
restart_clean : (q : Bool) (b : ℕ) → cleared (cond q (empty_byte (restart b)) (restart b)) ≡ false
restart_clean true b = cleared_empty (restart b) ∙ cleared_restart b
restart_clean false b = cleared_restart b

-- A submission clears no filled surface.
pub after_spares : (a : List Action) (d : List Surface) (s : Surface) (b : ℕ) → filled b ≡ true → cleared (byte_after a d s b) ≡ false
unfolding byte_after
after_spares a d s b h = rw (acts_filled a s (restart b) (filled_restart b ∙ h)) (restart_clean (elem s d) b)

-- A submission with no actions leaves no surface marked as cleared: it forgets the 2 of an earlier one.
pub after_forgets : (d : List Surface) (s : Surface) (b : ℕ) → cleared (byte_after [] d s b) ≡ false
unfolding byte_after
after_forgets d s b = restart_clean (elem s d) b

pub after_most : (a : List Action) (d : List Surface) (s : Surface) (b : ℕ) → byte_after a d s b ≤ 3
unfolding byte_after
after_most a d s b = go (elem s d)
  where
    go : (q : Bool) → cond q (empty_byte (byte_acts a s (restart b))) (byte_acts a s (restart b)) ≤ 3
    go true = empty_most (byte_acts a s (restart b))
    go false = acts_most a s (restart b) (restart_most b)

-- ── a sweep over all bytes

pub sweep_length : (f : Surface → ℕ → ℕ) (ss : List Surface) (bs : List ℕ) → length (sweep f ss bs) ≡ length bs
sweep_length f [] bs = refl
sweep_length f (s ∷ ss) [] = refl
sweep_length f (s ∷ ss) (b ∷ bs) = ap suc (sweep_length f ss bs)

-- The byte of a surface, and a byte past the last surface.
pub sweep_byte : (f : Surface → ℕ → ℕ) (ss : List Surface) (bs : List ℕ) (i : ℕ) (o : Surface) → i < length ss → length ss ≤ length bs
    → get_or (sweep f ss bs) i 0 ≡ f (get_or ss i o) (get_or bs i 0)
sweep_byte f [] bs i o h r = absurd (omega arith)
sweep_byte f (s ∷ ss) [] i o h r = absurd (omega arith)
sweep_byte f (s ∷ ss) (b ∷ bs) zero o h r = refl
sweep_byte f (s ∷ ss) (b ∷ bs) (suc i) o h r = sweep_byte f ss bs i o (omega arith) (omega arith)

pub sweep_past : (f : Surface → ℕ → ℕ) (ss : List Surface) (bs : List ℕ) (i : ℕ) → length ss ≤ i → get_or (sweep f ss bs) i 0 ≡ get_or bs i 0
sweep_past f [] bs i h = refl
sweep_past f (s ∷ ss) [] i h = refl
sweep_past f (s ∷ ss) (b ∷ bs) zero h = absurd (omega arith)
sweep_past f (s ∷ ss) (b ∷ bs) (suc i) h = sweep_past f ss bs i (omega arith)

-- One surface further.
pub sweep_turn : (f : Surface → ℕ → ℕ) (ss : List Surface) (bs : List ℕ) (i : ℕ) (o : Surface) → i < length ss → i < length bs
    → sweep f (take (i + 1) ss) bs ≡ set (sweep f (take i ss) bs) i (f (get_or ss i o) (get_or bs i 0))
sweep_turn f ss bs i o h g = ap (λ (j : ℕ). sweep f (take j ss) bs) (add-one i) ∙ go ss bs i h g
  where
    go : (ss : List Surface) (bs : List ℕ) (i : ℕ) → i < length ss → i < length bs
        → sweep f (take (suc i) ss) bs ≡ set (sweep f (take i ss) bs) i (f (get_or ss i o) (get_or bs i 0))
    go [] bs i h g = absurd (omega arith)
    go (s ∷ ss) [] i h g = absurd (omega arith)
    go (s ∷ ss) (b ∷ bs) zero h g = refl
    go (s ∷ ss) (b ∷ bs) (suc i) h g = ap (λ l. f s b ∷ l) (go ss bs i (omega arith) (omega arith))

-- Two functions in turn, and one function where either of two tests passes.
pub sweep_then : (f g : Surface → ℕ → ℕ) (ss : List Surface) (bs : List ℕ) → sweep g ss (sweep f ss bs) ≡ sweep (λ s b. g s (f s b)) ss bs
sweep_then f g [] bs = refl
sweep_then f g (s ∷ ss) [] = refl
sweep_then f g (s ∷ ss) (b ∷ bs) = ap (λ l. g s (f s b) ∷ l) (sweep_then f g ss bs)

pub sweep_same : (f g : Surface → ℕ → ℕ) → ((s : Surface) (b : ℕ) → f s b ≡ g s b) → (ss : List Surface) (bs : List ℕ) → sweep f ss bs ≡ sweep g ss bs
sweep_same f g h [] bs = refl
sweep_same f g h (s ∷ ss) [] = refl
sweep_same f g h (s ∷ ss) (b ∷ bs) = ap₂ ◌∷◌ (h s b) (sweep_same f g h ss bs)

pub sweep_either : (g : ℕ → ℕ) → ((b : ℕ) → g (g b) ≡ g b) → (p q : Surface → Bool) (ss : List Surface) (bs : List ℕ)
    → sweep (λ s b. cond (q s) (g b) b) ss (sweep (λ s b. cond (p s) (g b) b) ss bs) ≡ sweep (λ s b. cond (p s || q s) (g b) b) ss bs
sweep_either g twice p q ss bs =
    sweep_then (λ s b. cond (p s) (g b) b) (λ s b. cond (q s) (g b) b) ss bs
    ∙ sweep_same (λ s b. cond (q s) (g (cond (p s) (g b) b)) (cond (p s) (g b) b)) (λ s b. cond (p s || q s) (g b) b) (λ s b. go b (p s) (q s)) ss bs
  where
    go : (b : ℕ) (x y : Bool) → cond y (g (cond x (g b) b)) (cond x (g b) b) ≡ cond (x || y) (g b) b
    go b true true = twice b
    go b true false = refl
    go b false true = refl
    go b false false = refl

-- At one surface of the session: its byte is set.
pub sweep_only : (S : Session) (g : ℕ → ℕ) (s : Surface) → Inside S s → (bs : List ℕ) → surface_count S ≤ length bs
    → sweep (λ t b. cond (same t s) (g b) b) (surfaces_of S) bs ≡ set bs (surface_index S s) (g (get_or bs (surface_index S s) 0))
sweep_only S g s ok bs room =
    ext_get_or 0 _ _ (sweep_length f (surfaces_of S) bs ∙ sym (length-set bs (surface_index S s) _)) (λ i h. by_order (surface_count S) i (past i) (at i))
  where
    f : Surface → ℕ → ℕ
    f t b = cond (same t s) (g b) b

    new : ℕ
    new = g (get_or bs (surface_index S s) 0)

    past : (i : ℕ) → surface_count S ≤ i → get_or (sweep f (surfaces_of S) bs) i 0 ≡ get_or (set bs (surface_index S s) new) i 0
    past i l =
        let far : i ≢ surface_index S s = λ e. omega (arith, place_counted S s ok) in
        sweep_past f (surfaces_of S) bs i (omega (arith, surfaces_counted S)) ∙ sym (get_or-set_other bs (surface_index S s) i new 0 far)

    at : (i : ℕ) → i < surface_count S → get_or (sweep f (surfaces_of S) bs) i 0 ≡ get_or (set bs (surface_index S s) new) i 0
    at i l = sweep_byte f (surfaces_of S) bs i s (omega (arith, surfaces_counted S)) (omega (arith, surfaces_counted S)) ∙ go (eqb i (surface_index S s)) refl
      where
        t : Surface
        t = get_or (surfaces_of S) i s

        here : Placed S i t
        here = place_of S i s l

        go : (b : Bool) → eqb i (surface_index S s) ≡ b → f t (get_or bs i 0) ≡ get_or (set bs (surface_index S s) new) i 0
        go true e =
            let z : i ≡ surface_index S s = eqb-true i (surface_index S s) e in
            let same-one : t ≡ s = place_only S t s here.inside ok (here.index ∙ z) in
            ap (λ u. cond (same u s) (g (get_or bs i 0)) (get_or bs i 0)) same-one
            ∙ ap (λ q. cond q (g (get_or bs i 0)) (get_or bs i 0)) (same_refl s)
            ∙ ap (λ j. g (get_or bs j 0)) z
            ∙ sym (ap (λ j. get_or (set bs (surface_index S s) new) j 0) z ∙ get_or-set_same bs (surface_index S s) new 0 (omega (arith, place_counted S s ok)))
        go false e =
            let far : i ≢ surface_index S s = eqb-false i (surface_index S s) e in
            ap (λ q. cond q (g (get_or bs i 0)) (get_or bs i 0)) (same_ne t s (λ z. far (sym here.index ∙ ap (surface_index S) z)))
            ∙ sym (get_or-set_other bs (surface_index S s) i new 0 far)

-- ── a submission of all bytes

-- It is one sweep, byte by byte,
pub submit_sweep : (a : List Action) (d ss : List Surface) (bs : List ℕ) → submit_bytes a d ss bs ≡ sweep (byte_after a d) ss bs
submit_sweep a d [] bs = refl
submit_sweep a d (s ∷ ss) [] = refl
submit_sweep a d (s ∷ ss) (b ∷ bs) = ap (λ l. byte_after a d s b ∷ l) (submit_sweep a d ss bs)

-- and sweeps over all bytes: a beginning, each action in order, the discards.
sweeps_none : (acts : List Action) (bs : List ℕ) → sweep_acts acts [] bs ≡ bs
sweeps_none [] bs = refl
sweeps_none (a ∷ acts) bs = sweeps_none acts bs

sweeps_short : (acts : List Action) (s : Surface) (ss : List Surface) → sweep_acts acts (s ∷ ss) [] ≡ []
sweeps_short [] s ss = refl
sweeps_short (a ∷ acts) s ss = sweeps_short acts s ss

sweeps_cons : (acts : List Action) (s : Surface) (ss : List Surface) (b : ℕ) (bs : List ℕ)
    → sweep_acts acts (s ∷ ss) (b ∷ bs) ≡ byte_acts acts s b ∷ sweep_acts acts ss bs
sweeps_cons [] s ss b bs = refl
sweeps_cons (a ∷ acts) s ss b bs = sweeps_cons acts s ss (act_at a s b) (sweep (act_at a) ss bs)

pub submit_sweeps : (acts : List Action) (d ss : List Surface) (bs : List ℕ)
    → submit_bytes acts d ss bs ≡ sweep (empty_at d) ss (sweep_acts acts ss (sweep (λ s b. restart b) ss bs))
unfolding byte_after
submit_sweeps acts d [] bs = sym (sweeps_none acts bs)
submit_sweeps acts d (s ∷ ss) [] = sym (ap (sweep (empty_at d) (s ∷ ss)) (sweeps_short acts s ss))
submit_sweeps acts d (s ∷ ss) (b ∷ bs) =
    ap (λ l. byte_after acts d s b ∷ l) (submit_sweeps acts d ss bs)
    ∙ sym (ap (sweep (empty_at d) (s ∷ ss)) (sweeps_cons acts s ss (restart b) (sweep (λ s b. restart b) ss bs)))

-- An action further.
pub sweeps_append : (a c : List Action) (ss : List Surface) (bs : List ℕ) → sweep_acts (a ++ c) ss bs ≡ sweep_acts c ss (sweep_acts a ss bs)
sweeps_append [] c ss bs = refl
sweeps_append (x ∷ a) c ss bs = sweeps_append a c ss (sweep (act_at x) ss bs)

pub submit_length : (a : List Action) (d ss : List Surface) (bs : List ℕ) → length (submit_bytes a d ss bs) ≡ length bs
submit_length a d ss bs = ap length (submit_sweep a d ss bs) ∙ sweep_length (byte_after a d) ss bs

-- A discard further.
pub empties_append : (d e : List Surface) (ss : List Surface) (bs : List ℕ) → sweep (empty_at e) ss (sweep (empty_at d) ss bs) ≡ sweep (empty_at (d ++ e)) ss bs
empties_append d e ss bs =
    sweep_either empty_byte empty_twice (λ s. elem s d) (λ s. elem s e) ss bs
    ∙ sweep_same (λ s b. cond (elem s d || elem s e) (empty_byte b) b) (empty_at (d ++ e)) (λ s b. ap (λ q. cond q (empty_byte b) b) (sym (elem_append s d e))) ss bs

-- Bytes before and after a place.
pub submit_append : (a : List Action) (d xs ys : List Surface) (bs cs : List ℕ) → length xs ≡ length bs
    → submit_bytes a d (xs ++ ys) (bs ++ cs) ≡ submit_bytes a d xs bs ++ submit_bytes a d ys cs
submit_append a d [] ys [] cs h = refl
submit_append a d [] ys (b ∷ bs) cs h = absurd (omega arith)
submit_append a d (x ∷ xs) ys [] cs h = absurd (omega arith)
submit_append a d (x ∷ xs) ys (b ∷ bs) cs h = ap (λ l. byte_after a d x b ∷ l) (submit_append a d xs ys bs cs (omega arith))

-- A surface's byte after a submission.
pub submitted_byte : (S : Session) (a : List Action) (d : List Surface) (bs : List ℕ) → length (surfaces_of S) ≤ length bs → (s : Surface) → Inside S s
    → get_or (submit_bytes a d (surfaces_of S) bs) (surface_index S s) 0 ≡ byte_after a d s (get_or bs (surface_index S s) 0)
submitted_byte S a d bs room s ok =
    ap (λ l. get_or l (surface_index S s) 0) (submit_sweep a d (surfaces_of S) bs)
    ∙ sweep_byte (byte_after a d) (surfaces_of S) bs (surface_index S s) s (place_within S s ok) room
    ∙ ap (λ o. byte_after a d o (get_or bs (surface_index S s) 0)) (place_holds S s s ok)

-- ── number 6 of status bytes

pub submit_valid : (a : List Action) (d ss : List Surface) (bs : List ℕ) → bytes_valid (length ss) bs ≡ true → bytes_valid (length ss) (submit_bytes a d ss bs) ≡ true
submit_valid a d [] bs h = refl
submit_valid a d (s ∷ ss) [] h = h
submit_valid a d (s ∷ ss) (b ∷ bs) h =
    and_on (leb (byte_after a d s b) 3) _ (le-leb (byte_after a d s b) 3 (after_most a d s b)) (submit_valid a d ss bs (and_right (leb b 3) (bytes_valid (length ss) bs) h))

pub bytes_long : (n : ℕ) (bs : List ℕ) → bytes_valid n bs ≡ true → n ≤ length bs
bytes_long zero bs h = omega arith
bytes_long (suc n) [] h = clash {b = false} h refl
bytes_long (suc n) (b ∷ bs) h = omega (arith, bytes_long n bs (and_right (leb b 3) (bytes_valid n bs) h))

-- Fresh bytes are valid.
pub bytes_fresh : (n m : ℕ) → n ≤ m → bytes_valid n (replicate m 0) ≡ true
bytes_fresh zero m h = refl
bytes_fresh (suc n) zero h = absurd (omega arith)
bytes_fresh (suc n) (suc m) h = bytes_fresh n m (omega arith)
