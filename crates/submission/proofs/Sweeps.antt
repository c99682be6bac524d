-- A run of bytes is a sweep over the layers of a mip of a range, and the mips one after the other are a sweep over the range.
use Prim.Native.Nat.{ℕ, zero, suc, ◌+◌, ◌-◌, ◌≤◌, ◌<◌}
use native.Mathlib.Nat.{mul-le-mul}
use native.Mathlib.Omega.{arith}
use native.Mathlib.Numerals.{add-one}
use mathlib.Core.Path.{◌≡◌, refl, sym, ap, ap₂, subst, ◌∙◌}
use mathlib.Core.Bool.{Bool, true, false, ◌&&◌, ◌||◌, cond, and-false}
use mathlib.Core.List.{List, [], ◌∷◌, ◌++◌}
use lib.Dec.{leb, ltb, eqb}
use lib.ListN.{length, get_or, set, take, drop}
use lib.Seq.{take_all, length-take-le}
use borrow.Author.Tests.{leb-true, ltb-true, eqb-true, eqb-false, le-leb, lt-ltb}
use Rattle.definition.specs.Sizes.{surface_bytes, action_bytes, count_bytes}
use Rattle.definition.specs.Surfaces.{surface_at, range_at, same, within, hits}
use Rattle.definition.specs.Session.{Session, array_layers, mips_before, surface_count, surface_index, surfaces_of}
use Rattle.definition.specs.Status.{restart, act_byte, empty_byte}
use Rattle.definition.specs.Submission.{submit_bytes}
use Rattle.definition.specs.declared.Surface.{Surface}
use Rattle.definition.specs.declared.Texture.{Texture}
use Rattle.definition.specs.declared.Range.{Range}
use Rattle.definition.specs.declared.Action.{Action}
use Rattle.definition.specs.declared.MemoryInitKind.{MemoryInitKind}
use Rattle.laws.specs.Plans.{action_of}
use Rattle.laws.specs.Surfaces.{Inside, RangeInside}
use Rattle.laws.specs.Submission.{sweep, act_at, empty_at, sweep_acts}
use Rattle.laws.proofs.Tests.{or_factor, bool_iff, and_left, and_right, and_on, or_on_left, or_on_right}
use Rattle.laws.proofs.Surfaces.{within_none, within_one}
use Rattle.laws.proofs.Status.{act_twice}
use Rattle.laws.proofs.Views.{slices_some, slices_later}
use Rattle.laws.proofs.Places.{surfaces_counted, place_counted}
use Rattle.laws.proofs.Submission.{sweep_length, sweep_past, sweep_turn, sweep_same, sweep_either, sweep_only, sweeps_append, empties_append, submit_sweeps}
use Rattle.laws.specs.Records.{records}
use Rattle.laws.proofs.Records.{records_suc}
use Rattle.lists.specs.Lists.{surface_of, action_of_bytes, count_in, surfaces_in, actions_in, surface_in, action_in, first_surfaces, first_actions}
use Rattle.submission.specs.Runs.{run, first_mips, mip_of}

-- ── ranges, one layer and one mip further

within_last : (a n x : ℕ) → within a (suc n) x ≡ (within a n x || eqb x (a + n))
unfolding within
within_last a n x = bool_iff (leb a x && ltb x (a + suc n)) (leb a x && ltb x (a + n) || eqb x (a + n)) to from
  where
    to : (leb a x && ltb x (a + suc n)) ≡ true → (leb a x && ltb x (a + n) || eqb x (a + n)) ≡ true
    to h = go (eqb x (a + n)) refl
      where
        low : a ≤ x
        low = leb-true a x (and_left (leb a x) (ltb x (a + suc n)) h)

        high : x < a + suc n
        high = ltb-true x (a + suc n) (and_right (leb a x) (ltb x (a + suc n)) h)

        go : (b : Bool) → eqb x (a + n) ≡ b → (leb a x && ltb x (a + n) || eqb x (a + n)) ≡ true
        go true e = or_on_right (leb a x && ltb x (a + n)) (eqb x (a + n)) e
        go false e =
            or_on_left (leb a x && ltb x (a + n)) (eqb x (a + n))
            (and_on (leb a x) (ltb x (a + n)) (le-leb a x low) (lt-ltb x (a + n) (omega (arith, eqb-false x (a + n) e, low, high))))

    from : (leb a x && ltb x (a + n) || eqb x (a + n)) ≡ true → (leb a x && ltb x (a + suc n)) ≡ true
    from h = go (leb a x && ltb x (a + n)) refl
      where
        go : (b : Bool) → (leb a x && ltb x (a + n)) ≡ b → (leb a x && ltb x (a + suc n)) ≡ true
        go true e =
            and_on (leb a x) (ltb x (a + suc n)) (and_left (leb a x) (ltb x (a + n)) e)
            (lt-ltb x (a + suc n) (omega (arith, ltb-true x (a + n) (and_right (leb a x) (ltb x (a + n)) e))))
        go false e =
            let z : x ≡ a + n = eqb-true x (a + n) (ap (λ q. q || eqb x (a + n)) (sym e) ∙ h) in
            and_on (leb a x) (ltb x (a + suc n)) (le-leb a x (omega arith)) (lt-ltb x (a + suc n) (omega arith))

-- One layer of the mip m more.
layer_further : (t m l n k : ℕ) (u : Surface) → hits (range_at t m 1 l (suc n) k) u ≡ (hits (range_at t m 1 l n k) u || same u (surface_at t m (l + n) k))
unfolding hits same
layer_further t m l n k u =
    let before : Bool → Bool = λ q. (eqb u.texture t && q) && eqb u.slice k in
    ap (λ q. before (within m 1 u.mip) && q) (within_last l n u.layer)
    ∙ sym (or_factor (before (within m 1 u.mip)) (within l n u.layer) (eqb u.layer (l + n)))
    ∙ ap (λ q. (before (within m 1 u.mip) && within l n u.layer) || (before q && eqb u.layer (l + n))) (within_one m u.mip)

-- One mip of a range more.
mip_further : (r : Range) (n : ℕ) (u : Surface) → hits (first_mips r (suc n)) u ≡ (hits (first_mips r n) u || hits (mip_of r n) u)
unfolding hits
mip_further r n u =
    ap (λ q. ((eqb u.texture r.texture && q) && eqb u.slice r.slice) && within r.layer r.layers u.layer)
    (within_last r.mip n u.mip ∙ ap (λ q. within r.mip n u.mip || q) (sym (within_one (r.mip + n) u.mip)))
    ∙ spread (eqb u.texture r.texture) (within r.mip n u.mip) (within (r.mip + n) 1 u.mip) (eqb u.slice r.slice) (within r.layer r.layers u.layer)
  where
    spread : (a w v k l : Bool) → (((a && (w || v)) && k) && l) ≡ ((((a && w) && k) && l) || (((a && v) && k) && l))
    spread true true true true true = refl
    spread true true true true false = refl
    spread true true true false l = refl
    spread true true false true true = refl
    spread true true false true false = refl
    spread true true false false l = refl
    spread true false v k l = refl
    spread false w v k l = refl

-- ── sweeps

sweep_idle : (f : Surface → ℕ → ℕ) → ((s : Surface) (b : ℕ) → f s b ≡ b) → (ss : List Surface) (bs : List ℕ) → sweep f ss bs ≡ bs
sweep_idle f h [] bs = refl
sweep_idle f h (s ∷ ss) [] = refl
sweep_idle f h (s ∷ ss) (b ∷ bs) = ap₂ ◌∷◌ (h s b) (sweep_idle f h ss bs)

-- A function at every surface of a range.
abbrev pub acting : (ℕ → ℕ) → Range → Surface → ℕ → ℕ
acting g r u b = cond (hits r u) (g b) b

-- ── a range

-- There is a surface in each mip.
mips_some : (x : Texture) (n : ℕ) → 1 ≤ array_layers x → n ≤ mips_before x n
unfolding mips_before
mips_some x zero h = omega arith
mips_some x (suc n) h = omega (arith, mips_some x n h, mul-le-mul (slices_some x n) h)

module _ (S : Session) (r : Range) (ok : RangeInside S r) where
  -- Layer j of mip m of the range.
  abbrev pub part : ℕ → ℕ → Surface
  part m j = surface_at r.texture (r.mip + m) (r.layer + j) r.slice

  part_inside : (m j : ℕ) → m < r.mips → j < r.layers → Inside S (part m j)
  part_inside m j hm hj = record {
    texture = ok.texture;
    mip = omega (arith, ok.mips);
    layer = omega (arith, ok.layers);
    slice = omega (arith, ok.slice, slices_later (S.texture r.texture) (r.mip + m) (r.mip + r.mips - 1) (omega arith));
  }

  -- The first layer of mip m.
  abbrev pub first : ℕ → Surface
  first m = surface_at r.texture (r.mip + m) r.layer r.slice

  pub first_inside : (m : ℕ) → m < r.mips → Inside S (first m)
  first_inside m hm =
      let e : r.layer + 0 ≡ r.layer = omega arith in
      subst (λ l. Inside S (surface_at r.texture (r.mip + m) l r.slice)) e (part_inside m 0 hm (omega (arith, ok.some_layer)))

  -- The number of a mip is small, since there are no fewer surfaces before it.
  pub mip_fits : (m : ℕ) → m < r.mips → r.mip + m < surface_count S
  mip_fits m hm = omega (arith, place_counted S (first m) (first_inside m hm), mips_some (S.texture r.texture) (r.mip + m) (omega (arith, ok.some_layer, ok.layers)))

  pub run_fits : (m : ℕ) → m < r.mips → surface_index S (first m) + r.layers ≤ surface_count S
  run_fits m hm = omega (arith, ok.some_layer, place_counted S (part m (r.layers - 1)) (part_inside m (r.layers - 1) hm (omega (arith, ok.some_layer))))

  module _ (g : ℕ → ℕ) (twice : (b : ℕ) → g (g b) ≡ g b) where
    no_layers : (m : ℕ) (u : Surface) → hits (range_at r.texture m 1 r.layer 0 r.slice) u ≡ false
    unfolding hits
    no_layers m u =
        let before : Bool = (eqb u.texture r.texture && within m 1 u.mip) && eqb u.slice r.slice in
        ap (λ q. before && q) (within_none r.layer u.layer) ∙ and-false before

    -- The first n layers of a mip of the range.
    run_sweeps : (m n : ℕ) (bytes : List ℕ) → m < r.mips → n ≤ r.layers → surface_count S ≤ length bytes
        → run g (surface_index S (first m)) n bytes ≡ sweep (acting g (range_at r.texture (r.mip + m) 1 r.layer n r.slice)) (surfaces_of S) bytes
    unfolding run
    run_sweeps m zero bytes hm hn room =
        sym (sweep_idle (acting g (range_at r.texture (r.mip + m) 1 r.layer 0 r.slice)) (λ u b. ap (λ q. cond q (g b) b) (no_layers (r.mip + m) u)) (surfaces_of S) bytes)
    run_sweeps m (suc n) bytes hm hn room =
        let s : Surface = part m n in
        let next : surface_index S (first m) + n ≡ surface_index S s = omega arith in
        let layers : ℕ → Range = λ c. range_at r.texture (r.mip + m) 1 r.layer c r.slice in
        let so_far = sweep (acting g (layers n)) (surfaces_of S) bytes in
        (λ q. let x = run_sweeps m n bytes hm (omega arith) room q in set x (next q) (g (get_or x (next q) 0)))
        ∙ sym (sweep_only S g s (part_inside m n hm (omega arith)) so_far (omega (arith, sweep_length (acting g (layers n)) (surfaces_of S) bytes)))
        ∙ sweep_either g twice (λ u. hits (layers n) u) (λ u. same u s) (surfaces_of S) bytes
        ∙ sweep_same (λ u b. cond (hits (layers n) u || same u s) (g b) b) (acting g (layers (suc n)))
        (λ u b. ap (λ q. cond q (g b) b) (sym (layer_further r.texture (r.mip + m) r.layer n r.slice u))) (surfaces_of S) bytes

  module _ (k : MemoryInitKind) where
    abbrev swept : Range → List ℕ → List ℕ
    swept x bytes = sweep (act_at (action_of x k)) (surfaces_of S) bytes

    -- A mip of the range.
    pub mip_sweeps : (m at n : ℕ) (bytes : List ℕ) → m < r.mips → surface_count S ≤ length bytes → at ≡ surface_index S (first m) → n ≡ r.layers
        → run (act_byte k) at n bytes ≡ swept (mip_of r m) bytes
    mip_sweeps m at n bytes hm room ea en = (λ q. run (act_byte k) (ea q) (en q) bytes) ∙ run_sweeps (act_byte k) (act_twice k) m r.layers bytes hm (omega arith) room

    -- No mip, and one more.
    no_mips : (u : Surface) → hits (first_mips r 0) u ≡ false
    unfolding hits
    no_mips u =
        ap (λ q. ((eqb u.texture r.texture && q) && eqb u.slice r.slice) && within r.layer r.layers u.layer) (within_none r.mip u.mip)
        ∙ ap (λ q. (q && eqb u.slice r.slice) && within r.layer r.layers u.layer) (and-false (eqb u.texture r.texture))

    pub mips_none : (bytes : List ℕ) → bytes ≡ swept (first_mips r 0) bytes
    mips_none bytes = sym (sweep_idle (acting (act_byte k) (first_mips r 0)) (λ u b. ap (λ q. cond q (act_byte k b) b) (no_mips u)) (surfaces_of S) bytes)

    pub mips_further : (m : ℕ) (bytes₀ bytes bytes' : List ℕ) → bytes ≡ swept (first_mips r m) bytes₀ → bytes' ≡ swept (mip_of r m) bytes → bytes' ≡ swept (first_mips r (m + 1)) bytes₀
    mips_further m bytes₀ bytes bytes' e e' =
        e'
        ∙ ap (swept (mip_of r m)) e
        ∙ sweep_either (act_byte k) (act_twice k) (λ u. hits (first_mips r m) u) (λ u. hits (mip_of r m) u) (surfaces_of S) bytes₀
        ∙ sweep_same (λ u b. cond (hits (first_mips r m) u || hits (mip_of r m) u) (act_byte k b) b) (acting (act_byte k) (first_mips r (suc m)))
        (λ u b. ap (λ q. cond q (act_byte k b) b) (sym (mip_further r m u))) (surfaces_of S) bytes₀
        ∙ ap (λ (q : ℕ). swept (first_mips r q) bytes₀) (sym (add-one m))

-- ── the steps of a submission

-- The bytes begin.
pub restart_sweeps : (ss : List Surface) (n : ℕ) (bytes : List ℕ) → length ss ≤ length bytes → n ≤ length ss → run restart 0 n bytes ≡ sweep (λ s b. restart b) (take n ss) bytes
unfolding run
restart_sweeps ss zero bytes room h = refl
restart_sweeps ss (suc n) bytes room h =
    let at : 0 + n ≡ n = omega arith in
    let same_byte : get_or (sweep (λ s b. restart b) (take n ss) bytes) n 0 ≡ get_or bytes n 0 =
    sweep_past (λ s b. restart b) (take n ss) bytes n (omega (arith, length-take-le n ss (omega arith))) in
    (λ q. let r = restart_sweeps ss n bytes room (omega arith) q in set r (at q) (restart (get_or r (at q) 0)))
    ∙ ap (λ b. set (sweep (λ s b. restart b) (take n ss) bytes) n (restart b)) same_byte
    ∙ sym (sweep_turn (λ s b. restart b) ss bytes n (surface_at 0 0 0 0) (omega arith) (omega arith))
    ∙ ap (λ (q : ℕ). sweep (λ s b. restart b) (take q ss) bytes) (add-one n)

pub restart_all : (S : Session) (bytes : List ℕ) → surface_count S ≤ length bytes → run restart 0 (surface_count S) bytes ≡ sweep (λ s b. restart b) (surfaces_of S) bytes
restart_all S bytes room =
    restart_sweeps (surfaces_of S) (surface_count S) bytes (omega (arith, surfaces_counted S)) (omega (arith, surfaces_counted S))
    ∙ ap (λ ss. sweep (λ s b. restart b) ss bytes) (take_all (surface_count S) (surfaces_of S) (omega (arith, surfaces_counted S)))

-- No action and no discard.
pub actions_none : (S : Session) (l bytes : List ℕ) → bytes ≡ sweep_acts (first_actions 0 l) (surfaces_of S) bytes
unfolding records
actions_none S l bytes = refl

pub discards_none : (S : Session) (l bytes : List ℕ) → bytes ≡ sweep (empty_at (first_surfaces 0 l)) (surfaces_of S) bytes
unfolding records
discards_none S l bytes = sym (sweep_idle (empty_at []) (λ s b. refl) (surfaces_of S) bytes)

-- One action more.
pub action_further : (S : Session) (l : List ℕ) (i : ℕ) (r : Range) (k : MemoryInitKind) (bytes₀ bytes bytes' : List ℕ) → r ≡ (action_in i l).range → k ≡ (action_in i l).kind
    → bytes ≡ sweep_acts (first_actions i l) (surfaces_of S) bytes₀ → bytes' ≡ sweep (act_at (action_of r k)) (surfaces_of S) bytes → bytes' ≡ sweep_acts (first_actions (i + 1) l) (surfaces_of S) bytes₀
action_further S l i r k bytes₀ bytes bytes' er ek e e' =
    e'
    ∙ (λ q. sweep (act_at (action_of (er q) (ek q))) (surfaces_of S) (e q))
    ∙ sym (sweeps_append (first_actions i l) (action_in i l ∷ []) (surfaces_of S) bytes₀)
    ∙ ap (λ a. sweep_acts a (surfaces_of S) bytes₀) (sym (records_suc action_bytes action_of_bytes i (drop count_bytes l)) ∙ ap (λ (q : ℕ). first_actions q l) (sym (add-one i)))

-- One discard more.
pub discard_further : (S : Session) (l : List ℕ) (i at b : ℕ) (s : Surface) (bytes₀ bytes : List ℕ) → s ≡ surface_in i l → Inside S s → surface_count S ≤ length bytes₀
    → bytes ≡ sweep (empty_at (first_surfaces i l)) (surfaces_of S) bytes₀ → at ≡ surface_index S s → b ≡ empty_byte (get_or bytes at 0)
    → set bytes at b ≡ sweep (empty_at (first_surfaces (i + 1) l)) (surfaces_of S) bytes₀
discard_further S l i at b s bytes₀ bytes es ok room e ea eb =
    ap (set bytes at) eb
    ∙ (λ q. set (e q) (ea q) (empty_byte (get_or (e q) (ea q) 0)))
    ∙ sym (sweep_only S empty_byte s ok so_far (omega (arith, sweep_length (empty_at (first_surfaces i l)) (surfaces_of S) bytes₀)))
    ∙ sweep_same (λ t c. cond (same t s) (empty_byte c) c) (empty_at (s ∷ [])) (λ t c. ap (λ q. cond q (empty_byte c) c) (sym (or-false (same t s)))) (surfaces_of S) so_far
    ∙ empties_append (first_surfaces i l) (s ∷ []) (surfaces_of S) bytes₀
    ∙ ap (λ d. sweep (empty_at d) (surfaces_of S) bytes₀)
    (ap (λ x. first_surfaces i l ++ (x ∷ [])) es ∙ sym (records_suc surface_bytes surface_of i (drop count_bytes l)) ∙ ap (λ (q : ℕ). first_surfaces q l) (sym (add-one i)))
  where
    so_far : List ℕ
    so_far = sweep (empty_at (first_surfaces i l)) (surfaces_of S) bytes₀

    or-false : (a : Bool) → (a || false) ≡ a
    or-false true = refl
    or-false false = refl

-- The whole.
pub submit_all : (S : Session) (a : List Action) (d : List Surface) (bytes b₁ b₂ b₃ : List ℕ) (n : ℕ) → surface_count S ≤ length bytes → n ≡ surface_count S → b₁ ≡ run restart 0 n bytes
    → b₂ ≡ sweep_acts a (surfaces_of S) b₁ → b₃ ≡ sweep (empty_at d) (surfaces_of S) b₂ → b₃ ≡ submit_bytes a d (surfaces_of S) bytes
submit_all S a d bytes b₁ b₂ b₃ n room e₀ e₁ e₂ e₃ =
    e₃
    ∙ ap (sweep (empty_at d) (surfaces_of S)) (e₂ ∙ ap (sweep_acts a (surfaces_of S)) (e₁ ∙ ap (λ (q : ℕ). run restart 0 q bytes) e₀ ∙ restart_all S bytes room))
    ∙ sym (submit_sweeps a d (surfaces_of S) bytes)

-- The whole of two empty lists: the bytes begin.
pub submit_none : (S : Session) (d a bytes b₁ : List ℕ) (n : ℕ) → surface_count S ≤ length bytes → count_in d ≡ 0 → count_in a ≡ 0 → n ≡ surface_count S → b₁ ≡ run restart 0 n bytes
    → b₁ ≡ submit_bytes (actions_in a) (surfaces_in d) (surfaces_of S) bytes
submit_none S d a bytes b₁ n room ed ea e₀ e₁ =
    submit_all S (actions_in a) (surfaces_in d) bytes b₁ b₁ b₁ n room e₀ e₁
    (actions_none S a b₁ ∙ ap (λ (q : ℕ). sweep_acts (first_actions q a) (surfaces_of S) b₁) (sym ea))
    (discards_none S d b₁ ∙ ap (λ (q : ℕ). sweep (empty_at (first_surfaces q d)) (surfaces_of S) b₁) (sym ed))
