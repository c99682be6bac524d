-- Appending, for each record of one list that passes a test, a record to another: what is appended so far is made of those that passing k decode p src so far.
use Prim.Native.Nat.{ℕ, zero, suc, ◌+◌, ◌-◌, ◌*◌, ◌≤◌, ◌<◌, zero-le}
use native.Mathlib.Nat.{add-zero, add-suc}
use native.Mathlib.Omega.{arith}
use mathlib.Core.Path.{◌≡◌, refl, sym, ap, ◌∙◌, transport}
use mathlib.Core.Bool.{Bool, true, false}
use mathlib.Core.List.{List, [], ◌∷◌, ◌++◌, map, map-append, append_assoc, append-nil}
use lib.ListN.{length, drop, length-append}
use Rattle.definition.specs.MemoryInit.{retain}
use Rattle.laws.specs.Records.{record_at, records, Written, Appended}
use Rattle.laws.proofs.Lists.{retain_append, retain_yes, retain_no}
use Rattle.laws.proofs.Records.{records_suc, retain_read, past_more, write_appends, write_spares}

-- More records, more that pass.
retain_more : {A : Type 0} (p : A → Bool) (xs ys : List A) → length (retain p xs) ≤ length (retain p (xs ++ ys))
retain_more p xs ys = omega (arith, ap length (retain_append p xs ys), length-append (retain p xs) (retain p ys))

module _ {A : Type 0} (k : ℕ) (decode : List ℕ → A) (p : A → Bool) (l : List ℕ) where
  abbrev passing : ℕ → List A
  passing n = retain p (records k decode n l)

  passing_by : (i d : ℕ) → length (passing i) ≤ length (passing (i + d))
  passing_by i zero = rw add-zero (omega arith)
  passing_by i (suc d) =
      omega (
        arith,
        passing_by i d,
        retain_more p (records k decode (i + d) l) (record_at k decode (i + d) l ∷ []),
        ap (λ (q : ℕ). length (passing q)) (add-suc i d),
        ap (λ (x : List A). length (retain p x)) (records_suc k decode (i + d) l),
      )

  pub passing_more : (i n : ℕ) → i ≤ n → length (passing i) ≤ length (passing n)
  passing_more i n h =
      let e : i + (n - i) ≡ n = omega arith in
      omega (arith, passing_by i (n - i), ap (λ (q : ℕ). length (passing q)) e)

-- From the records of `src`, by the test p and the function f, onto the records of another list, of which the first x were there:
-- i of the n records are read, and the other list has y.
pub record Extending {A B : Type 0} (k : ℕ) (decode : List ℕ → A) (p : A → Bool) (f : A → B) (k_b : ℕ) (decode_b : List ℕ → B) (n : ℕ) (src : List ℕ) (x : ℕ) (l₀ l : List ℕ) (y i : ℕ) : Type 0 where
  pub within : i ≤ n
  pub count : y ≡ x + length (retain p (records k decode i src))
  pub long : length l ≡ length l₀
  pub first : records k_b decode_b y l ≡ records k_b decode_b x l₀ ++ map f (retain p (records k decode i src))
  pub past : drop (k_b * y) l ≡ drop (k_b * y) l₀

module _ {A B : Type 0} {k : ℕ} {decode : List ℕ → A} {p : A → Bool} {f : A → B} {k_b : ℕ} {decode_b : List ℕ → B} {n : ℕ} {src : List ℕ} {x : ℕ} {l₀ : List ℕ} where
  pub extend_start : Extending k decode p f k_b decode_b n src x l₀ l₀ x 0
  unfolding records
  extend_start = record { within = zero-le; count = omega arith; long = refl; first = sym (append-nil (records k_b decode_b x l₀)); past = refl }

  -- A turn reads the record s and asks b of it.
  module _ {l : List ℕ} {y i : ℕ} (g : Extending k decode p f k_b decode_b n src x l₀ l y i) (more : i < n) {s : A} (read : s ≡ record_at k decode i src) {b : Bool} (asked : b ≡ p s) where
    one_more : b ≡ true → passing k decode p src (i + 1) ≡ passing k decode p src i ++ (s ∷ [])
    one_more h = retain_read k decode p i src s read ∙ retain_yes p (records k decode i src) s (sym asked ∙ h)

    counted : b ≡ true → length (passing k decode p src (i + 1)) ≡ length (passing k decode p src i) + 1
    counted h = ap length (one_more h) ∙ length-append (passing k decode p src i) (s ∷ [])

    -- There is room for one that passes where there is room for all.
    pub extend_room : b ≡ true → y + 1 ≤ x + length (passing k decode p src n)
    extend_room h = omega (arith, g.count, counted h, passing_more k decode p src (i + 1) n (omega arith))

    adds : (l' : List ℕ) → b ≡ true → Written k_b decode_b y (f s) l l' → Extending k decode p f k_b decode_b n src x l₀ l' (y + 1) (i + 1)
    adds l' h w = record {
      within = omega arith;
      count = omega (arith, g.count, counted h);
      long = w.long ∙ g.long;
      first = write_appends k_b decode_b y (f s) l l' w ∙ ap (λ q. q ++ (f s ∷ [])) g.first ∙ append_assoc (records k_b decode_b x l₀) _ _
          ∙ ap (λ q. records k_b decode_b x l₀ ++ q) (sym (ap (map f) (one_more h) ∙ map-append f (passing k decode p src i) (s ∷ [])));
      past = write_spares k_b decode_b y (f s) l l' w (y + 1) (omega arith) ∙ past_more k_b decode_b y (y + 1) l₀ l (omega arith) g.past;
    }

    skips : b ≡ false → Extending k decode p f k_b decode_b n src x l₀ l y (i + 1)
    skips h =
        let none : passing k decode p src i ≡ passing k decode p src (i + 1) = sym (retain_read k decode p i src s read ∙ retain_no p (records k decode i src) s (sym asked ∙ h)) in
        record {
          within = omega arith;
          count = g.count ∙ ap (λ (q : List A). x + length q) none;
          long = g.long;
          first = g.first ∙ ap (λ q. records k_b decode_b x l₀ ++ map f q) none;
          past = g.past;
        }

    -- The two ways of a turn, at the values that it leaves: one that passes is written where there is room, and else all stays.
    pub extend_adds : {l' : List ℕ} {y' : ℕ} → b ≡ true → (y + 1 ≤ x + length (passing k decode p src n) → Written k_b decode_b y (f s) l l') → y' ≡ y + 1 → Extending k decode p f k_b decode_b n src x l₀ l' y' (i + 1)
    extend_adds {l' = l'} h w e = transport (λ j. Extending k decode p f k_b decode_b n src x l₀ l' (sym e j) (i + 1)) (adds l' h (w (extend_room h)))

    pub extend_skips : {l' : List ℕ} {y' : ℕ} → b ≡ false → l' ≡ l → y' ≡ y → Extending k decode p f k_b decode_b n src x l₀ l' y' (i + 1)
    extend_skips h el e = transport (λ j. Extending k decode p f k_b decode_b n src x l₀ (sym el j) (sym e j) (i + 1)) (skips h)

  -- All are read.
  pub extend_done : {l : List ℕ} {y i : ℕ} → Extending k decode p f k_b decode_b n src x l₀ l y i → n ≤ i → Appended k_b decode_b x (map f (passing k decode p src n)) l₀ l y
  extend_done {i = i} g d =
      let e : i ≡ n = omega (arith, g.within) in
      record { first = g.first ∙ ap (λ (j : ℕ). records k_b decode_b x l₀ ++ map f (passing k decode p src j)) e; past = g.past }
