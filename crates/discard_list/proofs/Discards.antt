-- Which discards stay by all plans, and those that the plans list behind them.
use Prim.Native.Nat.{ℕ, zero, suc, ◌+◌, ◌-◌, ◌≤◌, ◌<◌}
use native.Mathlib.Omega.{arith}
use mathlib.Core.Path.{◌≡◌, refl, sym, ap, transport, ◌∙◌}
use mathlib.Core.Bool.{Bool, true, false, ◌&&◌, cond}
use mathlib.Core.List.{List, [], ◌∷◌, ◌++◌}
use mathlib.Core.Option.{Option, none, some}
use lib.ListN.{length, drop, get_or, length-append}
use Rattle.definition.specs.Sizes.{surface_bytes, count_bytes}
use Rattle.definition.specs.Surfaces.{surface_at, layers_from, layers_of}
use Rattle.definition.specs.MemoryInit.{retain}
use Rattle.definition.specs.declared.Surface.{Surface}
use Rattle.definition.specs.declared.Range.{Range}
use Rattle.definition.specs.declared.MemoryInitKind.{MemoryInitKind}
use Rattle.laws.specs.Records.{records, Appended, Retained}
use Rattle.laws.specs.Plans.{Plan, staying_by, listed_by, leaving_all, staying_all, listed_all}
use Rattle.laws.proofs.Records.{records_length, past_more, append_count}
use Rattle.laws.proofs.Compact.{Compacting, compact_done}
use Rattle.laws.proofs.Plans.{none_leave}
use Rattle.lists.specs.Lists.{surface_of, count_in, surfaces_in, CountSet, SurfacesBecome}
use Rattle.lists.proofs.Lists.{becomes}
use Rattle.memory_init.specs.declared.Planned.{Planned}
use Rattle.memory_init.specs.Plans.{plans_in, plan_in}
use Rattle.memory_init.proofs.Turns.{plans_turn}
use Rattle.memory_init.proofs.Entries.{Parts}
use Rattle.discard_list.specs.Discards.{stays_by, stays, Keeps}

-- ── which discards stay

-- Two tests one after the other are both of them together.
retain_both : {A : Type 0} (f g : A → Bool) (a : List A) → retain g (retain f a) ≡ retain (λ x. f x && g x) a
retain_both f g [] = refl
retain_both f g (x ∷ a) = go (f x) (retain_both f g a)
  where
    go : (q : Bool) → retain g (retain f a) ≡ retain (λ x. f x && g x) a
        → retain g (cond q (x ∷ retain f a) (retain f a)) ≡ cond (q && g x) (x ∷ retain (λ x. f x && g x) a) (retain (λ x. f x && g x) a)
    go true ih = ap (λ l. cond (g x) (x ∷ l) l) ih
    go false ih = ih

-- A test that all pass keeps all.
retain_every : {A : Type 0} (a : List A) → retain (λ x. true) a ≡ a
retain_every [] = refl
retain_every (x ∷ a) = ap (λ l. x ∷ l) (retain_every a)

-- What stays by a plan are the discards that its test keeps.
staying_tested_by : (k : Option MemoryInitKind) (r : Range) (d : List Surface) → retain (stays_by k r) d ≡ staying_by k r d
staying_tested_by none r d = retain_every d
staying_tested_by (some k) r d = refl

-- What stays by all plans are the discards that each of their tests keeps.
pub staying_tested : (ps : List Plan) (d : List Surface) → retain (stays ps) d ≡ staying_all ps d
staying_tested [] d = retain_every d
staying_tested (p ∷ ps) d =
    sym (retain_both (stays_by p.kind p.range) (stays ps) d)
    ∙ ap (retain (stays ps)) (staying_tested_by p.kind p.range d)
    ∙ staying_tested ps (staying_by p.kind p.range d)

-- By the plans from place i on, of which the next answers b, a surface stays as by all.
module _ (ps : List Planned) (o : Planned) (s : Surface) (i : ℕ) (more : i < length ps) (left : stays (drop i (plans_in ps)) s ≡ stays (plans_in ps) s)
    (b : Bool) (asked : b ≡ stays_by (plan_in (get_or ps i o)).kind (get_or ps i o).range s) where
  -- The next one's answer and then that of those behind it is the answer of all.
  turned : (b && stays (drop (i + 1) (plans_in ps)) s) ≡ stays (plans_in ps) s
  turned =
      ap (λ q. q && stays (drop (i + 1) (plans_in ps)) s) asked
      ∙ sym (ap (λ l. stays l s) (plans_turn ps o i more))
      ∙ left

  -- It stays by the next: it stays as by those behind it.
  pub stays_further : b ≡ true → stays (drop (i + 1) (plans_in ps)) s ≡ stays (plans_in ps) s
  stays_further h = ap (λ q. q && stays (drop (i + 1) (plans_in ps)) s) (sym h) ∙ turned

  -- It leaves by the next: it leaves.
  pub stays_not : b ≡ false → false ≡ stays (plans_in ps) s
  stays_not h = ap (λ q. q && stays (drop (i + 1) (plans_in ps)) s) (sym h) ∙ turned

-- A compaction by the plans' test keeps what stays by all of them.
pub compact_stays : (ps : List Plan) {n kept i : ℕ} {l₀ l : List ℕ} → Compacting surface_bytes surface_of (stays ps) n l₀ l kept i → n ≤ i → Keeps (staying_all ps) n kept l₀ l
compact_stays ps {n = n} {l₀ = l₀} g h =
    let r : Retained surface_bytes surface_of (stays ps) n l₀ _ _ = compact_done g h in
    record { first = r.first ∙ staying_tested ps (records surface_bytes surface_of n l₀); past = r.past; fewer = omega (arith, g.behind, g.within) }

-- ── what the plans list

-- The discards that each plan lists.
abbrev pub listed : Parts Surface
listed = record { one = listed_by; all = listed_all; last = refl; next = λ p ps. refl }

-- The layers of a range that are left behind the first i.
abbrev pub layers_left : Range → ℕ → List Surface
layers_left r i = layers_from r.texture r.mip r.slice (r.layer + i) (r.layers - i)

-- All of them.
pub layers_start : (r : Range) → layers_of r ≡ layers_left r 0
layers_start r =
    let first : r.layer ≡ r.layer + 0 = omega arith in
    let all : r.layers ≡ r.layers - 0 = omega arith in
    λ q. layers_from r.texture r.mip r.slice (first q) (all q)

-- The next of them, and those behind it.
pub layers_turn : (r : Range) (i : ℕ) (s : Surface) → i < r.layers → s ≡ surface_at r.texture r.mip (r.layer + i) r.slice → layers_left r i ≡ (s ∷ []) ++ layers_left r (i + 1)
layers_turn r i s more e =
    let left : r.layers - i ≡ suc (r.layers - (i + 1)) = omega (arith, more) in
    let next : r.layer + i + 1 ≡ r.layer + (i + 1) = omega arith in
    ap (layers_from r.texture r.mip r.slice (r.layer + i)) left
    ∙ (λ q. sym e q ∷ layers_from r.texture r.mip r.slice (next q) (r.layers - (i + 1)))

-- Behind the last there is none.
pub layers_done : (r : Range) (i : ℕ) → r.layers ≤ i → layers_left r i ≡ []
layers_done r i h = ap (layers_from r.texture r.mip r.slice (r.layer + i)) (let e : r.layers - i ≡ zero = omega (arith, h) in e)

-- ── what stays, and then what is listed

-- What is kept of n records is kept of as many, in bytes that are the same.
pub keeps_as : {f : List Surface → List Surface} {n m r r' : ℕ} {l b b' : List ℕ} → n ≡ m → r' ≡ r → b' ≡ b → Keeps f n r l (drop count_bytes b) → Keeps f m r' l (drop count_bytes b')
keeps_as {f = f} {l = l} en er eb = transport (λ q. Keeps f (en q) (sym er q) l (drop count_bytes (sym eb q)))

-- Where none leaves all are kept.
pub keeps_all : (ps : List Plan) (n : ℕ) (l : List ℕ) → length (leaving_all ps (records surface_bytes surface_of n l)) ≡ 0 → Keeps (staying_all ps) n n l l
keeps_all ps n l h = record { first = sym (none_leave ps (records surface_bytes surface_of n l) h); past = refl; fewer = omega arith }

-- Some are kept, and ys come behind them.
module _ {f : List Surface → List Surface} (b : List ℕ) {kept : ℕ} {l : List ℕ} (g : Keeps f (count_in b) kept (drop count_bytes b) l) (ys : List Surface) where
  -- How many there are with those.
  pub keeps_count : kept + length ys ≡ length (f (surfaces_in b) ++ ys)
  keeps_count = omega (arith, records_length surface_bytes surface_of kept l, ap length g.first, length-append (f (surfaces_in b)) ys)

  -- All are written, and counted.
  pub keeps_becomes : {end : ℕ} {b₁ b₂ : List ℕ} → Appended surface_bytes surface_of kept ys l (drop count_bytes b₁) end → CountSet end b₁ b₂ → SurfacesBecome (f (surfaces_in b) ++ ys) b b₂
  keeps_becomes {end = end} {b₁ = b₁} a s =
      let most : kept ≤ end = omega (arith, append_count surface_bytes surface_of kept end ys l (drop count_bytes b₁) a) in
      becomes b (drop count_bytes b₁) (a.first ∙ ap (λ x. x ++ ys) g.first) (a.past ∙ past_more surface_bytes surface_of kept end (drop count_bytes b) l most g.past) s refl
