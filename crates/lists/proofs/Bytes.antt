-- Numbers and records in bytes: what is written is read back, and stands in the list as a record.
use Prim.Native.Nat.{ℕ, suc, ◌+◌, ◌*◌, ◌/◌, ◌%◌, ◌^◌, ◌≤◌, ◌<◌}
use native.Mathlib.Nat.{add-zero}
use native.Mathlib.Omega.{arith}
use mathlib.Core.Path.{◌≡◌, refl, sym, ap, ◌∙◌}
use mathlib.Core.List.{List, [], ◌∷◌, ◌++◌}
use lib.ListN.{length, take, drop, get_or, set, length-drop}
use lib.Seq.{sets, sets-eq, drop-set-add, get_or-drop}
use Rattle.definition.specs.Sizes.{surface_bytes, action_bytes, count_bytes, list_bytes}
use Rattle.definition.specs.Bytes.{u32_at}
use Rattle.definition.specs.Surfaces.{surface_at, range_at}
use Rattle.definition.specs.declared.Surface.{Surface}
use Rattle.definition.specs.declared.Range.{Range}
use Rattle.definition.specs.declared.MemoryInitKind.{MemoryInitKind}
use Rattle.definition.specs.declared.MemoryInitKind.TheVariants.{ImplicitlyInitialized, NeedsInitializedMemory}
use Rattle.laws.specs.Plans.{action_of}
use Rattle.laws.specs.Records.{record_at, Written}
use Rattle.laws.proofs.Records.{number_at, written}
use Rattle.encoding.proofs.Reading.{four}
use Rattle.std.proofs.lemmas.Nat.{from_le_bytes-to_le_bytes_4}
use Rattle.lists.specs.Lists.{bytes_of, surface_of, bytes_of_surface, kind_of, number_of, layers_by, action_of_bytes, bytes_of_action, surface_in, action_in, CountSet}

-- ── stores one after the other

-- The stores of two lists in a row are those of the first, and then those of the second behind it.
sets_append : (a b l : List ℕ) (i : ℕ) → sets l i (a ++ b) ≡ sets (sets l i a) (i + length a) b
sets_append [] b l i = ap (λ (q : ℕ). sets l q b) (sym (add-zero i))
sets_append (v ∷ a) b l i = sets_append a b (set l i v) (suc i) ∙ ap (λ (q : ℕ). sets (sets (set l i v) (suc i) a) q b) (omega arith)

-- Stores past the first n, seen behind them.
drop_sets : (n : ℕ) (vs l : List ℕ) (i : ℕ) → drop n (sets l (n + i) vs) ≡ sets (drop n l) i vs
drop_sets n [] l i = refl
drop_sets n (v ∷ vs) l i =
    let e : suc (n + i) ≡ n + suc i = omega arith in
    ap (λ (q : ℕ). drop n (sets (set l (n + i) v) q vs)) e ∙ drop_sets n vs (set l (n + i) v) (suc i) ∙ ap (λ q. sets q (suc i) vs) (drop-set-add n l i v)

-- Bytes behind bytes that are written.
next : (a v b b₁ b₂ : List ℕ) (at p : ℕ) → b₁ ≡ sets b at a → p ≡ at + length a → b₂ ≡ sets b₁ p v → b₂ ≡ sets b at (a ++ v)
next a v b b₁ b₂ at p e h f = f ∙ ap (λ q. sets q p v) e ∙ ap (λ (q : ℕ). sets (sets b at a) q v) h ∙ sym (sets_append a v b at)

-- ── numbers

-- The bytes of a u32 are read as the number.
digits : (n : ℕ) → n < 4294967296 → n % 256 + 256 * (n / 256 % 256) + 65536 * (n / 65536 % 256) + 16777216 * (n / 16777216 % 256) ≡ n
digits n h = omega (arith, from_le_bytes-to_le_bytes_4 n h)

-- A count that is written at the front.
pub counted : (b b' : List ℕ) (n : ℕ) → count_bytes ≤ length b → n < 4294967296 → b' ≡ sets b 0 (bytes_of n) → CountSet n b b'
unfolding u32_at
counted b b' n h l e =
    let parts : b' ≡ bytes_of n ++ drop count_bytes b = e ∙ sets-eq (bytes_of n) b 0 (omega arith) in
    record { count = ap (λ q. u32_at q 0) parts ∙ digits n l; behind = ap (drop count_bytes) parts }

-- ── records

-- One byte of a record, where it stands.
byte_in : (k i j : ℕ) (b : List ℕ) → j < k → get_or (take k (drop (k * i) (drop count_bytes b))) j 0 ≡ get_or b (count_bytes + (k * i + j)) 0
byte_in k i j b h = number_at k i j (drop count_bytes b) h ∙ get_or-drop count_bytes b (k * i + j) 0

-- One number of a record, where it stands.
number_in : (k i j at : ℕ) (b : List ℕ) → j + 4 ≤ k → at ≡ list_bytes k i + j → u32_at b at ≡ u32_at (take k (drop (k * i) (drop count_bytes b))) j
unfolding u32_at
number_in k i j at b h e =
    let place : ℕ → ℕ = λ o. count_bytes + (k * i + o) in
    sym (four b at (place j) (place (j + 1)) (place (j + 2)) (place (j + 3)) _ _ _ _
    (byte_in k i j b (omega arith)) (byte_in k i (j + 1) b (omega arith)) (byte_in k i (j + 2) b (omega arith)) (byte_in k i (j + 3) b (omega arith))
    (omega arith) (omega arith) (omega arith) (omega arith))

-- b' is b with the number x at a place, and x is a u32.
abbrev Put : List ℕ → ℕ → ℕ → List ℕ → Type 0
Put b at x b' = record { written : b' ≡ sets b at (bytes_of x); u32 : x < 2 ^ 32 }

-- The bytes of a record write it.
stored : {A : Type 0} (k : ℕ) (decode : List ℕ → A) (i : ℕ) (vs b b' : List ℕ) (s : A) → length vs ≡ k → list_bytes k (i + 1) ≤ length b → decode vs ≡ s → b' ≡ sets b (list_bytes k i) vs
    → Written k decode i s (drop count_bytes b) (drop count_bytes b')
stored k decode i vs b b' s n room d e =
    written k decode i vs (drop count_bytes b) (drop count_bytes b') s n (rw length-drop (omega arith)) d (ap (drop count_bytes) e ∙ drop_sets count_bytes vs b (k * i))

-- ── surfaces

-- The four numbers of a surface, where they stand.
pub surface_read : (b : List ℕ) (i : ℕ) → let at = list_bytes surface_bytes i in surface_at (u32_at b at) (u32_at b (at + 4)) (u32_at b (at + 8)) (u32_at b (at + 12)) ≡ surface_in i b
unfolding record_at surface_of
surface_read b i =
    let at : ℕ = list_bytes surface_bytes i in
    let e₀ = number_in surface_bytes i 0 at b (omega arith) (omega arith) in
    let e₁ = number_in surface_bytes i 4 (at + 4) b (omega arith) (omega arith) in
    let e₂ = number_in surface_bytes i 8 (at + 8) b (omega arith) (omega arith) in
    let e₃ = number_in surface_bytes i 12 (at + 12) b (omega arith) (omega arith) in
    λ q. surface_at (e₀ q) (e₁ q) (e₂ q) (e₃ q)

-- A surface is read back from its bytes.
surface_decoded : (s : Surface) → s.texture < 4294967296 → s.mip < 4294967296 → s.layer < 4294967296 → s.slice < 4294967296 → surface_of (bytes_of_surface s) ≡ s
unfolding surface_of u32_at
surface_decoded s t m l z = λ q. surface_at (digits s.texture t q) (digits s.mip m q) (digits s.layer l q) (digits s.slice z q)

-- Its four numbers one after the other write it.
pub surface_stored : (b b₁ b₂ b₃ b₄ : List ℕ) (i : ℕ) (s : Surface) → let at = list_bytes surface_bytes i in list_bytes surface_bytes (i + 1) ≤ length b
    → Put b at s.texture b₁ → Put b₁ (at + 4) s.mip b₂ → Put b₂ (at + 8) s.layer b₃ → Put b₃ (at + 12) s.slice b₄
    → Written surface_bytes surface_of i s (drop count_bytes b) (drop count_bytes b₄)
surface_stored b b₁ b₂ b₃ b₄ i s room t m l z =
    let at = list_bytes surface_bytes i in
    let a₁ = bytes_of s.texture in
    let a₂ = a₁ ++ bytes_of s.mip in
    let a₃ = a₂ ++ bytes_of s.layer in
    let e₂ = next a₁ (bytes_of s.mip) b b₁ b₂ at (at + 4) t.written refl m.written in
    let e₃ = next a₂ (bytes_of s.layer) b b₂ b₃ at (at + 8) e₂ refl l.written in
    let e₄ = next a₃ (bytes_of s.slice) b b₃ b₄ at (at + 12) e₃ refl z.written in
    stored surface_bytes surface_of i (bytes_of_surface s) b b₄ s refl room (surface_decoded s t.u32 m.u32 l.u32 z.u32) e₄

-- ── actions

-- The seven numbers of an action, where they stand.
pub action_read : (b : List ℕ) (i : ℕ) → let at = list_bytes action_bytes i in
    action_of (range_at (u32_at b at) (u32_at b (at + 4)) (u32_at b (at + 8)) (u32_at b (at + 12)) (layers_by (u32_at b (at + 20)) (u32_at b (at + 16))) (u32_at b (at + 24))) (kind_of (u32_at b (at + 20)))
    ≡ action_in i b
unfolding record_at action_of_bytes
action_read b i =
    let at : ℕ = list_bytes action_bytes i in
    let e₀ = number_in action_bytes i 0 at b (omega arith) (omega arith) in
    let e₁ = number_in action_bytes i 4 (at + 4) b (omega arith) (omega arith) in
    let e₂ = number_in action_bytes i 8 (at + 8) b (omega arith) (omega arith) in
    let e₃ = number_in action_bytes i 12 (at + 12) b (omega arith) (omega arith) in
    let e₄ = number_in action_bytes i 16 (at + 16) b (omega arith) (omega arith) in
    let e₅ = number_in action_bytes i 20 (at + 20) b (omega arith) (omega arith) in
    let e₆ = number_in action_bytes i 24 (at + 24) b (omega arith) (omega arith) in
    λ q. action_of (range_at (e₀ q) (e₁ q) (e₂ q) (e₃ q) (layers_by (e₅ q) (e₄ q)) (e₆ q)) (kind_of (e₅ q))

-- An action is read back from its bytes: a kind's number is 0 or 1, so that the layers are kept.
action_decoded : (r : Range) (k : MemoryInitKind) → r.texture < 4294967296 → r.mip < 4294967296 → r.mips < 4294967296 → r.layer < 4294967296 → r.layers < 4294967296 → r.slice < 4294967296
    → action_of_bytes (bytes_of_action r k) ≡ action_of r k
unfolding action_of_bytes u32_at
action_decoded r ImplicitlyInitialized t m n l o z =
    λ q. action_of (range_at (digits r.texture t q) (digits r.mip m q) (digits r.mips n q) (digits r.layer l q) (digits r.layers o q) (digits r.slice z q)) ImplicitlyInitialized
action_decoded r NeedsInitializedMemory t m n l o z =
    λ q. action_of (range_at (digits r.texture t q) (digits r.mip m q) (digits r.mips n q) (digits r.layer l q) (digits r.layers o q) (digits r.slice z q)) NeedsInitializedMemory

-- Its seven numbers one after the other write it.
pub action_stored : (b b₁ b₂ b₃ b₄ b₅ b₆ b₇ : List ℕ) (i n : ℕ) (r : Range) (k : MemoryInitKind) → let at = list_bytes action_bytes i in list_bytes action_bytes (i + 1) ≤ length b → n ≡ number_of k
    → Put b at r.texture b₁ → Put b₁ (at + 4) r.mip b₂ → Put b₂ (at + 8) r.mips b₃ → Put b₃ (at + 12) r.layer b₄
    → Put b₄ (at + 16) r.layers b₅ → Put b₅ (at + 20) n b₆ → Put b₆ (at + 24) r.slice b₇
    → Written action_bytes action_of_bytes i (action_of r k) (drop count_bytes b) (drop count_bytes b₇)
action_stored b b₁ b₂ b₃ b₄ b₅ b₆ b₇ i n r k room e t m c l o d z =
    let at = list_bytes action_bytes i in
    let a₁ = bytes_of r.texture in
    let a₂ = a₁ ++ bytes_of r.mip in
    let a₃ = a₂ ++ bytes_of r.mips in
    let a₄ = a₃ ++ bytes_of r.layer in
    let a₅ = a₄ ++ bytes_of r.layers in
    let a₆ = a₅ ++ bytes_of (number_of k) in
    let e₂ = next a₁ (bytes_of r.mip) b b₁ b₂ at (at + 4) t.written refl m.written in
    let e₃ = next a₂ (bytes_of r.mips) b b₂ b₃ at (at + 8) e₂ refl c.written in
    let e₄ = next a₃ (bytes_of r.layer) b b₃ b₄ at (at + 12) e₃ refl l.written in
    let e₅ = next a₄ (bytes_of r.layers) b b₄ b₅ at (at + 16) e₄ refl o.written in
    let e₆ = next a₅ (bytes_of (number_of k)) b b₅ b₆ at (at + 20) e₅ refl (d.written ∙ ap (λ q. sets b₅ (at + 20) (bytes_of q)) e) in
    let e₇ = next a₆ (bytes_of r.slice) b b₆ b₇ at (at + 24) e₆ refl z.written in
    stored action_bytes action_of_bytes i (bytes_of_action r k) b b₇ (action_of r k) refl room (action_decoded r k t.u32 m.u32 c.u32 l.u32 o.u32 z.u32) e₇
