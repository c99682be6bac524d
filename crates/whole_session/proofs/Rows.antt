-- Row after row, the lines of the session: what stands in the rows, and then what the passes to go give.
use Prim.Native.Nat.{ℕ, zero, suc, ◌+◌, ◌-◌, ◌*◌, ◌≤◌, ◌<◌}
use native.Mathlib.Omega.{arith}
use native.Mathlib.Numerals.{add-one}
use mathlib.Core.Path.{◌≡◌, refl, sym, ap, subst, ◌∙◌}
use mathlib.Core.Bool.{true, false}
use mathlib.Core.List.{List, [], ◌∷◌, ◌++◌, append-nil, append_assoc}
use lib.Dec.{eqb}
use lib.ListN.{length, length-append, drop, replicate, length-replicate}
use borrow.Author.Tests.{eq-eqb, ne_eqb}
use Rattle.definition.specs.Sizes.{surface_bytes, discards_bytes, row_numbers, row_bytes}
use Rattle.definition.specs.Bytes.{u32_at}
use Rattle.definition.specs.Session.{Session, session}
use Rattle.definition.specs.Readable.{session_refusal}
use Rattle.definition.specs.MemoryInit.{Lists}
use Rattle.definition.specs.Pass.{Outcome, check_pass}
use Rattle.definition.specs.Calls.{no_entries}
use Rattle.definition.specs.Program.{line, ends_buffer, next_lists, lines, deskcheck}
use Rattle.laws.proofs.Tests.{cond_on, cond_off}
use Rattle.lists.specs.Lists.{count_in, surface_of, CountSet}
use Rattle.lists.proofs.Lists.{list_length, emptied}
use Rattle.memory_init.specs.Tally.{DiscardsInRoom}
use Rattle.render_pass.specs.declared.summary.PassSummary.{PassSummary}
use Rattle.render_pass.specs.Summary.{summary, StandFor, Summarized}
use Rattle.whole_session.specs.Numbers.{numbers_at, put_numbers}
use Rattle.whole_session.specs.Rows.{lists_before, row_at, first_rows, lines_from, rows_in, Reached}
use Rattle.whole_session.proofs.Numbers.{numbers_kept, numbers_past}

-- ── the end of a buffer

-- No pass is left where pass k is the last of so many.
pub none_left : (k passes : ℕ) → k < passes → eqb (k + 1) passes ≡ eqb (passes - (k + 1)) 0
none_left k passes h = go (passes - (k + 1)) refl
  where
    go : (left : ℕ) → passes - (k + 1) ≡ left → eqb (k + 1) passes ≡ eqb (passes - (k + 1)) 0
    go zero e = eq-eqb (k + 1) passes (omega (arith, e)) ∙ sym (eq-eqb (passes - (k + 1)) 0 e)
    go (suc left) e = ne_eqb (k + 1) passes (λ q. absurd (omega (arith, e, q))) ∙ sym (ne_eqb (passes - (k + 1)) 0 (λ q. absurd (omega (arith, e, q))))

-- ── one pass

module _ (S : Session) (passes k : ℕ) where
  next_lists_lem : lists_before S passes (k + 1) ≡ next_lists (S.pass k) (passes - (k + 1)) (check_pass S (S.pass k) (lists_before S passes k)).lists
  unfolding lists_before
  next_lists_lem = ap (lists_before S passes) (add-one k) ∙ ap (λ (q : ℕ). next_lists (S.pass k) (passes - q) (check_pass S (S.pass k) (lists_before S passes k)).lists) (sym (add-one k))

  module _ (d : List ℕ) (a : ℕ) (at : Reached S passes k d a) (said : PassSummary) (d' : List ℕ) (sum : Summarized S (S.pass k) d a said d') where
    abbrev o : Outcome
    o = check_pass S (S.pass k) (lists_before S passes k)

    after : StandFor d' said.actions o.lists
    after = sum.left (lists_before S passes k) at.lists

    -- What is said of the pass, and the length of the discard list, are its row.
    pub row_told : (n : ℕ) → n ≡ count_in d'
        → (k ∷ said.verdict.number ∷ said.verdict.place ∷ said.verdict.earlier ∷ said.width ∷ said.height ∷ said.samples ∷ said.clears ∷ n ∷ []) ≡ row_at S passes k
    row_told n e =
        let says : said ≡ summary o = sum.said (lists_before S passes k) at.lists in
        let counted : n ≡ length o.lists.discards = e ∙ sym (list_length surface_bytes surface_of d') ∙ ap length after.discards in
        λ i. k ∷ (says i).verdict.number ∷ (says i).verdict.place ∷ (says i).verdict.earlier ∷ (says i).width ∷ (says i).height ∷ (says i).samples ∷ (says i).clears ∷ counted i ∷ []

    -- The buffer goes on.
    pub next_on : ends_buffer (S.pass k) (passes - (k + 1)) ≡ false → Reached S passes (k + 1) d' said.actions
    next_on h = record {
      lists = subst (StandFor d' said.actions) (sym (next_lists_lem ∙ cond_off (ends_buffer (S.pass k) (passes - (k + 1))) _ _ h)) after;
      held = sum.held;
      few = sum.few_actions;
    }

    -- Discards and actions are submitted.
    pub next_ended : (d'' : List ℕ) → ends_buffer (S.pass k) (passes - (k + 1)) ≡ true → length d'' ≡ length d' → CountSet 0 d' d'' → Reached S passes (k + 1) d'' 0
    next_ended d'' h long e = record {
      lists = subst (StandFor d'' 0) (sym (next_lists_lem ∙ cond_on (ends_buffer (S.pass k) (passes - (k + 1))) _ _ h)) (record { discards = (emptied {k = surface_bytes} {decode = surface_of} e).list; actions = refl });
      held = record { long = omega (arith, sum.held.long, long); count = omega (arith, e.count) };
      few = omega arith;
    }

-- Fresh lists.
reached_first : (S : Session) (passes : ℕ) (d : List ℕ) → DiscardsInRoom d → count_in d ≡ 0 → Reached S passes 0 d 0
unfolding lists_before
reached_first S passes d held none = record {
  lists = record { discards = (emptied {k = surface_bytes} {decode = surface_of} {b = d} (record { count = none; behind = refl })).list; actions = refl };
  held = held;
  few = omega arith;
}

-- Bytes that are all 0 hold none.
pub reached_fresh : (S : Session) (passes : ℕ) → Reached S passes 0 (replicate discards_bytes 0) 0
unfolding u32_at
reached_fresh S passes = reached_first S passes (replicate discards_bytes 0) (record { long = omega (arith, length-replicate {A = ℕ} discards_bytes 0); count = omega arith }) refl

-- ── all of them

pub rows_more : (S : Session) (passes k : ℕ) → first_rows S passes (k + 1) ≡ first_rows S passes k ++ (row_at S passes k ∷ [])
unfolding first_rows
rows_more S passes k = ap (first_rows S passes) (add-one k)

pub no_rows : (S : Session) (passes : ℕ) → first_rows S passes 0 ≡ []
unfolding first_rows
no_rows S passes = refl

-- The rows so far and the lines of the passes to go are the session's lines.
rows_then : (S : Session) (passes k left : ℕ) → k + left ≡ passes → lines S 0 passes no_entries ≡ first_rows S passes k ++ lines S k left (lists_before S passes k)
unfolding first_rows lists_before
rows_then S passes zero left e = let all : passes ≡ left = omega (arith, e) in ap (λ (q : ℕ). lines S 0 q no_entries) all
rows_then S passes (suc k) left e =
    let o = check_pass S (S.pass k) (lists_before S passes k) in
    let one : k + 1 ≡ suc k = add-one k in
    let to_go : passes - suc k ≡ left = omega (arith, e) in
    rows_then S passes k (suc left) (omega (arith, e))
    ∙ sym (append_assoc (first_rows S passes k) (line k o ∷ []) (lines S (k + 1) left (next_lists (S.pass k) left o.lists)))
    ∙ λ i. (first_rows S passes k ++ (line k o ∷ [])) ++ lines S (one i) left (next_lists (S.pass k) (sym to_go i) o.lists)

pub rows_all : (S : Session) (passes : ℕ) → first_rows S passes passes ≡ lines S 0 passes no_entries
rows_all S passes = sym (append-nil (first_rows S passes passes)) ∙ sym (rows_then S passes passes 0 (omega arith))

-- What `deskcheck` says of a readable session.
pub deskcheck_rows : (s : List ℕ) → session_refusal s ≡ 0 → deskcheck s ≡ first_rows (session s) (session s).pass_count (session s).pass_count
unfolding deskcheck
deskcheck_rows s h = cond_on (eqb (session_refusal s) 0) _ _ (eq-eqb (session_refusal s) 0 h) ∙ sym (rows_all (session s) (session s).pass_count)

-- What is said from the first pass on.
pub lines_first : (s : List ℕ) (n : ℕ) → session_refusal s ≡ 0 → n ≡ (session s).pass_count → lines_from s n 0 ≡ deskcheck s
unfolding lists_before deskcheck
lines_first s n h e =
    let all : n - 0 ≡ (session s).pass_count = omega (arith, e) in
    ap (λ (q : ℕ). lines (session s) 0 q no_entries) all ∙ sym (cond_on (eqb (session_refusal s) 0) _ _ (eq-eqb (session_refusal s) 0 h))

-- A line, and what is said from the next pass on.
pub lines_next : (s : List ℕ) (passes k : ℕ) (row : List ℕ) → k < passes → row ≡ row_at (session s) passes k → lines_from s passes k ≡ row ∷ lines_from s passes (k + 1)
lines_next s passes k row h e =
    let S = session s in
    let to_go : passes - k ≡ suc (passes - (k + 1)) = omega (arith, h) in
    ap (λ (q : ℕ). lines S k q (lists_before S passes k)) to_go
    ∙ λ i. sym e i ∷ lines S (k + 1) (passes - (k + 1)) (sym (next_lists_lem S passes k) i)

-- So many lines are said.
lines_count : (S : Session) (k n : ℕ) (l : Lists) → length (lines S k n l) ≡ n
lines_count S k zero l = refl
lines_count S k (suc n) l = ap suc (lines_count S (k + 1) n (next_lists (S.pass k) n (check_pass S (S.pass k) l).lists))

pub deskcheck_count : (s : List ℕ) → session_refusal s ≡ 0 → length (deskcheck s) ≡ (session s).pass_count
unfolding deskcheck
deskcheck_count s h =
    ap length (cond_on (eqb (session_refusal s) 0) _ _ (eq-eqb (session_refusal s) 0 h)) ∙ lines_count (session s) 0 (session s).pass_count no_entries

-- A walk of a readable session that has given some rows. x is the next, and others are to come:
module _ (s : List ℕ) (done : List (List ℕ)) {left rest : List (List ℕ)} {x : List ℕ} (read : session_refusal s ≡ 0) (so_far : done ++ left ≡ deskcheck s) (first : left ≡ x ∷ rest) where
  -- it is given too,
  pub row_given : (done ++ (x ∷ [])) ++ rest ≡ deskcheck s
  row_given = append_assoc done (x ∷ []) rest ∙ sym (ap (λ l. done ++ l) first) ∙ so_far

  -- and is one of a pass.
  pub row_there : length done < (session s).pass_count
  row_there = omega (arith, length-append (done ++ (x ∷ [])) rest, length-append done (x ∷ []), ap length row_given, deskcheck_count s read)

-- Nothing is to come.
pub rows_given : (s : List ℕ) (done : List (List ℕ)) {left : List (List ℕ)} → done ++ left ≡ deskcheck s → left ≡ [] → done ≡ deskcheck s
rows_given s done so_far none = sym (append-nil done) ∙ sym (ap (λ l. done ++ l) none) ∙ so_far

-- ── in lent bytes

-- Rows that stand before a place stay.
rows_kept : (b xs : List ℕ) (k j : ℕ) → j ≤ k → rows_in (put_numbers b (row_bytes * k) xs row_numbers) j ≡ rows_in b j
unfolding rows_in
rows_kept b xs k zero h = refl
rows_kept b xs k (suc j) h = λ q. rows_kept b xs k j (omega arith) q ++ (numbers_kept b (row_bytes * k) xs row_numbers (row_bytes * j) row_numbers (omega arith) q ∷ [])

rows_next : (b : List ℕ) (k : ℕ) → rows_in b (k + 1) ≡ rows_in b k ++ (numbers_at b (row_bytes * k) row_numbers ∷ [])
unfolding rows_in
rows_next b k = ap (rows_in b) (add-one k)

pub none_put : (b : List ℕ) → rows_in b 0 ≡ []
unfolding rows_in
none_put b = refl

-- One row more.
module _ (k : ℕ) (b b' row : List ℕ) (put : b' ≡ put_numbers b (row_bytes * k) row row_numbers) where
  pub row_put : (rows : List (List ℕ)) → rows_in b k ≡ rows → numbers_at b' (row_bytes * k) row_numbers ≡ row → rows_in b' (k + 1) ≡ rows ++ (row ∷ [])
  row_put rows so_far read =
      rows_next b' k ∙ λ i. (ap (λ l. rows_in l k) put ∙ rows_kept b row k k (omega arith) ∙ so_far) i ++ (read i ∷ [])

  pub rest_stays : (b₀ : List ℕ) (passes : ℕ) → k < passes → drop (row_bytes * passes) b ≡ drop (row_bytes * passes) b₀ → drop (row_bytes * passes) b' ≡ drop (row_bytes * passes) b₀
  rest_stays b₀ passes h e = ap (drop (row_bytes * passes)) put ∙ numbers_past b (row_bytes * k) row row_numbers (row_bytes * passes) (omega arith) ∙ e
