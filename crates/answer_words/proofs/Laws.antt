-- Laws of the words of an answer.
use mathlib.Core.Path.{◌≡◌, refl, sym, ap, ◌∙◌}
use mathlib.Core.List.{List, [], ◌∷◌, ◌++◌, append_assoc, append-nil}
use Prim.Native.Nat.{ℕ, zero, suc, ◌+◌, ◌-◌, ◌*◌, ◌≤◌, ◌<◌}
use native.Mathlib.Nat.{add-zero, add-suc, not-suc-le-zero, le_of_suc-le-suc}
use native.Mathlib.Omega.{arith}
use native.Mathlib.Numerals.{add-one}
use lib.ListN.{length, get_or, take, drop, take-append-drop}
use lib.Seq.{take-suc, take_all}
use Rattle.std.specs.Prelude.{Option, Some, None, option_and_then}
use Rattle.definition.specs.Bytes.{u32_at}
use Rattle.definition.specs.declared.Attachment.{Attachment}
use Rattle.whole_session.specs.Numbers.{numbers_at}
use Rattle.answer_words.specs.Words.{next_word, next_words, attachment_words, attachments_words}

-- Some words, then others.
pub words_append : (b : List ℕ) (xs ys : List ℕ) → next_words b (xs ++ ys) ≡ option_and_then (λ rest. next_words rest ys) (next_words b xs)
unfolding next_words
words_append b [] ys = refl
words_append b (x ∷ xs) ys = go (next_word b x) (λ rest. words_append rest xs ys)
  where
    go : (o : Option (List ℕ)) → ((rest : List ℕ) → next_words rest (xs ++ ys) ≡ option_and_then (λ r. next_words r ys) (next_words rest xs))
        → option_and_then (λ rest. next_words rest (xs ++ ys)) o ≡ option_and_then (λ rest. next_words rest ys) (option_and_then (λ rest. next_words rest xs) o)
    go None f = refl
    go (Some rest) f = f rest

-- One attachment more.
pub attachments_more : (l : List Attachment) (n : ℕ) (d : Attachment) → n < length l → attachments_words (take (suc n) l) ≡ attachments_words (take n l) ++ attachment_words (get_or l n d)
unfolding attachments_words
attachments_more [] n d h = absurd (not-suc-le-zero h)
attachments_more (a ∷ l) zero d h = append-nil (attachment_words a)
attachments_more (a ∷ l) (suc n) d h =
    ap (λ (ws : List ℕ). attachment_words a ++ ws) (attachments_more l n d (le_of_suc-le-suc h)) ∙ sym (append_assoc (attachment_words a) (attachments_words (take n l)) _)

-- Past the last there are no more.
pub attachments_all : (l : List Attachment) (n m : ℕ) → length l ≤ n → length l ≤ m → attachments_words (take n l) ≡ attachments_words (take m l)
attachments_all l n m h k = ap attachments_words (take_all n l h ∙ sym (take_all m l k))

module _ (b : List ℕ) where
  -- Where some words are not the next ones, they are not with others behind them.
  pub words_cut : (xs ys : List ℕ) → next_words b xs ≡ None → next_words b (xs ++ ys) ≡ None
  words_cut xs ys h = words_append b xs ys ∙ ap (option_and_then (λ rest. next_words rest ys)) h

  -- Other words behind those that leave this rest.
  pub words_more : (xs ys rest : List ℕ) → Some rest ≡ next_words b xs → next_words b (xs ++ ys) ≡ next_words rest ys
  words_more xs ys rest h = words_append b xs ys ∙ ap (option_and_then (λ r. next_words r ys)) (sym h)

  -- One word more.
  pub word_more : (xs : List ℕ) (w : ℕ) (rest : List ℕ) → Some rest ≡ next_words b xs → next_words b (xs ++ (w ∷ [])) ≡ next_word rest w
  unfolding next_words
  word_more xs w rest h = words_more xs (w ∷ []) rest h ∙ go (next_word rest w)
    where
      go : (o : Option (List ℕ)) → option_and_then (λ r. Some r) o ≡ o
      go None = refl
      go (Some r) = refl

  -- The same of the word at place i of a list.
  pub word_turn : (ws : List ℕ) (i d : ℕ) (rest : List ℕ) → i < length ws → Some rest ≡ next_words b (take i ws) → next_words b (take (i + 1) ws) ≡ next_word rest (get_or ws i d)
  word_turn ws i d rest h e = ap (λ (l : List ℕ). next_words b l) (rw add-one (take-suc ws i d h)) ∙ word_more (take i ws) (get_or ws i d) rest e

  pub words_stop : (ws : List ℕ) (i : ℕ) → next_words b (take i ws) ≡ None → next_words b ws ≡ None
  words_stop ws i h = ap (λ (l : List ℕ). next_words b l) (sym (take-append-drop i ws)) ∙ words_cut (take i ws) (drop i ws) h

  -- Of numbers that stand in bytes.
  pub numbers_stop : (c : List ℕ) (from i n : ℕ) → i ≤ n → next_words b (numbers_at c from i) ≡ None → next_words b (numbers_at c from n) ≡ None
  unfolding numbers_at
  numbers_stop c from i n h e = let whole : n ≡ i + (n - i) = omega arith in ap (λ (k : ℕ). next_words b (numbers_at c from k)) whole ∙ go (n - i)
    where
      go : (k : ℕ) → next_words b (numbers_at c from (i + k)) ≡ None
      go zero = rw (add-zero i) e
      go (suc k) = ap (λ (m : ℕ). next_words b (numbers_at c from m)) (add-suc i k) ∙ words_cut (numbers_at c from (i + k)) _ (go k)

  pub number_turn : (c : List ℕ) (from i : ℕ) (rest : List ℕ) → Some rest ≡ next_words b (numbers_at c from i)
      → next_words b (numbers_at c from (i + 1)) ≡ next_word rest (u32_at c (from + 4 * i))
  unfolding numbers_at
  number_turn c from i rest e = rw add-one (word_more (numbers_at c from i) (u32_at c (from + 4 * i)) rest e)

  -- Of attachments.
  attachments_append : (l m : List Attachment) → attachments_words (l ++ m) ≡ attachments_words l ++ attachments_words m
  unfolding attachments_words
  attachments_append [] m = refl
  attachments_append (a ∷ l) m = ap (λ (ws : List ℕ). attachment_words a ++ ws) (attachments_append l m) ∙ sym (append_assoc (attachment_words a) (attachments_words l) (attachments_words m))

  pub attachment_turn : (l : List Attachment) (i : ℕ) (d : Attachment) (rest : List ℕ) → i < length l → Some rest ≡ next_words b (attachments_words (take i l))
      → next_words b (attachments_words (take (i + 1) l)) ≡ next_words rest (attachment_words (get_or l i d))
  attachment_turn l i d rest h e =
      ap (λ (ws : List ℕ). next_words b ws) (rw add-one (attachments_more l i d h)) ∙ words_more (attachments_words (take i l)) (attachment_words (get_or l i d)) rest e

  pub attachments_stop : (l : List Attachment) (i : ℕ) → next_words b (attachments_words (take i l)) ≡ None → next_words b (attachments_words l) ≡ None
  attachments_stop l i h =
      ap (λ (m : List Attachment). next_words b (attachments_words m)) (sym (take-append-drop i l))
      ∙ ap (λ (ws : List ℕ). next_words b ws) (attachments_append (take i l) (drop i l))
      ∙ words_cut (attachments_words (take i l)) (attachments_words (drop i l)) h
