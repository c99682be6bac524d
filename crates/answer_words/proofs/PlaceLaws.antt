-- Laws of places in the words of an answer.
use mathlib.Core.Path.{◌≡◌, refl, sym, ap, ◌∙◌}
use mathlib.Core.Bool.{Bool, true, false, cond, ◌&&◌}
use mathlib.Core.List.{List, [], ◌∷◌, ◌++◌}
use Prim.Native.Nat.{ℕ, suc, min, ◌+◌, ◌-◌, ◌*◌, ◌/◌, ◌≤◌, ◌<◌}
use native.Mathlib.Omega.{arith}
use lib.Dec.{leb, eqb}
use lib.ListN.{length, drop, length-drop, length-append}
use lib.Seq.{drop-drop}
use borrow.Author.Tests.{le-leb, lt-leb}
use denote.Bor.{Bor}
use Rattle.std.specs.Prelude.{Option, Some, None, is_some, option_and_then, option_copied}
use Rattle.definition.specs.Bytes.{u32_at}
use Rattle.definition.specs.declared.Attachment.{Attachment}
use Rattle.encoding.proofs.Reading.{number_from}
use Rattle.laws.proofs.Tests.{by_order, cond_on, cond_off, and_off_right}
use Rattle.answer_words.specs.declared.places.Place.{Place}
use Rattle.answer_words.specs.Words.{word_bytes, double_words, color_words, attachment_words, attachments_words}
use Rattle.answer_words.specs.Words as W
use Rattle.answer_words.specs.Places.{next_word, next_words, past}

-- A word that the list has.
pub word_there : (b : List ℕ) (p : Place) (w : ℕ) → p.at + word_bytes ≤ length b → next_word b p w ≡ record { at = p.at + word_bytes; same = p.same && eqb (u32_at b p.at) w }
unfolding next_word
word_there b p w h = cond_on (leb (p.at + word_bytes) (length b)) _ _ (le-leb (p.at + word_bytes) (length b) h)

-- The list ends before it.
pub word_past : (b : List ℕ) (p : Place) (w : ℕ) → length b < p.at + word_bytes → next_word b p w ≡ record { at = p.at; same = false }
unfolding next_word
word_past b p w h = cond_off (leb (p.at + word_bytes) (length b)) _ _ (lt-leb (p.at + word_bytes) (length b) h)

-- Some words, then others.
pub words_append : (b : List ℕ) (p : Place) (xs ys : List ℕ) → next_words b p (xs ++ ys) ≡ next_words b (next_words b p xs) ys
unfolding next_words
words_append b p [] ys = refl
words_append b p (x ∷ xs) ys = words_append b (next_word b p x) xs ys

-- Where the word is there, what the list from the place on leaves behind it.
left_there : (b : List ℕ) (at w : ℕ) → at + word_bytes ≤ length b → W.next_word (drop at b) w ≡ cond (eqb (u32_at b at) w) (Some (drop (at + word_bytes) b)) None
unfolding W.next_word
left_there b at w h =
    let long : leb word_bytes (length (drop at b)) ≡ true = le-leb word_bytes _ (omega (arith, length-drop at b)) in
    let read : u32_at (drop at b) 0 ≡ u32_at b at = number_from (drop at b) b at refl in
    rw long (rw read (rw (drop-drop word_bytes at b) refl))

left_past : (b : List ℕ) (at w : ℕ) → length b < at + word_bytes → W.next_word (drop at b) w ≡ None
unfolding W.next_word
left_past b at w h =
    let short : leb word_bytes (length (drop at b)) ≡ false = lt-leb word_bytes _ (omega (arith, length-drop at b)) in
    rw short refl

-- A word that agrees, then others.
same_then : (s e : Bool) (rest ws : List ℕ) → ((s && e) && is_some (W.next_words rest ws)) ≡ (s && is_some (option_and_then (λ r. W.next_words r ws) (cond e (Some rest) None)))
same_then true true rest ws = refl
same_then true false rest ws = refl
same_then false true rest ws = refl
same_then false false rest ws = refl

and_true : (s : Bool) → s ≡ (s && true)
and_true true = refl
and_true false = refl

-- Some words: where they end, and the same where they are the next ones of what is left.
pub next_past : (b : List ℕ) (p : Place) (ws : List ℕ) → next_words b p ws ≡ past b p (length ws) (is_some (W.next_words (drop p.at b) ws))
unfolding next_words W.next_words
next_past b p [] =
    let ends : p.at ≡ p.at + word_bytes * min 0 ((length b - p.at) / word_bytes) = omega arith in
    λ i. record { at = ends i; same = and_true p.same i }
next_past b p (w ∷ ws) = by_order (p.at + word_bytes) (length b) (there (λ q. next_past b q ws)) (gone (λ q. next_past b q ws))
  where
    others : Type 0
    others = (q : Place) → next_words b q ws ≡ past b q (length ws) (is_some (W.next_words (drop q.at b) ws))

    told : Option (List ℕ) → Bool
    told o = p.same && is_some (option_and_then (λ r. W.next_words r ws) o)

    there : others → p.at + word_bytes ≤ length b → next_words b (next_word b p w) ws ≡ past b p (suc (length ws)) (is_some (W.next_words (drop p.at b) (w ∷ ws)))
    there f h =
        let q : Place = record { at = p.at + word_bytes; same = p.same && eqb (u32_at b p.at) w } in
        let ends : q.at + word_bytes * min (length ws) ((length b - q.at) / word_bytes) ≡ p.at + word_bytes * min (suc (length ws)) ((length b - p.at) / word_bytes) = omega arith in
        let same = same_then p.same (eqb (u32_at b p.at) w) (drop q.at b) ws ∙ ap told (sym (left_there b p.at w h)) in
        ap (λ (r : Place). next_words b r ws) (word_there b p w h) ∙ f q ∙ (λ i. record { at = ends i; same = same i })

    gone : others → length b < p.at + word_bytes → next_words b (next_word b p w) ws ≡ past b p (suc (length ws)) (is_some (W.next_words (drop p.at b) (w ∷ ws)))
    gone f h =
        let q : Place = record { at = p.at; same = false } in
        let ends : q.at + word_bytes * min (length ws) ((length b - q.at) / word_bytes) ≡ p.at + word_bytes * min (suc (length ws)) ((length b - p.at) / word_bytes) = omega arith in
        let same = sym (and_off_right p.same false refl) ∙ ap told (sym (left_past b p.at w h)) in
        ap (λ (r : Place). next_words b r ws) (word_past b p w h) ∙ f q ∙ (λ i. record { at = ends i; same = same i })

-- The same of what is left behind them where it is lent.
pub past_next : (b : List ℕ) (p : Place) (ws : List ℕ) (n : ℕ) (o : Option (Bor (List ℕ))) → length ws ≡ n → option_copied o ≡ W.next_words (drop p.at b) ws → past b p n (is_some o) ≡ next_words b p ws
past_next b p ws n o long next = rw (sym long) (ap (past b p (length ws)) (some o ∙ ap is_some next)) ∙ sym (next_past b p ws)
  where
    some : (o : Option (Bor (List ℕ))) → is_some o ≡ is_some (option_copied o)
    some None = refl
    some (Some r) = refl

-- The words of so many attachments.
pub attachments_length : (l : List Attachment) → length (attachments_words l) ≡ 14 * length l
unfolding attachments_words attachment_words color_words double_words
attachments_length [] = refl
attachments_length (a ∷ l) = length-append (attachment_words a) (attachments_words l) ∙ omega (arith, attachments_length l)
