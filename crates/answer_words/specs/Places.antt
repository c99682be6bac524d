-- The next words of a list by a place in it: where they end, also past one that differs, and whether every word so far is the one that was answered.
use Rattle.std.specs.Prelude.{ℕ, ◌+◌, ◌-◌, ◌*◌, ◌/◌, min, Bool, false, cond, ◌&&◌, List, [], ◌∷◌, leb, eqb, length}
use Rattle.definition.specs.Sizes.{count_bytes, row_numbers, row_bytes}
use Rattle.definition.specs.Bytes.{u32_at}
use Rattle.whole_session.specs.Numbers.{numbers_at}
use Rattle.render_pass.specs.declared.Reply.{Reply}
use Rattle.answer_words.specs.Words.{word_bytes, line_words, rest_words, withheld, numbers_of}
use Rattle.answer_words.specs.declared.places.Place.{Place}

-- The next word is w, or the list ends before it.
unfoldable pub next_word : List ℕ → Place → ℕ → Place
next_word b p w =
    cond (leb (p.at + word_bytes) (length b)) (record { at = p.at + word_bytes; same = p.same && eqb (u32_at b p.at) w })
    (record { at = p.at; same = false })

-- The next words are these.
unfoldable pub next_words : List ℕ → Place → List ℕ → Place
next_words b p [] = p
next_words b p (w ∷ ws) = next_words b (next_word b p w) ws

-- The place n words on, or where the list ends: whether these are the next ones is handed in.
abbrev pub past : List ℕ → Place → ℕ → Bool → Place
past b p n are_next = record { at = p.at + word_bytes * min n ((length b - p.at) / word_bytes); same = p.same && are_next }

-- The same words, compared in two ways.
abbrev both : Place → Place → Place
both p q = record { at = q.at; same = p.same && q.same }

-- The next words are those of pass k: a mark, its line by the rows and by the reply, what follows, the clears and the discards.
unfoldable pub next_reply : List ℕ → Place → ℕ → Reply → List ℕ → List ℕ → List ℕ → Place
next_reply b p k r rows clears discards =
    let start = next_word b p 0 in
    let held = u32_at discards 0 in
    let line = both (next_words b start (numbers_at rows (row_bytes * k) row_numbers)) (next_words b start (line_words k r held)) in
    let rest = next_words b line (rest_words r) in
    let cleared = next_words b rest (numbers_at clears count_bytes (numbers_of r.clears)) in
    cond (withheld r.number) (next_word b p 1) (next_words b cleared (numbers_at discards count_bytes (numbers_of held)))
