-- The words of an answer, and what it means that they are the next ones of a list. harness/README.md has the list's form.
use Rattle.std.specs.Prelude.{ℕ, Option, Some, None, option_and_then, take, drop, ◌*◌, ◌/◌, ◌%◌, ◌^◌, Bool, cond, ◌&&◌, ◌||◌, List, [], ◌∷◌, ◌++◌, leb, ltb, eqb, Float, length}
use Rattle.std.specs.Float.{binary32, binary64}
use Rattle.std.specs.Float.Ieee.{to_bits}
use Rattle.definition.specs.Sizes.{surface_numbers, max_clears, count_bytes, row_numbers, row_bytes}
use Rattle.definition.specs.Bytes.{u32_at}
use Rattle.definition.specs.declared.Attachment.{Attachment}
use Rattle.definition.specs.declared.Color.{Color}
use Rattle.whole_session.specs.Numbers.{numbers_at}
use Rattle.render_pass.specs.declared.Reply.{Reply}

-- Bytes of a word.
abbrev pub word_bytes : ℕ
word_bytes = 4

-- What is left of a list whose next word is w.
unfoldable pub next_word : List ℕ → ℕ → Option (List ℕ)
next_word b w = cond (leb word_bytes (length b) && eqb (u32_at b 0) w) (Some (drop word_bytes b)) None

-- The same of the words one after the other.
unfoldable pub next_words : List ℕ → List ℕ → Option (List ℕ)
next_words b [] = Some b
next_words b (w ∷ ws) = option_and_then (λ rest. next_words rest ws) (next_word b w)

-- The pattern of an f64, the low half first.
unfoldable pub double_words : Float → List ℕ
double_words x = to_bits binary64 x % 2 ^ 32 ∷ to_bits binary64 x / 2 ^ 32 ∷ []

unfoldable pub color_words : Color → List ℕ
color_words c = double_words c.red ++ double_words c.green ++ double_words c.blue ++ double_words c.alpha

unfoldable pub attachment_words : Attachment → List ℕ
attachment_words a =
    (a.view ∷ a.usage ∷ a.ops ∷ a.stencil_ops ∷ []) ++ color_words a.color ++ (to_bits binary32 a.depth ∷ a.stencil ∷ [])

-- Some attachments.
unfoldable pub attachments_words : List Attachment → List ℕ
attachments_words [] = []
attachments_words (a ∷ l) = attachment_words a ++ attachments_words l

-- The line of pass k: by its reply and the length of the discard list.
unfoldable pub line_words : ℕ → Reply → ℕ → List ℕ
line_words k r discards =
    k ∷ r.number ∷ r.place ∷ r.earlier ∷ r.width ∷ r.height ∷ r.samples ∷ r.clears ∷ discards ∷ []

-- What follows the line: flags, divergent aspect, attachments.
unfoldable pub rest_words : Reply → List ℕ
rest_words r =
    (r.depth_read_only ∷ r.stencil_read_only ∷ r.divergent ∷ r.count ∷ []) ++ attachments_words (take r.count r.attachments)

-- Document 01 withholds these numbers from the comparison.
abbrev pub withheld : ℕ → Bool
withheld n = ((eqb n 5 || eqb n 48) || eqb n 49) || eqb n 50

-- The numbers of so many surfaces; none of more than any list has room for.
abbrev pub numbers_of : ℕ → ℕ
numbers_of n = cond (ltb max_clears n) 0 (surface_numbers * n)

-- The next words are those of pass k: a mark, its line by the rows, and the same by the reply, what follows, the clears and the discards.
unfoldable pub next_reply : List ℕ → ℕ → Reply → List ℕ → List ℕ → List ℕ → Option (List ℕ)
next_reply b k r rows clears discards =
    let held = u32_at discards 0 in
    let by_row = numbers_at rows (row_bytes * k) row_numbers in
    let listed = numbers_at clears count_bytes (numbers_of r.clears) ++ numbers_at discards count_bytes (numbers_of held) in
    let told = line_words k r held ++ rest_words r ++ listed in
    cond (withheld r.number) (next_word b 1)
    (option_and_then (λ start. option_and_then (λ _. next_words start told) (next_words start by_row)) (next_word b 0))
