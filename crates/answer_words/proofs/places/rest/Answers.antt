-- Four words, and fourteen for each attachment.
use mathlib.Core.Path.{◌≡◌, ap, ◌∙◌}
use native.Mathlib.Omega.{arith}
use Prim.Native.Nat.{◌+◌, ◌*◌}
use lib.ListN.{length, take, length-take}
use Rattle.answer_words.specs.Words.{next_words, rest_words}
use Rattle.answer_words.proofs.PlaceLaws.{past_next, attachments_length}
use Rattle.answer_words.proofs.places.rest.Goals as goal

pub returns : goal.returns
unfolding rest_words
returns c =
    let r = c.args.r.now in
    let next = c.rest-next.ensures ∙ ap (λ b. next_words b (rest_words r)) c.left.ensures in
    let long : length (rest_words r) ≡ 4 + 14 * c.min-count.result =
    omega (arith, attachments_length (take r.count r.attachments), length-take r.count r.attachments, c.min-count.ensures) in
    rw c.past.ensures (rw c.is_some.ensures (past_next c.args.list.now c.args.p _ _ c.rest-next.result long next))
