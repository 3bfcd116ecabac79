use Rattle.std.proofs.Common.{◌≡◌, ◌∙◌, ◌++◌, ◌∷◌, [], ap, ap₂, sym, append_assoc}
use Rattle.std.proofs.lemmas.List.{append-nil}
use Rattle.swreq_lines.proofs.Cuts.{none_left, some_left}
use Rattle.swreq_lines.proofs.ReadNumbers.{IsNext, first_rest, next_number, next_rest, no_number}
use Rattle.swreq_lines.proofs.premises.read_premises.Goals as goal

pub loop-rest-init : goal.loop-rest-init
loop-rest-init c ns h e = (
  ns,
  ap (λ z. z ++ ns) c.new-numbers.ensures.items,
  h,
  first_rest ns c.args.text.now c.next_word.result.piece.now c.next_word.result.rest.now c.next_word.ensures.piece e,
)

pub loop-rest-preserved : goal.loop-rest-preserved
loop-rest-preserved c ns h e =
    let i = c.loop-rest.invariant ns h e in
    let n : IsNext i.0 c.next_piece-next.result.piece.now c.next_piece-next.result.rest.now =
    next_number i.0 c.loop-rest.rest.now c.next_piece-next.result.piece.now c.next_piece-next.result.rest.now i.2
    (some_left c.loop-rest.rest.now c.loop-rest-test.ensures) i.3 c.next_piece-next.ensures.piece in
    let number : c.read_number.result ≡ n.first = c.read_number.ensures n.first n.short n.piece_is in (
      n.others,
      ap (λ z. z ++ n.others) c.in_ok-push.ensures.items
          ∙ append_assoc c.loop-rest.numbers.items (c.read_number.result ∷ []) n.others
          ∙ ap₂ (λ a b. c.loop-rest.numbers.items ++ b) number (ap (λ a. a ∷ n.others) number ∙ sym n.are)
          ∙ i.1,
      n.others_short,
      next_rest n.others c.next_piece-next.result.rest.now c.next_word-in-loop-rest.result.piece.now
          c.next_word-in-loop-rest.result.rest.now
          c.next_word-in-loop-rest.ensures.piece n.rest_is,
    )

pub returns : goal.returns
returns c ns h e =
    let i = c.loop-rest.invariant ns h e in
    sym (append-nil c.loop-rest.numbers.items)
    ∙ ap (λ z. c.loop-rest.numbers.items ++ z)
    (sym (no_number i.0 c.loop-rest.rest.now i.2 (none_left c.loop-rest.rest.now c.loop-rest-test.ensures) i.3))
    ∙ i.1
