use Rattle.std.proofs.Common.{◌≡◌, ◌∙◌, ◌++◌, ◌∷◌, [], ap, sym, append_assoc}
use Rattle.std.proofs.lemmas.List.{append-nil}
use Rattle.swreq_lines.proofs.Cuts.{none_left, some_left}
use Rattle.swreq_lines.proofs.TypeWords.{IsNext, next_step, no_step}
use Rattle.swreq_lines.proofs.types.read_steps.Goals as goal

pub loop-rest-init : goal.loop-rest-init
loop-rest-init c all h e = (all, ap (λ z. z ++ all) c.new-steps.ensures.items, h, e)

pub loop-rest-preserved : goal.loop-rest-preserved
loop-rest-preserved c all h e =
    let i = c.loop-rest.invariant all h e in
    let n : IsNext c.args.reader.now.tells_apart i.0 c.next_piece-next.result.piece.now c.next_piece-next.result.rest.now =
    next_step c.args.reader.now.tells_apart i.0 c.loop-rest.rest.now c.next_piece-next.result.piece.now c.next_piece-next.result.rest.now
    i.2 (some_left c.loop-rest.rest.now c.loop-rest-test.ensures) i.3 c.next_piece-next.ensures.piece in
    let step : c.read_step.result ≡ n.first = c.read_step.ensures n.first n.of_text n.piece_is in (
      n.others,
      ap (λ z. z ++ n.others) c.in_ok-push.ensures.items
          ∙ append_assoc c.loop-rest.steps.items (c.read_step.result ∷ []) n.others
          ∙ ap (λ b. c.loop-rest.steps.items ++ b) (ap (λ a. a ∷ n.others) step ∙ sym n.are)
          ∙ i.1,
      n.others_of_text,
      n.rest_is,
    )

pub returns : goal.returns
returns c all h e =
    let i = c.loop-rest.invariant all h e in
    sym (append-nil c.loop-rest.steps.items)
    ∙ ap (λ z. c.loop-rest.steps.items ++ z)
    (sym (no_step c.args.reader.now.tells_apart i.0 c.loop-rest.rest.now i.2 (none_left c.loop-rest.rest.now c.loop-rest-test.ensures) i.3))
    ∙ i.1
