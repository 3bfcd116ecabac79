use Rattle.std.proofs.Common.{◌∙◌, ap₂}
use Rattle.swreq_print.specs.swreq_param.ComparisonLaws.{as_steps, steps_of}
use Rattle.swreq_print.specs.swreq_param.Terms.{head, with_steps}
use Rattle.swreq_print.specs.swreq_param.Terms.Term.{Generic}
use Rattle.swreq_print.proofs.Steps.{each_step}
use Rattle.swreq_lines.proofs.TypeWords.{parts_of_type}
use Rattle.swreq_lines.proofs.types.read_type.Goals as goal

pub returns : goal.returns
returns c t h e =
    let x = c.args.reader.now.names.now in
    let p = parts_of_type c.args.reader.now.tells_apart t c.args.text.now c.next_piece-head.result.piece.now
    c.next_piece-head.result.rest.now h c.next_piece-head.ensures.piece e in
    let param = c.read_param.ensures (head t) h.0 p.0 in
    let steps = c.in_ok-steps.ensures (steps_of t) (each_step x t h.1) p.1 in
    ap₂ (λ g ss. with_steps (Generic g) ss) param (c.new.ensures ∙ steps) ∙ as_steps t
