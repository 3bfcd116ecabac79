use Rattle.std.proofs.Common.{◌∙◌, ◌++◌, ap}
use Rattle.std.proofs.lemmas.Result.{on_ok_weaker}
use Rattle.swreq_gen.proofs.Steps.{lengthened}
use Rattle.swreq_gen.proofs.lines.lengthen.Goals as goal

pub returns : goal.returns
returns c = on_ok_weaker c.put_number.result
    (lengthened c.args.k _ _ _ _ c.requires.from c.requires.before c.in_ok-put_dot.ensures
    (c.in_ok-append_bytes.ensures.ok ∙ ap (λ t. c.put_dot.new.path.items ++ t) c.as_slice.ensures))
    c.put_number.ensures
