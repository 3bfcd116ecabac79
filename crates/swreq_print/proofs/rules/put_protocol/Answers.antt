use Rattle.std.proofs.Common.{◌++◌, ◌∙◌, ℕ, List, ap, codes}
use Rattle.std.proofs.lemmas.Result.{on_err_weaker}
use Rattle.swreq_print.specs.Names.{protocol_name}
use Rattle.swreq_print.proofs.Failing.{fails_after_two}
use Rattle.swreq_print.proofs.rules.put_protocol.Goals as goal

pub returns-clause-err : goal.returns-clause-err
returns-clause-err c =
    let named = c.in_ok-append_bytes-2.ensures.ok ∙ ap (λ (name : List ℕ). c.append_bytes.new.out.items ++ name) c.protocol_name.ensures in
    on_err_weaker c.append_bytes-3.result
    (fails_after_two c.args.out.now.items c.append_bytes.new.out.items c.append_bytes-2.new.out.items c.append_bytes-3.new.out.items
    (codes "[") (protocol_name c.args.names.now c.args.proto) (codes "]") c.in_ok-append_bytes.ensures.ok named)
    c.append_bytes-3.ensures.err
