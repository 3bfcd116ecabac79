use Rattle.std.proofs.Common.{◌++◌, codes}
use Rattle.std.proofs.lemmas.Result.{on_err_weaker}
use Rattle.swreq_text.proofs.Grown.{grew_next, none_grew, on_err}
use Rattle.swreq_print.specs.Rules.{rule_text}
use Rattle.swreq_query.proofs.system.put_rule.Goals as goal

pub returns-in_err-rule_text-clause-err : goal.returns-in_err-rule_text-clause-err
returns-in_err-rule_text-clause-err c =
    let rest = rule_text c.args.names.now c.args.rule.now ++ codes "\n" in
    on_err c.from_residual-in_err-rule_text.result
    (grew_next c.args.out.now.items c.append_bytes.new.out.items c.rule_text.new.out.items (codes "  ") rest c.in_ok-append_bytes.ensures.ok
    (none_grew c.append_bytes.new.out.items rest c.rule_text.new.out.items c.in_err-rule_text.ensures.err))

pub returns-clause-err : goal.returns-clause-err
returns-clause-err c =
    let text = rule_text c.args.names.now c.args.rule.now in
    on_err_weaker c.append_bytes-2.result
    (λ same. grew_next c.args.out.now.items c.append_bytes.new.out.items c.append_bytes-2.new.out.items (codes "  ") (text ++ codes "\n")
    c.in_ok-append_bytes.ensures.ok
    (grew_next c.append_bytes.new.out.items c.rule_text.new.out.items c.append_bytes-2.new.out.items text (codes "\n")
    c.in_ok-rule_text.ensures.ok
    (none_grew c.rule_text.new.out.items (codes "\n") c.append_bytes-2.new.out.items same)))
    c.append_bytes-2.ensures.err
