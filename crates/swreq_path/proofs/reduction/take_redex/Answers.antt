use Rattle.std.proofs.lemmas.Result.{on_ok_weaker}
use Rattle.swreq_rule.proofs.Numbers.{rule_there}
use Rattle.swreq_path.proofs.reduction.take_redex.Goals as goal

pub take_redex_of-requires-clause-redex : goal.take_redex_of-requires-clause-redex
take_redex_of-requires-clause-redex c =
    let p = c.requires.redex.chosen in
    record {
      rules = c.args.rules.now;
      number = c.args.redex.number;
      is_rule = rule_there c.args.rules.now c.args.redex.number p.rule c.index-rules-redex.result p.is_rule c.index-rules-redex.is;
      redex = c.requires.redex;
    }

pub returns-clause-ok : goal.returns-clause-ok
returns-clause-ok c =
    let p = c.requires.redex.chosen in
    on_ok_weaker c.take_redex_of.result
    (λ adds. adds c.args.rules.now
    (rule_there c.args.rules.now c.args.redex.number p.rule c.index-rules-redex.result p.is_rule c.index-rules-redex.is) c.requires.redex)
    c.take_redex_of.ensures.ok
