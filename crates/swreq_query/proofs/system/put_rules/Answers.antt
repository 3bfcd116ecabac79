use Rattle.swreq_text.proofs.Grown.{on_err}
use Rattle.swreq_query.proofs.Systems.{line_grew, line_joined, line_stands}
use Rattle.swreq_query.proofs.system.put_rules.Goals as goal

pub loop-k-preserved : goal.loop-k-preserved
loop-k-preserved c = record {
  rest = line_joined c.args.names.now c.args.rules.now c.loop-k.k c.index-rules-k.result c.loop-k-test.true c.index-rules-k.is
      c.args.out.now.items c.loop-k.out.items c.put_rule.new.out.items c.loop-k.invariant.rest c.in_ok-put_rule.ensures.ok;
  part = line_stands c.args.names.now c.args.rules.now c.loop-k.k c.index-rules-k.result c.loop-k-test.true c.index-rules-k.is
      c.args.out.now.items c.loop-k.out.items c.put_rule.new.out.items c.loop-k.invariant.rest c.loop-k.invariant.part
      c.in_ok-put_rule.ensures.ok;
}

pub returns-in_err-put_rule-clause-err : goal.returns-in_err-put_rule-clause-err
returns-in_err-put_rule-clause-err c =
    on_err c.from_residual.result
    (line_grew c.args.names.now c.args.rules.now c.loop-k.k c.index-rules-k.result c.loop-k-test.true c.index-rules-k.is
    c.args.out.now.items c.loop-k.out.items c.put_rule.new.out.items c.loop-k.invariant.rest c.loop-k.invariant.part
    c.in_err-put_rule.ensures.err)
