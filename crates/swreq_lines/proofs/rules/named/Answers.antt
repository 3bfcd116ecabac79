use Rattle.swreq_lines.specs.Written.{rule_named}
use Rattle.swreq_lines.proofs.RuleNames.{later, nowhere}
use Rattle.swreq_lines.proofs.rules.named.Goals as goal

pub loop-k-preserved : goal.loop-k-preserved
loop-k-preserved c =
    later c.args.rules.now c.args.name.now c.loop-k.k
    (rule_named c.args.rules.now c.args.name.now) c.loop-k.invariant _ c.rule_name.result.now c.loop-k-test.true
    c.rule_name.ensures c.if-eq.ensures

pub returns : goal.returns
returns c =
    nowhere c.args.rules.now c.args.name.now c.loop-k.k (rule_named c.args.rules.now c.args.name.now) c.loop-k.invariant c.loop-k-test.false
