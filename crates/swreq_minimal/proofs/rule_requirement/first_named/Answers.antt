use Rattle.swreq_minimal.proofs.Speaking.{named_first}
use Rattle.swreq_minimal.proofs.rule_requirement.first_named.Goals as goal

pub returns-in_err-a : goal.returns-in_err-a
returns-in_err-a c = record { answer = rw c.from_residual.ensures (λ a d named first. c.in_err-a.ensures a named) }

pub returns : goal.returns
returns c = record {
  answer = named_first c.args.world.now.lexicon c.args.rules.now (record { outer = 0; inner = 0 }) c.args.front.now c.args.symbol
      c.in_ok-a.a c.in_ok-a.ensures c.first_behind.result c.first_behind.ensures.answer;
}
