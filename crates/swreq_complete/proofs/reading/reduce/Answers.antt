use Rattle.swreq_rule.specs.swreq_word.Relations.Chain.{done, more}
use Rattle.swreq_rule.proofs.swreq_word.Chains.{joined}
use Rattle.swreq_rule.proofs.Remaining.{remaining_falls}
use Rattle.swreq_complete.proofs.Places.{read_none}
use Rattle.swreq_complete.proofs.reading.reduce.Goals as goal

pub steps-init : goal.steps-init
steps-init c = record { chain = done; read = read_none c.args.rules.now c.args.word.now.items c.clear.new.self.items c.clear.ensures.items }

pub steps-smaller : goal.steps-smaller
steps-smaller c =
    remaining_falls c.args.rules.now c.steps.word.items c.take_next_step.new.word.items
    (rw c.if-branch.true at c.in_ok-take_next_step.ensures.step)

pub steps-preserved : goal.steps-preserved
steps-preserved c = record {
  chain = joined c.steps.invariant.chain (more (rw c.if-branch.true at c.in_ok-take_next_step.ensures.step) done);
  read = c.in_ok-take_next_step.ensures.read;
}
