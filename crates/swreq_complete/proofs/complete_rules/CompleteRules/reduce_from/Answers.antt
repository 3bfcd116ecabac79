use Rattle.std.proofs.Common.{subst}
use Rattle.swreq_rule.specs.Reduction.{Reduces}
use Rattle.swreq_complete.specs.Complete.{IsComplete}
use Rattle.swreq_complete.proofs.Answering.{reduces_least}
use Rattle.swreq_complete.proofs.complete_rules.CompleteRules.reduce_from.Goals as goal

pub returns-clause-congruent : goal.returns-clause-congruent
returns-clause-congruent c =
    (reduces_least c.args.self.now (subst IsComplete c.self.view_is c.self.invariant) c.args.word.now.items c.reduce_from.new.word.items
    (subst (λ r. Reduces r c.args.word.now.items c.reduce_from.new.word.items) c.self.view_is c.reduce_from.ensures.reduced)).0

pub returns-clause-least : goal.returns-clause-least
returns-clause-least c =
    (reduces_least c.args.self.now (subst IsComplete c.self.view_is c.self.invariant) c.args.word.now.items c.reduce_from.new.word.items
    (subst (λ r. Reduces r c.args.word.now.items c.reduce_from.new.word.items) c.self.view_is c.reduce_from.ensures.reduced)).1
