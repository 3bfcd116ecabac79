use Rattle.std.proofs.Common.{arith, subst}
use Rattle.swreq_complete.specs.swreq_word.Relations.{Linked}
use Rattle.swreq_complete.specs.swreq_rule.Steps.{Step}
use Rattle.swreq_map.proofs.Ending.{none_before}
use Rattle.swreq_map.proofs.appending.append.Goals as goal

pub reduce_from-requires : goal.reduce_from-requires
reduce_from-requires c =
    let rules = c.args.rules.now in
    none_before rules c.count-complete.ensures.complete c.args.word.now.items c.requires.least c.args.x c.put.new.word.items
    c.longest-longest.result c.saturating_sub-from.result c.put.ensures.items
    (omega (arith, c.saturating_sub-from.ensures, c.len.ensures))
    c.longest-longest.ensures

pub returns-clause-congruent : goal.returns-clause-congruent
returns-clause-congruent c =
    subst (λ w. Linked (Step c.args.rules.now) w c.reduce_from.new.word.items) c.put.ensures.items c.reduce_from.ensures.congruent
