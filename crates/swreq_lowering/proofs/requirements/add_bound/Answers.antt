use Rattle.swreq_param.specs.Tables.{term_at}
use Rattle.swreq_param.proofs.Growing.{unchanged}
use Rattle.swreq_lowering.specs.Requirements.{of_one_side, bound_of}
use Rattle.swreq_lowering.specs.Words.{words_by}
use Rattle.swreq_lowering.proofs.Growing.{adds_one, adds_then, on_ok}
use Rattle.swreq_lowering.proofs.requirements.add_bound.Goals as goal

pub returns-clause-adds : goal.returns-clause-adds
returns-clause-adds c =
    let w = words_by c.args.words.now in
    let t = term_at c.args.table.now c.args.subject.term in
    on_ok c.add_arguments.result
    (λ a. adds_then c.args.table.now c.args.table.now c.add_arguments.new.table c.args.into.now.items c.push.new.self.items
    c.add_arguments.new.into.items _ _
    (adds_one c.args.table.now c.args.table.now c.args.into.now.items c.push.new.self.items
    (record { requirement = c.bound_of.result; left_at = c.args.subject.at; right_at = c.args.subject.at })
    (of_one_side (bound_of w t c.args.entity.now) c.args.subject.at)
    (unchanged c.args.table.now) c.in_ok-push.ensures.items (c.bound_of.ensures.of c.args.table.now c.requires)
    (λ i. record { requirement = c.bound_of.ensures.means c.args.table.now i; left_at = c.args.subject.at; right_at = c.args.subject.at }))
    a)
    c.add_arguments.ensures.adds
