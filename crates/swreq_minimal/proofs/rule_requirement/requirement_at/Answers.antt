use Rattle.std.proofs.lemmas.Result.{IfOk-weaker}
use Rattle.swreq_minimal.proofs.Speaking.{property_requirement, same_type_requirement}
use Rattle.swreq_minimal.proofs.rule_requirement.requirement_at.Goals as goal

pub returns-in-Some-clause-requirement : goal.returns-in-Some-clause-requirement
returns-in-Some-clause-requirement c =
    property_requirement c.args.by.now.world.now.lexicon c.args.by.now.rules.now c.args.by.now.params c.args.left.now c.args.right.now
    c.args.table.now c.args.t c.requires.t c.requires.typed c.in-Some.r c.in-Some.ensures

pub returns-in-None-clause-requirement : goal.returns-in-None-clause-requirement
returns-in-None-clause-requirement c =
    IfOk-weaker c.same_type_requirement.result _ _
    (same_type_requirement c.args.by.now.world.now.lexicon c.args.by.now.rules.now c.args.by.now.params c.args.left.now c.args.right.now
    c.args.table.now c.same_type_requirement.new.table c.args.t
    c.same_type_requirement.ensures.extends c.requires.t c.requires.typed c.in-None.ensures)
    c.same_type_requirement.ensures.same
