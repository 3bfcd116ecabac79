use Rattle.std.proofs.Common.{◌<◌, length, arith}
use Rattle.std.proofs.lemmas.Result.{IfOk-weaker}
use Rattle.swreq_path.proofs.Leading.{last_of, ends_with}
use Rattle.swreq_path.proofs.paths.Path.target.Goals as goal

pub target-requires : goal.target-requires
target-requires c =
    let path = c.args.self.now in
    let some : 0 < length c.items-steps.result.now = let h = c.if-count-eq0.false in omega arith in
    let l = last_of c.args.rules.now c.items-steps.result.now path.steps c.index-steps-count.result path.start c.requires.0
    c.items-steps.ensures some c.index-steps-count.is c.requires.1 in
    (l.1.rule, l.1.is_rule)

pub returns : goal.returns
returns c =
    let path = c.args.self.now in
    let some : 0 < length c.items-steps.result.now = let h = c.if-count-eq0.false in omega arith in
    let l = last_of c.args.rules.now c.items-steps.result.now path.steps c.index-steps-count.result path.start c.requires.0
    c.items-steps.ensures some c.index-steps-count.is c.requires.1 in
    IfOk-weaker c.target.result _ _
    (λ w e. ends_with c.args.rules.now path.steps path.start c.requires.0 w (e l.0 c.requires.0 l.1) c.requires.1) c.target.ensures
