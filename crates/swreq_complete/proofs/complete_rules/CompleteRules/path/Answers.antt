use Rattle.std.proofs.Common.{subst}
use Rattle.std.proofs.lemmas.Result.{IfOk-weaker}
use Rattle.swreq_path.specs.Reductions.{IsReductionPath}
use Rattle.swreq_path.proofs.Reducing.{path_reduces}
use Rattle.swreq_complete.proofs.Answering.{reduces_least}
use Rattle.swreq_complete.proofs.complete_rules.CompleteRules.path.Goals as goal

pub returns-clause-least : goal.returns-clause-least
returns-clause-least c =
    let rules = c.args.self.now in
    let w = c.args.word.now in
    IfOk-weaker c.reduction_path.result _ _
    (λ path r.
    let p = subst (λ rs. IsReductionPath rs path w r.0) c.indexed.ensures r.1 in
    let reduces = path_reduces rules path w r.0 p in
    (r.0, reduces.0, (reduces_least rules c.count-complete.ensures.complete w r.0 reduces.1).1))
    c.reduction_path.ensures
