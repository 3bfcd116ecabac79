use Rattle.std.proofs.Common.{◌≡◌, ap, rules}
use Rattle.std.proofs.lemmas.Result.{IfOk-weaker}
use Rattle.swreq_world.specs.swreq_derive.Facts.{requirement_of}
use Rattle.swreq_world.specs.swreq_lowering.ByTable.{asks_by, query_by}
use Rattle.swreq_symbols.specs.Texts.{world_of}
use Rattle.swreq_verify.specs.Judgements.{yes}
use Rattle.swreq_verify.specs.Laying.{section_of}
use Rattle.swreq_verify.proofs.Judged.{found_judged}
use Rattle.swreq_verify.proofs.judging.judgement_of.Goals as goal

pub returns-then-eq-clause-said : goal.returns-then-eq-clause-said
returns-then-eq-clause-said c =
    let terms = c.args.text.now.table.now in
    let s = section_of terms c.args.section.now in
    let heading : s.heading ≡ yes = search rules in
    IfOk-weaker c.answer.result _ _
    (λ said found. found_judged (world_of c.args.text.now) (query_by terms c.args.query) s (requirement_of terms c.in-Requirement.r)
    said.judgement (record { asks = ap (asks_by terms) c.in-Requirement.is; heading = heading }) found)
    c.answer.ensures.said
