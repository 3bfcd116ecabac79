use Rattle.std.proofs.Common.{List, refl}
use Rattle.std.proofs.lemmas.Bool.{iff_false}
use Rattle.swreq_print.specs.swreq_derive.Derivation.{TermRequirement}
use Rattle.swreq_machine.specs.swreq_symbols.Texts.{term_of, world_of}
use Rattle.swreq_machine.specs.Asked.{IsDerivable}
use Rattle.swreq_machine.specs.Machines.{IsMachineOf}
use Rattle.swreq_print.specs.swreq_lowering.Queries.TermAsks.{AsksReduced}
use Rattle.swreq_query.specs.Answers.{IsAnswer}
use Rattle.swreq_query.specs.Answers.Answer.{Invalid}
use Rattle.swreq_query.specs.declared.verdict.Verdict.TheVariants as verdicts
use Rattle.swreq_query.proofs.Appending.{line_appended, type_appended}
use Rattle.swreq_query.proofs.OneAnswer.{no_verdict, only_verdict}
use Rattle.swreq_query.proofs.reduced.reduced_line.Goals as goal
use Rattle.swreq_query.proofs.reduced.reduced_line.Goals.{In_ok-append_bytes}

-- the answer where the type is not valid
invalid : (c : In_ok-append_bytes) (list : List TermRequirement)
    → IsMachineOf (world_of c.args.text.now) list c.args.machine.now
    → IsAnswer (IsDerivable (world_of c.args.text.now) c.args.machine.now list) (AsksReduced (term_of c.args.text.now c.args.t))
    Invalid
invalid c list is =
    (term_of c.args.text.now c.args.t, refl, iff_false (c.reduce.ensures.valid list is) c.if-reduce.false)

pub returns-in_ok-type_line-clause-ok : goal.returns-in_ok-type_line-clause-ok
returns-in_ok-type_line-clause-ok c = λ list is.
    let valid = (c.reduce.ensures.valid list is).0 c.if-reduce.true in
    let least = c.reduce.ensures.reduced list is valid in
    type_appended (IsDerivable (world_of c.args.text.now) c.args.machine.now list) c.args.text.now.world.now.lexicon
    (term_of c.args.text.now c.args.t) c.lexicon.result.now c.param.result c.reduce.new.scratch.head c.steps.result.now
    c.reduce.new.scratch.steps c.args.out.now.items c.type_line.new.out.items c.lexicon.ensures c.param.ensures c.steps.ensures valid
    (least.equal, least.least) c.in_ok-type_line.ensures.ok

pub returns-in_ok-type_line-clause-verdict : goal.returns-in_ok-type_line-clause-verdict
returns-in_ok-type_line-clause-verdict c = λ list is.
    no_verdict (IsDerivable (world_of c.args.text.now) c.args.machine.now list) (term_of c.args.text.now c.args.t)
    ((c.reduce.ensures.valid list is).0 c.if-reduce.true)

pub returns-in_ok-append_bytes-clause-ok : goal.returns-in_ok-append_bytes-clause-ok
returns-in_ok-append_bytes-clause-ok c = λ list is.
    line_appended (IsDerivable (world_of c.args.text.now) c.args.machine.now list) c.args.text.now.world.now.lexicon
    (AsksReduced (term_of c.args.text.now c.args.t)) Invalid c.line.result.now c.args.out.now.items c.append_bytes.new.out.items
    (invalid (goal.at.returns-in_ok-append_bytes-clause-ok c).In_ok-append_bytes list is)
    (c.line.ensures c.args.text.now.world.now.lexicon) c.in_ok-append_bytes.ensures.ok

pub returns-in_ok-append_bytes-clause-verdict : goal.returns-in_ok-append_bytes-clause-verdict
returns-in_ok-append_bytes-clause-verdict c = λ list is.
    only_verdict (IsDerivable (world_of c.args.text.now) c.args.machine.now list)
    (AsksReduced (term_of c.args.text.now c.args.t)) verdicts.Invalid
    (invalid (goal.at.returns-in_ok-append_bytes-clause-verdict c).In_ok-append_bytes list is)
