use Rattle.std.proofs.Common.{◌∙◌, ap, map}
use Rattle.std.proofs.lemmas.List.{take_all}
use Rattle.swreq_names.specs.Walk.{walked_direct}
use Rattle.swreq_names.proofs.Heirs.{steps_declared, steps_within}
use Rattle.swreq_names.proofs.Walked.{same_inheritance}
use Rattle.swreq_names.proofs.inheritance.inheritance.Goals as goal

pub returns-clause-is : goal.returns-clause-is
returns-clause-is c =
    let text = c.args.text.now in
    let d = c.args.d.now in
    let protocols = c.args.protocols.now in
    c.loop-p.invariant ∙ ap (map (walked_direct text d)) (take_all c.loop-p.p-index protocols c.loop-p-test.false)
    ∙ same_inheritance text d protocols

pub returns-clause-within : goal.returns-clause-within
returns-clause-within c =
    rw (returns-clause-is c) (steps_within c.args.text.now c.args.d.now c.args.protocols.now c.requires)

pub returns-clause-declared : goal.returns-clause-declared
returns-clause-declared c =
    rw (returns-clause-is c) (steps_declared c.args.text.now c.args.d.now c.args.protocols.now)
