use Rattle.std.proofs.Common.{◌∙◌, map, sym, ap, ap₂, subst}
use Rattle.swreq_machine.specs.swreq_param.Tables.{term_at}
use Rattle.swreq_machine.specs.swreq_derive.Derivation.TermRequirement.{Equals}
use Rattle.swreq_machine.specs.swreq_derive.Facts.{requirement_of}
use Rattle.swreq_machine.specs.swreq_lowering.ByTable.{HasIdsOf}
use Rattle.swreq_subst.specs.Arguments.{requirement_with, with_arguments}
use Rattle.swreq_subst.proofs.Staying.{types_stay}
use Rattle.swreq_subst.proofs.arguments.requirement_with.Goals as goal

pub returns-in_ok-second-in-Same-clause-stands : goal.returns-in_ok-second-in-Same-clause-stands
returns-in_ok-second-in-Same-clause-stands c =
    let old = c.args.table.now in
    let mid = c.with_arguments-in-Same.new.table in
    let ids = subst (HasIdsOf old) c.in-Same.is c.requires.r.0 in
    let more = c.with_arguments-in-Same.ensures.extends in
    let first = c.with_arguments-in-Same-2.ensures.extends.stands c.in_ok-first-in-Same.first c.in_ok-first-in-Same.ensures.id
    ∙ c.in_ok-first-in-Same.ensures.stands in
    let second = c.in_ok-second-in-Same.ensures.stands
    ∙ ap₂ (with_arguments c.args.params) (types_stay old mid more c.args.args.now c.requires.args) (more.stands c.in-Same.right ids.1) in
    ap₂ Equals first second
    ∙ sym (ap (λ r. requirement_with c.args.params (map (term_at old) c.args.args.now) (requirement_of old r)) c.in-Same.is)
