use Rattle.std.proofs.Common.{◌∙◌, ◌++◌, ℕ, List, Bool, ap}
use Rattle.std.specs.List.{flat_map}
use Rattle.swreq_closure.specs.Chains.{leads}
use Rattle.swreq_decl.specs.declared.skeleton.AssocDecl.{AssocDecl}
use Rattle.swreq_resolve.specs.declared.refusal.Refusal.{Refusal}
use Rattle.swreq_resolve.specs.First.{least}
use Rattle.swreq_resolve.specs.Refusals.{begins_in_protocol, of_primaries, of_entity, of_requirement, of_members}
use Rattle.swreq_resolve.proofs.Walks.{walked_over, then_least}
use Rattle.swreq_resolve.proofs.protocols.check_protocol.Goals as goal

pub returns : goal.returns
returns c =
    let begins : List ℕ → Bool = begins_in_protocol c.args.declared.now (leads c.args.inherits.now) c.args.place in
    let primaries : List Refusal = of_primaries c.args.declared.now (leads c.args.inherits.now) c.args.place in
    let inherits : List Refusal = flat_map (of_entity c.args.text.now c.args.declared.now begins) c.args.protocol.now.inherits in
    let clause : List Refusal = flat_map (of_requirement c.args.text.now c.args.declared.now begins) c.args.protocol.now.clause in
    let members : List Refusal = of_members c.args.text.now c.args.declared.now begins c.args.place c.args.protocol.now.members in
    then_least c.args.best c.check_all_primaries-best.result c.check_all_members.result primaries
    (inherits ++ (clause ++ members)) c.check_all_primaries-best.ensures
    (then_least c.check_all_primaries-best.result c.check_entities-best.result c.check_all_members.result inherits (clause ++ members)
    (walked_over (of_entity c.args.text.now c.args.declared.now begins) c.check_all_primaries-best.result c.check_entities-best.result
    c.items.result.now c.args.protocol.now.inherits c.check_entities-best.ensures c.items.ensures)
    (then_least c.check_entities-best.result c.check_requirements-best.result c.check_all_members.result clause members
    (walked_over (of_requirement c.args.text.now c.args.declared.now begins) c.check_entities-best.result c.check_requirements-best.result
    c.items-2.result.now c.args.protocol.now.clause c.check_requirements-best.ensures c.items-2.ensures)
    (c.check_all_members.ensures ∙ ap (λ (ms : List AssocDecl).
    least c.check_requirements-best.result (of_members c.args.text.now c.args.declared.now begins c.args.place ms)) c.items-3.ensures)))
