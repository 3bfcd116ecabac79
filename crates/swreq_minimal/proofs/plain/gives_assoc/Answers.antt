use Rattle.swreq_machine.proofs.swreq_lemmas.Elements.{get_contains}
use Rattle.swreq_machine.proofs.swreq_symbols.Declared.{from_rank}
use Rattle.swreq_machine.proofs.swreq_symbols.OfTexts.{ids_over}
use Rattle.swreq_minimal.proofs.plain.gives_assoc.Goals as goal

pub holds_conformance-requires : goal.holds_conformance-requires
holds_conformance-requires c =
    let text = c.args.among.now.text in
    ((ids_over text).associated c.assoc-declared.result
    (get_contains text.world.now.lexicon.associated c.args.d.rank c.assoc-declared.result c.assoc-declared.ensures)).0

pub returns : goal.returns
returns c h ps plain =
    let p = c.assoc-declared.result.proto in
    let a = c.assoc-declared.result.name in
    let found = c.holds_conformance.ensures h in
    (plain, (found.0, p, a, found.1, found.2, from_rank c.args.among.now.text.world.now.lexicon p a c.args.d c.assoc-declared.ensures))
