use Rattle.std.proofs.Common.{get_or}
use Rattle.std.proofs.lemmas.List.Elements.{Contains-get_or}
use Rattle.swreq_machine.specs.swreq_derive.Facts.{generic_params}
use Rattle.swreq_minimal.specs.TextLists.{facts_by}
use Rattle.swreq_minimal.proofs.OfTextLists.{known_in}
use Rattle.swreq_minimal.proofs.Inserting.{any}
use Rattle.swreq_minimal.proofs.PlainTypes.{all_plain, none_plain, plain_next}
use Rattle.swreq_minimal.proofs.plain.are_plain.Goals as goal

pub has_plain_types-requires : goal.has_plain_types-requires
has_plain_types-requires c =
    let list = c.args.among.now.list.now in
    known_in c.args.among.now (get_or list c.loop-k.k any) (Contains-get_or list c.loop-k.k any c.loop-k-test.true)

pub loop-k-init : goal.loop-k-init
loop-k-init c =
    let l = c.args.among.now in
    none_plain (facts_by l) (generic_params l.params) l.text.table.now l.list.now

pub loop-k-preserved : goal.loop-k-preserved
loop-k-preserved c =
    let l = c.args.among.now in
    plain_next (facts_by l) (generic_params l.params) l.text.table.now l.list.now
    c.loop-k.k any c.loop-k-test.true c.loop-k.invariant (c.has_plain_types.ensures c.if-not-has_plain_types.false)

pub returns : goal.returns
returns c h =
    let l = c.args.among.now in
    all_plain (facts_by l) (generic_params l.params) l.text.table.now l.list.now c.loop-k.k c.loop-k-test.false c.loop-k.invariant
