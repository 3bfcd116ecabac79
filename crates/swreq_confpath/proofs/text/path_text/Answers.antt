use Rattle.std.proofs.Common.{◌++◌, ◌∙◌, ap}
use Rattle.std.proofs.lemmas.Result.{on_ok_weaker}
use Rattle.swreq_machine.specs.swreq_derive.Facts.{requirement_of}
use Rattle.swreq_print.specs.Signatures.{requirement_text}
use Rattle.swreq_machine.specs.swreq_lexicon.Views.{LexiconView}
use Rattle.swreq_confpath.specs.Numbers.{in_brackets}
use Rattle.swreq_confpath.proofs.Texting.{first_known, first_names_protocol, numbers_after_first, path_written}
use Rattle.swreq_machine.proofs.swreq_symbols.OfTexts.{text_over}
use Rattle.swreq_confpath.proofs.text.path_text.Goals as goal

pub put_first-requires : goal.put_first-requires
put_first-requires c =
    (first_known c.args.text.now.table.now c.args.text.now.world.now c.args.f c.in_ok-list.list.items c.in_ok-list.ensures
    c.args.path.now.first c.args.path.now.steps c.requires.numbers c.index-first.result.now c.index-first.ensures
    (text_over c.args.text.now) c.requires.f).0

pub put_steps-requires-clause-proto : goal.put_steps-requires-clause-proto
put_steps-requires-clause-proto c =
    first_names_protocol c.args.text.now.table.now c.args.text.now.world.now c.args.f c.in_ok-list.list.items c.in_ok-list.ensures
    c.args.path.now.first c.args.path.now.steps c.requires.numbers c.index-first.result.now c.index-first.ensures
    c.protocol_named.result (c.protocol_named.ensures c.args.text.now.table.now) (text_over c.args.text.now) c.requires.f

pub put_steps-requires-clause-steps : goal.put_steps-requires-clause-steps
put_steps-requires-clause-steps c =
    numbers_after_first c.args.text.now.table.now c.args.text.now.world.now c.args.f c.in_ok-list.list.items c.in_ok-list.ensures
    c.args.path.now.first c.args.path.now.steps c.requires.numbers c.index-first.result.now c.index-first.ensures
    c.protocol_named.result (c.protocol_named.ensures c.args.text.now.table.now) c.items.result.now c.items.ensures

pub returns-clause-ok : goal.returns-clause-ok
returns-clause-ok c =
    let first = c.in_ok-put_first.ensures
    ∙ ap (λ (z : LexiconView). c.new-whole.result.items
    ++ in_brackets (requirement_text z (requirement_of c.args.text.now.table.now c.index-first.result.now))) c.lexicon.ensures in
    let text = path_written c.args.text.now.table.now c.args.text.now.world.now c.args.f c.in_ok-list.list.items c.in_ok-list.ensures
    c.args.path.now.first c.args.path.now.steps c.requires.numbers c.index-first.result.now c.index-first.ensures
    c.protocol_named.result (c.protocol_named.ensures c.args.text.now.table.now) c.items.result.now c.new-whole.result.items
    c.put_first.new.out.items c.put_steps.new.out.items c.items.ensures c.new-whole.ensures.items first c.in_ok-put_steps.ensures in
    on_ok_weaker c.append_bytes.result (λ e. e ∙ ap (λ z. c.args.out.now.items ++ z) (c.deref.ensures.value ∙ text))
    c.append_bytes.ensures.ok
