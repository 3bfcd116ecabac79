use Rattle.std.proofs.Common.{◌∙◌, arith, length, sym}
use Rattle.std.proofs.lemmas.Result.{on_ok_weaker}
use Rattle.swreq_check.specs.Wanted.{maker}
use Rattle.swreq_machine.proofs.swreq_symbols.OfTexts.{text_over}
use Rattle.swreq_check.proofs.Flags.{query_in}
use Rattle.swreq_check.proofs.Placed.{maker_within, none_noted}
use Rattle.swreq_check.proofs.placing.note.Goals as goal

pub add_place-requires : goal.add_place-requires
add_place-requires c =
    let text = c.args.text.now in
    let within = maker_within text.world.now c.args.content c.args.k c.requires.k
    (λ q has. (query_in text.world.now text.table.now (text_over text) q has).0) c.in-Some.f (sym c.maker.ensures ∙ c.in-Some.is) in
    omega (arith, within, c.requires.places.counted)

pub returns-in-Some : goal.returns-in-Some
returns-in-Some c =
    let w = c.args.text.now.world.now in
    on_ok_weaker c.add_place.result
    (λ h. h (maker w c.args.content) (length w.signatures) (sym c.maker.ensures ∙ c.in-Some.is) c.requires.places) c.add_place.ensures

pub returns-in-None : goal.returns-in-None
returns-in-None c =
    let w = c.args.text.now.world.now in
    none_noted (maker w c.args.content) (length w.signatures) c.args.k c.args.places.now.items c.requires.places
    (sym c.maker.ensures ∙ c.in-None.is)
