use Rattle.std.proofs.Common.{◌∙◌, ◌<◌, ap, arith, get_or, List, length, subst, sym}
use Rattle.std.proofs.lemmas.Option.{slice_get-get_or}
use Rattle.swreq_machine.specs.swreq_lowering.declared.ids.Query.{Query}
use Rattle.swreq_check.specs.declared.content.Made.{Made}
use Rattle.swreq_check.specs.Wanted.{machine_asked, machine_asked_at, made_by, places_of}
use Rattle.swreq_machine.specs.swreq_lowering.ByTable.{no_query}
use Rattle.swreq_machine.proofs.swreq_symbols.OfTexts.{text_over}
use Rattle.swreq_check.proofs.placing.maker.Goals as goal

pub overflow_cast-result : goal.overflow_cast-result
overflow_cast-result c =
    let within : c.args.k < length c.args.text.now.world.now.signatures =
    subst (λ (a : Made). c.args.k < places_of c.args.text.now.world.now a) (sym c.makes.ensures ∙ c.in-Systems.is) c.requires in
    omega (arith, within, (text_over c.args.text.now).short.signatures)

pub returns-in-Lines : goal.returns-in-Lines
returns-in-Lines c =
    let is = sym c.makes.ensures ∙ c.in-Lines.is in
    let within = subst (λ (a : Made). c.args.k < places_of c.args.text.now.world.now a) is c.requires in
    c.machine_asked.ensures ∙ ap (λ (qs : List Query). machine_asked (get_or qs c.args.k no_query)) c.queries.ensures
    ∙ sym (ap (λ (a : Made). made_by c.args.text.now.world.now a c.args.k) is
    ∙ ap machine_asked_at (slice_get-get_or c.args.text.now.world.now.queries c.args.k no_query within))
