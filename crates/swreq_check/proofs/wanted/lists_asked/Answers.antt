use Rattle.std.proofs.Common.{◌∙◌, ap, arith, get_or, length, subst, sym, Contains}
use Rattle.std.proofs.lemmas.List.Elements.{Contains-get_or}
use Rattle.swreq_machine.specs.swreq_lowering.declared.ids.FuncId.{FuncId}
use Rattle.swreq_machine.specs.swreq_lowering.declared.ids.Query.{Query}
use Rattle.swreq_machine.proofs.swreq_symbols.OfTexts.{text_over}
use Rattle.swreq_check.proofs.Asking.{listed_function}
use Rattle.swreq_check.proofs.Flags.{query_in}
use Rattle.swreq_machine.specs.swreq_lowering.ByTable.{no_query}
use Rattle.swreq_check.proofs.wanted.lists_asked.Goals as goal

pub index_mut-requires : goal.index_mut-requires
index_mut-requires c =
    let q : Query = get_or c.queries.result.now c.loop-k.k no_query in
    let asks = listed_function q c.in-Some.f (sym c.list_asked.ensures ∙ c.in-Some.is) in
    let below = query_in c.args.text.now.world.now c.args.text.now.table.now (text_over c.args.text.now) q
    (subst (λ qs. Contains qs q) c.queries.ensures
    (Contains-get_or c.queries.result.now c.loop-k.k no_query
    (omega (arith, ap length c.queries.ensures, ap length c.queries-k-end.ensures, c.loop-k-test.true)))) in
    omega (arith, below.0, ap (λ (f : FuncId). f.place) asks, c.loop-k.invariant.counted)
