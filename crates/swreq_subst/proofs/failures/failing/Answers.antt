use Rattle.std.proofs.Common.{◌≡◌, ◌<◌, ◌^◌, ◌∙◌, Some, List, map, length, get_or, sym, ap, subst}
use Rattle.std.specs.Prelude.{All}
use Rattle.std.specs.Option.{option_map}
use Rattle.std.proofs.lemmas.List.{length-map}
use Rattle.std.proofs.lemmas.Result.{IfOk-weaker}
use Rattle.swreq_machine.specs.swreq_param.declared.ids.TermId.{TermId}
use Rattle.swreq_machine.specs.swreq_param.Tables.{term_at}
use Rattle.swreq_machine.specs.swreq_param.Terms.{Term}
use Rattle.swreq_machine.specs.swreq_derive.declared.known.Params.{Params}
use Rattle.swreq_machine.specs.swreq_derive.declared.requirements.Requirement.{Requirement}
use Rattle.swreq_machine.specs.swreq_derive.Facts.{requirement_of}
use Rattle.swreq_machine.specs.swreq_lowering.Requirements.{PlacedRequirement}
use Rattle.swreq_machine.specs.swreq_symbols.Known.{IsRequirementIn, IsTypeIn}
use Rattle.swreq_machine.proofs.swreq_symbols.OfText.{signature_is}
use Rattle.swreq_machine.specs.swreq_valid.Plans.{listed}
use Rattle.swreq_machine.specs.swreq_world.ByTable.{world_by}
use Rattle.swreq_machine.specs.swreq_world.FactsAt.{facts_of, written_list}
use Rattle.swreq_machine.specs.swreq_world.Worlds.{SignatureOver, signature_at}
use Rattle.swreq_subst.specs.Arguments.{IsOverArguments, param_count}
use Rattle.swreq_subst.specs.Calls.{IsArgumentIn}
use Rattle.swreq_subst.proofs.Calling.{all_of_text, is_short, list_is, named, of_callee, same_types}
use Rattle.swreq_subst.proofs.Numbering.{same_failing}
use Rattle.swreq_subst.proofs.Replacing.{over_places}
use Rattle.swreq_subst.proofs.failures.failing.Goals as goal

pub numbers_of-requires-clause-by : goal.numbers_of-requires-clause-by
numbers_of-requires-clause-by c =
    let old = c.args.table.now in
    let x = c.args.world.now.lexicon in
    let types = c.in_ok-types.types.items in
    let are : named types ≡ c.args.c.now.args = c.in_ok-types.ensures ∙ c.items.ensures in
    record {
      text = c.requires.text;
      args = subst (All (IsTypeIn old x)) (sym c.deref.ensures.value)
          (all_of_text old x types (subst (All (IsArgumentIn old x)) (sym are) c.requires.call.args));
    }

pub numbers_of-requires-clause-list : goal.numbers_of-requires-clause-list
numbers_of-requires-clause-list c =
    let old = c.args.table.now in
    let w = c.args.world.now in
    let g = c.args.c.now.g in
    let p : Params = (signature_at w g).params in
    let types = c.in_ok-types.types.items in
    let list = c.in_ok-list.list.items in
    let n = length c.deref.result.now in
    let are : named types ≡ c.args.c.now.args = c.in_ok-types.ensures ∙ c.items.ensures in
    let count : n ≡ param_count p
    = ap length c.deref.ensures.value ∙ sym (length-map types (λ (t : TermId). Some t)) ∙ ap length are ∙ c.requires.call.count in
    let own : All (λ (r : Requirement). IsRequirementIn old w.lexicon r × IsOverArguments old p c.deref.result.now r) list
    = λ k d l. (
    let one = of_callee old w g list c.in_ok-list.ensures c.requires.text c.requires.call.callee k d l in
    (one.0, over_places p n count (requirement_of old (get_or list k d)) one.1)
    ) in
    subst (All (λ (r : Requirement). IsRequirementIn old w.lexicon r × IsOverArguments old c.params.result c.deref.result.now r))
    (sym c.deref-2.ensures.value)
    (subst (λ (q : Params). All (λ (r : Requirement). IsRequirementIn old w.lexicon r × IsOverArguments old q c.deref.result.now r) list)
    (sym c.params.ensures) own)

pub numbers_of-requires-clause-few : goal.numbers_of-requires-clause-few
numbers_of-requires-clause-few c =
    subst (λ (rs : List Requirement). length rs < 2 ^ 32) (sym c.deref-2.ensures.value)
    (is_short c.args.table.now c.args.world.now c.args.c.now.g c.in_ok-list.list.items c.in_ok-list.ensures c.requires.text.short
    c.requires.call.callee)

pub returns-clause-failing : goal.returns-clause-failing
returns-clause-failing c =
    let old = c.args.table.now in
    let w = c.args.world.now in
    let v = world_by old w in
    let m = c.args.machine.now in
    let f = signature_at v c.args.c.now.f in
    let g = c.args.c.now.g in
    let types = c.in_ok-types.types.items in
    let list = c.in_ok-list.list.items in
    let ts = map (term_at old) types in
    let are : map (option_map (term_at old)) c.args.c.now.args ≡ map (λ (t : Term). Some t) ts
    = ap (map (option_map (term_at old))) (sym (c.in_ok-types.ensures ∙ c.items.ensures)) ∙ same_types old types in
    let params : c.params.result ≡ (signature_at v g).params
    = c.params.ensures ∙ sym (ap (λ (h : SignatureOver PlacedRequirement). h.params) (signature_is w old g)) in
    let rs : listed old c.deref-2.result.now ≡ written_list (signature_at v g)
    = ap (listed old) c.deref-2.ensures.value ∙ sym (list_is old w g list c.in_ok-list.ensures) in
    IfOk-weaker c.numbers_of.result _ _
    (λ numbers h. (
      ts,
      (
        are,
        same_failing (facts_of v) (written_list f) c.requires.machine.params params
            (ap (map (term_at old)) c.deref.ensures.value) rs numbers.items
            (h (written_list f) c.requires.machine.machine),
      ),
    ))
    c.numbers_of.ensures.failing
