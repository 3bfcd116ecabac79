use Rattle.std.proofs.Common.{◌≡◌, ◌∙◌, ◌-◌, List, [], None, ap, length, refl, subst, sym}
use Rattle.swreq_machine.specs.swreq_param.{declared.ids.ParamId.{ParamId}, Tables.{Extends}, Terms.{Term}}
use Rattle.swreq_machine.specs.swreq_derive.declared.requirements.Requirement.{Requirement, TheVariants.{Conf, Layout, Same}}
use Rattle.swreq_machine.specs.swreq_derive.{declared.requirements.Statement.TheVariants.{Holds}, Derivation.Source.{Written}}
use Rattle.swreq_machine.specs.{swreq_derive.Facts.{generic_params, requirement_of}, swreq_complete.Alike.{ReduceAlike}}
use Rattle.swreq_machine.specs.{swreq_correspondence.{Symbols.{left_side}, Shown.{ShowsUsable}}, swreq_lowering.ByTable.{HasIdsOf}}
use Rattle.swreq_machine.specs.{swreq_symbols.Meaning.{symbols_of}, swreq_world.{ByTable.{world_by}, FactsAt.{facts_at, facts_of}}}
use Rattle.swreq_machine.{specs.swreq_world.{FactsAt.{written_list}, Worlds.{signature_at}}, proofs.swreq_symbols.Symbols.{symbols_law}}
use Rattle.swreq_machine.proofs.swreq_symbols.Symbols.{text_law}
use Rattle.swreq_derivation.specs.{declared.derivation.Derivation.{Derivation}, UnderWay.{AreIdsIn}}
use Rattle.swreq_births.specs.Systems.{rules_at, systems_of}
use Rattle.swreq_explain.{specs.{declared.numbered.Numbered.{Numbered}, Written.{IsAsked}}, proofs.AskedLemmas.{asked_shown}}
use Rattle.swreq_explain.proofs.{HistoryLemmas.{sides_are_shown}, NumberingLemmas.{left_by, right_by}, Standing.{written_derived}}
use Rattle.swreq_explain.proofs.{Standing.{written_lines, written_over}, TextLines.{printed_ids}}
use Rattle.swreq_explain.proofs.explaining.explain_by.Goals as goal

ids_in : (terms : List Term) (r : Requirement) → HasIdsOf terms r → AreIdsIn terms (Holds r)
ids_in terms (Conf t p) h = h
ids_in terms (Layout t) h = h
ids_in terms (Same t u) h = h

begun : {old taken : List Term} {s : Derivation} → taken ≡ old → s ≡ record { table = taken; lines = [] }
    → s ≡ record { table = old; lines = [] }
begun e h = h ∙ (λ i. record { table = e i; lines = [] })

extended : {old new : List Term} {s : Derivation} (v : Derivation) → s ≡ record { table = old; lines = [] } → new ≡ v.table
    → Extends s.table v.table
    → Extends old new
extended {old} {new} {s} v begin end more =
    subst (λ (z : List Term). Extends old z) (sym end) (subst (λ (z : Derivation). Extends z.table v.table) begin more)

pub lines_on-written-requires : goal.lines_on-written-requires
lines_on-written-requires c =
    let terms = c.args.table.now in
    let w = world_by terms c.args.world.now in
    let b = c.args.history.now in
    let (f, is, holds) = c.requires.yes in
    let closed = c.requires.text.closed in
    let m = symbols_of c.args.world.now.lexicon in
    let gs = generic_params (signature_at w f).params in
    let rs = written_list (signature_at w f) in
    let rules = rules_at b (length (systems_of b) - 1) in
    let r = requirement_of terms c.args.r in
    let shown =
    asked_shown m (facts_of w) (symbols_law w closed) (text_law w closed) rules gs rs is.rules is.complete is.in_text r holds.derivable in
    let n : Numbered = record { owner = None; number = 0; requirement = c.args.r } in
    let left = c.in_ok-sides.ensures.left in
    let right = c.in_ok-sides.ensures.right in
    let usable = subst (λ (z : List ParamId). ShowsUsable m (facts_of w) (Written z rs) (ReduceAlike rules) r)
    (λ i. generic_params (sym is.params i)) shown.0 in
    subst (λ (z : List Term). IsAsked b z c.args.r c.in_ok-by_itself.by_itself c.in_ok-sides.sides.0 c.in_ok-sides.sides.1)
    (sym (ap (λ (v : Derivation). v.table) c.new-derivation.ensures ∙ c.replace-taken.ensures.value)) (record {
      history_is = is.history;
      some = is.some;
      ids = ids_in terms c.args.r holds.ids.0;
      in_full = c.in_ok-by_itself.ensures;
      sides = sides_are_shown b.alphabet m (facts_of w) is.symbols rules rs None terms n c.in_ok-by_itself.by_itself c.in_ok-sides.sides.0
          c.in_ok-sides.sides.1 refl c.in_ok-by_itself.ensures left right usable;
      alike = subst (λ z. ReduceAlike rules c.in_ok-sides.sides.1 z) (sym (left ∙ left_by m gs rs None r))
          (subst (λ z. ReduceAlike rules z (left_side m (Written gs rs) r)) (sym (right ∙ right_by m gs rs None r)) shown.1);
    })

pub returns-clause-derived : goal.returns-clause-derived
returns-clause-derived c = λ f is.
    written_derived c.args.table.now c.into_table.result c.args.world.now f c.args.history.now _ c.requires.text is
    (written_over c.args.table.now _ _ _ c.args.history.now _ (begun c.replace-taken.ensures.value c.new-derivation.ensures)
    c.into_table.ensures
    c.in_ok-lines.ensures.continues c.in_ok-lines.ensures.derived c.in_ok-lines.ensures.ids)

pub returns-clause-lines : goal.returns-clause-lines
returns-clause-lines c = λ f is.
    written_lines c.args.table.now c.into_table.result c.args.world.now f c.args.history.now _ c.requires.text is
    (written_over c.args.table.now _ _ _ c.args.history.now _ (begun c.replace-taken.ensures.value c.new-derivation.ensures)
    c.into_table.ensures
    c.in_ok-lines.ensures.continues c.in_ok-lines.ensures.derived c.in_ok-lines.ensures.ids)

pub returns-clause-ids : goal.returns-clause-ids
returns-clause-ids c =
    let new = c.into_table.result in
    let w = c.args.world.now in
    let (f, is, holds) = c.requires.yes in
    printed_ids w.lexicon (facts_at w f) refl refl new _
    (written_lines c.args.table.now new w f c.args.history.now _ c.requires.text is
    (written_over c.args.table.now _ _ _ c.args.history.now _ (begun c.replace-taken.ensures.value c.new-derivation.ensures)
    c.into_table.ensures
    c.in_ok-lines.ensures.continues c.in_ok-lines.ensures.derived c.in_ok-lines.ensures.ids))

pub returns-clause-extends : goal.returns-clause-extends
returns-clause-extends c = extended c.lines_on-written.new.derivation (begun c.replace-taken.ensures.value c.new-derivation.ensures)
    c.into_table.ensures
    c.lines_on-written.ensures.continues.grows.extends

pub returns-in_err-lines-clause-extends : goal.returns-in_err-lines-clause-extends
returns-in_err-lines-clause-extends c = extended c.lines_on-written.new.derivation (begun c.replace-taken.ensures.value
    c.new-derivation.ensures) c.into_table.ensures
    c.lines_on-written.ensures.continues.grows.extends
