use Rattle.std.proofs.Common.{◌≡◌, ◌∙◌, ap, rules, sym, subst, get_or, List, [], ◌∷◌, IfSome}
use Rattle.std.specs.Borrow.{Bor}
use Rattle.std.specs.Prelude.{insert, remove}
use Rattle.std.proofs.lemmas.List.Elements.{Contains-get_or}
use Rattle.swreq_machine.specs.swreq_derive.Derivation.{Derivable}
use Rattle.swreq_machine.specs.swreq_derive.Derivation.TermStatement.{Requires}
use Rattle.swreq_machine.specs.swreq_derive.declared.requirements.Requirement.{Requirement}
use Rattle.swreq_machine.specs.swreq_derive.Facts.{requirement_of}
use Rattle.swreq_machine.specs.swreq_symbols.Texts.{IsRequirementOfText}
use Rattle.swreq_list_rules.specs.ListRules.{AreOfList, ListRulesView}
use Rattle.swreq_list_rules.specs.Settings.{AreKnownIn, facts_in, params_in, said_in, source_in}
use Rattle.swreq_machine.specs.swreq_complete.declared.limit.Failed.TheVariants.{Memory}
use Rattle.swreq_minimal.proofs.Passing.{LeavesNow, one_dropped, one_kept, parted, put_back, there_before, without}
use Rattle.swreq_minimal.proofs.Telling.{out_of_memory, stopped}
use Rattle.swreq_minimal.proofs.dropping.drop_at.Goals as goal

-- ---- the question whether it is derivable from the others

pub is_derivable-requires-clause-rules : goal.is_derivable-requires-clause-rules
is_derivable-requires-clause-rules g c =
    let s = c.args.setting.now in
    subst (λ (z : List Requirement). IfSome c.args.rules (λ (rules : Bor ListRulesView). AreOfList s (said_in s z) rules.now))
    (sym (c.deref.ensures.value ∙ c.remove-one.ensures.items)) c.requires.rules

pub is_derivable-requires-clause-asked : goal.is_derivable-requires-clause-asked
is_derivable-requires-clause-asked g c =
    let s = c.args.setting.now in
    let now = c.args.left.now.items in
    let one = c.remove-one.result in
    record {
      known = subst (AreKnownIn s) (sym (c.deref.ensures.value ∙ c.remove-one.ensures.items))
          (λ r h. c.requires.left r (there_before s.checked.text.table.now now c.args.place one c.requires.place r h));
      asked = subst (IsRequirementOfText s.checked.text) (sym c.remove-one.ensures.value)
          (c.requires.left (get_or now c.args.place one) (Contains-get_or now c.args.place one c.requires.place));
    }

pub returns-in_err-derivable-clause-tells : goal.returns-in_err-derivable-clause-tells
returns-in_err-derivable-clause-tells g c =
    let s = c.args.setting.now in
    stopped s (λ l. l ≡ said_in s (remove c.args.left.now.items c.args.place)) c.from_residual.result c.in_err-derivable.field-0.0
    (g.W.Watch.told c.args.watch.now) (g.W.Watch.told c.is_derivable.new.watch) c.from_residual.ensures.1
    (rw (c.deref.ensures.value, c.remove-one.ensures.items) at c.in_err-derivable.ensures.tells)

-- ---- it is dropped

pub returns-then-derivable-clause-leaves : goal.returns-then-derivable-clause-leaves
returns-then-derivable-clause-leaves g c =
    let s = c.args.setting.now in
    let terms = s.checked.text.table.now in
    let now = c.args.left.now.items in
    let one = c.remove-one.result in
    subst (LeavesNow (facts_in s) (params_in s) terms now c.args.place one c.requires.place)
    (sym {A = List Requirement} c.remove-one.ensures.items)
    (one_dropped (facts_in s) (params_in s) terms now c.args.place one c.requires.place
    (subst (λ z. Derivable (facts_in s) (source_in s (said_in s z)) (Requires (requirement_of terms (get_or now c.args.place one))))
    (c.deref.ensures.value ∙ c.remove-one.ensures.items)
    (subst (λ z. Derivable (facts_in s) (source_in s (said_in s c.deref.result.now)) (Requires (requirement_of terms z)))
    c.remove-one.ensures.value (c.in_ok-derivable.ensures.answer.0 c.if-derivable.true))))

pub returns-then-derivable-clause-stays : goal.returns-then-derivable-clause-stays
returns-then-derivable-clause-stays g c =
    let terms = c.args.setting.now.checked.text.table.now in
    ([], c.remove-one.ensures.items ∙ without terms c.args.left.now.items c.args.place c.remove-one.result c.requires.place)

pub returns-then-derivable-clause-known : goal.returns-then-derivable-clause-known
returns-then-derivable-clause-known g c =
    let s = c.args.setting.now in
    let now = c.args.left.now.items in
    subst (AreKnownIn s) (sym c.remove-one.ensures.items)
    (λ r h. c.requires.left r (there_before s.checked.text.table.now now c.args.place c.remove-one.result c.requires.place r h))

pub returns-then-derivable-clause-tells : goal.returns-then-derivable-clause-tells
returns-then-derivable-clause-tells g c =
    rw (c.deref.ensures.value, c.remove-one.ensures.items) at c.in_ok-derivable.ensures.tells

-- ---- it is put back

pub returns-clause-leaves : goal.returns-clause-leaves
returns-clause-leaves g c =
    let s = c.args.setting.now in
    let terms = s.checked.text.table.now in
    let now = c.args.left.now.items in
    let k = c.args.place in
    let one = c.remove-one.result in
    let back : c.insert.new.self.items ≡ insert c.remove-one.new.self.items k one = search rules in
    subst (LeavesNow (facts_in s) (params_in s) terms now k one c.requires.place)
    (sym (back ∙ (ap (λ z. insert z k one) c.remove-one.ensures.items ∙ ap (λ z. insert (remove now k) k z) c.remove-one.ensures.value)))
    (one_kept (facts_in s) (params_in s) terms now k one c.requires.place
    (λ h. let a = c.in_ok-derivable.ensures.answer.1
    (subst (λ z. Derivable (facts_in s) (source_in s (said_in s z)) (Requires (requirement_of terms one)))
    (sym (c.deref.ensures.value ∙ c.remove-one.ensures.items))
    (subst (λ z. Derivable (facts_in s) (source_in s (said_in s (remove now k))) (Requires (requirement_of terms z)))
    (sym c.remove-one.ensures.value) h)) in
    let b = c.if-derivable.false in cc))

pub returns-clause-stays : goal.returns-clause-stays
returns-clause-stays g c =
    let terms = c.args.setting.now.checked.text.table.now in
    let now = c.args.left.now.items in
    let k = c.args.place in
    let one = c.remove-one.result in
    let back : c.insert.new.self.items ≡ insert c.remove-one.new.self.items k one = search rules in (
      get_or now k one ∷ [],
      back ∙ (ap (λ z. insert z k one) c.remove-one.ensures.items ∙ (ap (λ z. insert (remove now k) k z) c.remove-one.ensures.value
          ∙ (put_back terms now k one c.requires.place ∙ parted now k one c.requires.place))),
    )

pub returns-clause-known : goal.returns-clause-known
returns-clause-known g c =
    let s = c.args.setting.now in
    let now = c.args.left.now.items in
    let k = c.args.place in
    let one = c.remove-one.result in
    let back : c.insert.new.self.items ≡ insert c.remove-one.new.self.items k one = search rules in
    subst (AreKnownIn s)
    (sym (back ∙ (ap (λ z. insert z k one) c.remove-one.ensures.items ∙ (ap (λ z. insert (remove now k) k z) c.remove-one.ensures.value
    ∙ put_back s.checked.text.table.now now k one c.requires.place))))
    c.requires.left

pub returns-clause-tells : goal.returns-clause-tells
returns-clause-tells g c = rw (c.deref.ensures.value, c.remove-one.ensures.items) at c.in_ok-derivable.ensures.tells

pub returns-in_err-map_err-clause-tells : goal.returns-in_err-map_err-clause-tells
returns-in_err-map_err-clause-tells g c =
    let s = c.args.setting.now in
    let lost : c.in_err-map_err.field-0.0 ≡ Memory = search rules in
    let result = c.from_residual-in_err-map_err.result in
    out_of_memory s (λ l. l ≡ said_in s (remove c.args.left.now.items c.args.place)) result
    (g.W.Watch.told c.args.watch.now) (g.W.Watch.told c.is_derivable.new.watch)
    (rw lost at c.from_residual-in_err-map_err.ensures.1)
    (rw (c.deref.ensures.value, c.remove-one.ensures.items) at c.in_ok-derivable.ensures.tells)
