use Rattle.std.proofs.Common.{◌≡◌, ◌∙◌, ◌++◌, ◌∷◌, [], ap, sym, subst, inl, inr, List}
use Rattle.std.proofs.lemmas.List.{map-append}
use Rattle.std.proofs.lemmas.List.Elements.{Contains-push_cases}
use Rattle.swreq_machine.specs.swreq_derive.declared.requirements.Requirement.{Requirement}
use Rattle.swreq_candidates.specs.swreq_canonical.Generators.{Takes}
use Rattle.swreq_machine.specs.swreq_symbols.Texts.{IsRequirementOfText}
use Rattle.swreq_list_rules.specs.Settings.{AreKnownIn, facts_in, params_in, said_in, says_in}
use Rattle.swreq_minimal.proofs.Passing.{skip_last, take_last}
use Rattle.swreq_minimal.proofs.Telling.{out_of_memory, stopped}
use Rattle.swreq_minimal.proofs.taking.take_underivable.Goals as goal

pub returns-in_err-derivable-clause-tells : goal.returns-in_err-derivable-clause-tells
returns-in_err-derivable-clause-tells g c =
    let s = c.args.setting.now in
    stopped s (λ l. l ≡ said_in s c.args.taken.now.items) c.from_residual.result c.in_err-derivable.field-0.0
    (g.W.Watch.told c.args.watch.now) (g.W.Watch.told c.is_derivable.new.watch) c.from_residual.ensures.1
    (rw c.deref.ensures.value at c.in_err-derivable.ensures.tells)

-- ---- it is derivable

pub returns-then-derivable-clause-takes : goal.returns-then-derivable-clause-takes
returns-then-derivable-clause-takes g c before t =
    let s = c.args.setting.now in
    let answer = rw c.deref.ensures.value at c.in_ok-derivable.ensures.answer in
    skip_last (facts_in s) (params_in s) (says_in s c.args.candidate) t (answer.0 c.if-derivable.true)

pub returns-then-derivable-clause-tells : goal.returns-then-derivable-clause-tells
returns-then-derivable-clause-tells g c = rw c.deref.ensures.value at c.in_ok-derivable.ensures.tells

-- ---- it is taken

pub returns-clause-takes : goal.returns-clause-takes
returns-clause-takes g c before t =
    let s = c.args.setting.now in
    let r = says_in s c.args.candidate in
    let answer = rw c.deref.ensures.value at c.in_ok-derivable.ensures.answer in
    subst (λ z. Takes (facts_in s) (params_in s) [] (before ++ r ∷ []) z)
    (sym (ap (said_in s) c.in_ok-take_candidate.ensures.taken
    ∙ map-append (says_in s) c.args.taken.now.items (c.args.candidate ∷ [])))
    (take_last (facts_in s) (params_in s) r t (λ h. let a = answer.1 h in let b = c.if-derivable.false in cc))

pub returns-clause-known : goal.returns-clause-known
returns-clause-known g c =
    let s = c.args.setting.now in
    subst (AreKnownIn s) (sym {A = List Requirement} c.in_ok-take_candidate.ensures.taken)
    (λ (r : Requirement) h. elim (Contains-push_cases c.args.taken.now.items c.args.candidate r h) [
      | inl i ↦ c.requires.taken r i
      | inr i ↦ subst (IsRequirementOfText s.checked.text) i c.requires.candidate
    ])

pub returns-clause-tells : goal.returns-clause-tells
returns-clause-tells g c = rw c.deref.ensures.value at c.in_ok-derivable.ensures.tells

pub returns-in_err-take_candidate-clause-tells : goal.returns-in_err-take_candidate-clause-tells
returns-in_err-take_candidate-clause-tells g c =
    let s = c.args.setting.now in
    out_of_memory s (λ l. l ≡ said_in s c.args.taken.now.items) c.from_residual-in_err-take_candidate.result
    (g.W.Watch.told c.args.watch.now) (g.W.Watch.told c.is_derivable.new.watch) c.from_residual-in_err-take_candidate.ensures.1
    (rw c.deref.ensures.value at c.in_ok-derivable.ensures.tells)
