use Rattle.std.proofs.Common.{◌∙◌, ◌∷◌, [], ap, sym, subst}
use Rattle.std.proofs.lemmas.List.{map-append}
use Rattle.std.proofs.lemmas.Result.{IfOk-weaker}
use Rattle.swreq_list_rules.specs.ListRules.{AreOfList}
use Rattle.swreq_list_rules.specs.Settings.{said_in, says_in}
use Rattle.swreq_minimal.proofs.Halving.{if_some_weaker}
use Rattle.swreq_minimal.proofs.taking.take_candidate.Goals as goal

pub extended_if_any-requires-clause-waiting : goal.extended_if_any-requires-clause-waiting
extended_if_any-requires-clause-waiting c =
    let s = c.args.setting.now in
    if_some_weaker (AreOfList s (said_in s c.args.taken.now.items)) _ c.args.rules (λ rules are. are.known) c.requires.rules

pub returns-clause-rules : goal.returns-clause-rules
returns-clause-rules c =
    let s = c.args.setting.now in
    let old = c.args.taken.now.items in
    IfOk-weaker c.extended_if_any.result _ _ (λ o. if_some_weaker _ _ o (λ new grown. let (had, is, grew) = grown in
    subst (λ z. AreOfList s z new)
    (sym (ap (said_in s) c.in_ok-push.ensures.items ∙ map-append (says_in s) old (c.args.candidate ∷ [])))
    (grew (said_in s old) (rw is at c.requires.rules)))) c.extended_if_any.ensures
