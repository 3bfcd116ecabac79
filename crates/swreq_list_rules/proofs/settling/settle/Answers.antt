use Rattle.std.proofs.Common.{◌∙◌, ◌++◌, ◌∷◌, [], sym, subst, get_or, Contains}
use Rattle.swreq_list_rules.specs.ListRules.{AreCompletedBy, AreOfList, AreShownBy, AreUnderway}
use Rattle.swreq_list_rules.proofs.Growing.{one_more, settled}
use Rattle.swreq_list_rules.proofs.Parting.{was_there}
use Rattle.swreq_list_rules.specs.Settings.{says_in}
use Rattle.swreq_list_rules.proofs.settling.settle.Goals as goal

pub first_usable-requires-in-Some : goal.first_usable-requires-in-Some
first_usable-requires-in-Some c = λ r h.
    let found = rw c.in-Some.is at c.waiting.invariant.next in
    c.waiting.invariant.known r
    (was_there c.waiting.waiting.items c.in-Some.place c.remove-r.result found.0 r
    (subst (λ z. Contains z r) (c.deref-in-Some.ensures.value ∙ c.remove-r.ensures.items) h))

pub waiting-preserved : goal.waiting-preserved
waiting-preserved c =
    let s = c.args.setting.now in
    let now = c.waiting.waiting.items in
    let place = c.in-Some.place in
    let one = c.remove-r.result in
    let found = rw c.in-Some.is at c.waiting.invariant.next in
    let shown : AreShownBy s c.waiting.rules (says_in s (get_or now place one)) =
    subst (λ z. AreShownBy s c.waiting.rules (says_in s z)) c.remove-r.ensures.value
    (found.1 one (sym c.remove-r.ensures.value)) in
    let completed : AreCompletedBy s (says_in s (get_or now place one)) c.waiting.rules c.in_ok-rules.rules =
    subst (λ z. AreCompletedBy s (says_in s z) c.waiting.rules c.in_ok-rules.rules) c.remove-r.ensures.value
    c.in_ok-rules.ensures in
    record {
      known = λ r h. c.waiting.invariant.known r (was_there now place one found.0 r (subst (λ z. Contains z r) c.remove-r.ensures.items h));
      next = rw c.deref-in-Some.ensures.value at c.in_ok-next-2.ensures;
      underway = λ list added u. let (had, way) = c.waiting.invariant.underway list added u in (
        had ++ says_in s (get_or now place one) ∷ [],
        subst (λ z. AreUnderway s list (had ++ says_in s (get_or now place one) ∷ []) c.in_ok-rules.rules z)
            (sym c.remove-r.ensures.items)
            (one_more s list had c.waiting.rules now way place one found.0 c.in_ok-rules.rules shown completed),
      );
    }

pub returns : goal.returns
returns c = λ list added u.
    let (had, way) = c.waiting.invariant.underway list added u in
    subst (AreOfList c.args.setting.now list) (sym c.new.ensures)
    (settled c.args.setting.now list had c.waiting.rules c.waiting.waiting.items way
    (rw c.in_default.is at c.waiting.invariant.next))
