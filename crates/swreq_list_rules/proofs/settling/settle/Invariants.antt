use Rattle.std.proofs.Common.{◌≡◌, ◌<◌, List, Contains, MatchOption, get_or, length}
use Rattle.swreq_machine.specs.swreq_derive.declared.requirements.Requirement.{Requirement}
use Rattle.swreq_machine.specs.swreq_derive.Derivation.{TermRequirement}
use Rattle.swreq_list_rules.specs.ListRules.{AreShownBy, AreUnderway}
use Rattle.swreq_list_rules.specs.Settings.{AreKnownIn, says_in}
use Rattle.swreq_list_rules.proofs.settling.settle.Given as goal

abbrev pub invariant-waiting : goal.invariant-waiting
invariant-waiting l = record {
  known : AreKnownIn l.setting l.waiting.items;
  next : MatchOption l.next
      ((r : Requirement) → Contains l.waiting.items r → AreShownBy l.setting l.rules (says_in l.setting r) → ⊥)
      (λ k. (k < length l.waiting.items)
      × ((r : Requirement) → get_or l.waiting.items k r ≡ r → AreShownBy l.setting l.rules (says_in l.setting r)));
  underway : (list added : List TermRequirement) → AreUnderway l.setting list added l.fn.rules l.fn.waiting.items
      → (now : List TermRequirement) × AreUnderway l.setting list now l.rules l.waiting.items;
}

abbrev pub decreases-waiting : goal.decreases-waiting
decreases-waiting l = length l.waiting.items
