use Rattle.std.proofs.Common.{Contains, take}
use Rattle.swreq_machine.specs.swreq_derive.declared.requirements.Requirement.{Requirement}
use Rattle.swreq_list_rules.specs.ListRules.{AreShownBy}
use Rattle.swreq_list_rules.specs.Settings.{says_in}
use Rattle.swreq_list_rules.proofs.settling.first_usable.Given as goal

abbrev pub invariant-loop-k : goal.invariant-loop-k
invariant-loop-k l =
    (r : Requirement) → Contains (take l.k l.waiting) r → AreShownBy l.setting l.rules (says_in l.setting r) → ⊥
