-- Rules with members more, and the spans of a list that is gone through by halves.
use Rattle.std.specs.Prelude.{◌↔◌, ◌<◌, ◌≤◌, ◌-◌, ◌++◌, List, length, take, drop, Contains}
use Rattle.swreq_machine.specs.swreq_derive.declared.requirements.Requirement.{Requirement}
use Rattle.swreq_machine.specs.swreq_derive.Derivation.{TermRequirement}
use Rattle.swreq_list_rules.specs.declared.setting.Setting.{Setting}
use Rattle.swreq_list_rules.specs.ListRules.{AreOfList, ListRulesView}
use Rattle.swreq_list_rules.specs.Settings.{AreKnownIn, said_in}
use Rattle.swreq_minimal.specs.declared.dropping.Half.{Half}
use Rattle.swreq_minimal.specs.declared.dropping.Span.{Span}

-- Of each list of which these are the rules, the new ones are the rules of the list with these members more.
abbrev pub AreGrownBy : Setting → ListRulesView → List Requirement → ListRulesView → Type 0
AreGrownBy s old more new =
    (list : List TermRequirement) → AreOfList s list old → AreOfList s (list ++ said_in s more) new

-- It has a place or more, and all of them are of the list.
abbrev pub IsSpanOf : List Requirement → Span → Type 0
IsSpanOf list span = (span.from < span.to) × (span.to ≤ length list)

-- The requirements are of the text, and the span is of them.
pub record IsSpanOver (s : Setting) (list : List Requirement) (span : Span) : Type 0 where
  pub known : AreKnownIn s list
  pub within : IsSpanOf list span

-- It may be empty, and all its places are of the list.
abbrev pub IsPartOf : List Requirement → Span → Type 0
IsPartOf list span = (span.from ≤ span.to) × (span.to ≤ length list)

-- what stands in the span
abbrev pub part_of : List Requirement → Span → List Requirement
part_of list span = take (span.to - span.from) (drop span.from list)

-- what stands before the span and after it
abbrev pub outside_span : List Requirement → Span → List Requirement
outside_span list span = take span.from list ++ drop span.to list

-- The requirements are of the text, and the half and the other half are of them.
pub record IsHalfOver (s : Setting) (list : List Requirement) (half : Half) : Type 0 where
  pub over : IsSpanOver s list half.span
  pub other : IsPartOf list half.other

-- The rules are those of a list which, together with the other half, has just the members outside the half.
abbrev pub AreOutsideBoth : Setting → List Requirement → Half → ListRulesView → Type 0
AreOutsideBoth s left half rules =
    (list : List TermRequirement) × AreOfList s list rules
    × ((q : TermRequirement) → Contains (list ++ said_in s (part_of left half.other)) q
    ↔ Contains (said_in s (outside_span left half.span)) q)
