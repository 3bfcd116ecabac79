-- Conformances of members that one written requirement gives.
use Rattle.std.specs.Prelude.{◌≡◌, ℕ, List, Some, slice_get}
use Rattle.swreq_param.specs.{declared.ids.{ProtoId.{ProtoId}, Step.{Step}}, Terms.{self, Term.{Member}}}
use Rattle.swreq_correspondence.specs.swreq_derive.{Derivation.TermRequirement.{Conforms}, Instances.{HasNumber}}
use Rattle.swreq_derivation.specs.UnderWay.{Assumptions}
use Rattle.swreq_births.specs.declared.history.{History.{History}, Equation.{Equation}, OwnedRequirement.{OwnedRequirement}}
use Rattle.swreq_births.specs.declared.{history.Reason.{Reason, TheVariants.{Required}}, members.Written.{Written}}
use Rattle.swreq_births.specs.Systems.{FitsHistory, IsWritten, requirement_by}

-- The reason is the requirement `[Self.B : P]` of the protocol, with this number.
pub record IsWrittenOfMember (why : Reason) (member : Step) (protocol : ProtoId) (w : Written) : Type 0 where
  pub requirement : OwnedRequirement
  pub shown : ℕ
  pub is : why ≡ Required (Some w.owner) w.number requirement shown
  pub conforms : requirement_by requirement ≡ Conforms (Member self member) protocol

-- The requirement `[Self.B : P]` is written by the protocol, with this number.
abbrev pub IsMemberRequirement : History → Step → ProtoId → Written → Type 0
IsMemberRequirement history member protocol w =
    (b : Assumptions) → FitsHistory history b → HasNumber w.number (b.facts.of_protocol w.owner) (Conforms (Member self member) protocol)

-- The requirement of each equation is written.
abbrev pub AreWritten : History → List Equation → Type 0
AreWritten history given =
    (k : ℕ) (e : Equation) → slice_get given k ≡ Some e → (b : Assumptions) → FitsHistory history b → IsWritten b e.reason
