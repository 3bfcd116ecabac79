-- That requirements are of a text is stable, so a list of a text can carry it.
use Rattle.std.proofs.Common.{List, Contains}
use Rattle.swreq_machine.proofs.swreq_lemmas.Stable.{Stable, both_stable, given_stable}
use Rattle.swreq_machine.specs.swreq_param.Terms.{Term}
use Rattle.swreq_machine.specs.swreq_derive.declared.requirements.Requirement.{Requirement}
use Rattle.swreq_machine.specs.swreq_derive.Facts.{requirement_of}
use Rattle.swreq_machine.specs.swreq_lexicon.Views.{LexiconView}
use Rattle.swreq_machine.specs.swreq_symbols.Known.{IsRequirementIn}
use Rattle.swreq_machine.specs.swreq_valid.Plans.{AreKnown, AreRequirementsOfText}
use Rattle.swreq_machine.proofs.swreq_world.TextStable.{ids_stable, requirement_stable}
use Rattle.swreq_minimal.specs.declared.text_lists.TextList.{TextList}

known_stable : (terms : List Term) (x : LexiconView) (list : List Requirement) → Stable (AreKnown terms x list)
known_stable terms x list = given_stable (λ r. Contains list r → IsRequirementIn terms x r) (λ r.
    given_stable (λ h. IsRequirementIn terms x r) (λ h. both_stable (ids_stable terms r) (requirement_stable x (requirement_of terms r))))

-- its members are requirements of the text
pub known_in : (l : TextList) → AreRequirementsOfText l.text l.list.now
known_in l = known_stable l.text.table.now l.text.world.now.lexicon l.list.now l.known
