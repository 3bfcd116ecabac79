-- A table that grows keeps requirements of the text.
use Rattle.std.proofs.Common.{◌≡◌, refl, ap₂, List, [], ◌∷◌, Contains}
use Rattle.swreq_machine.specs.swreq_param.Tables.{Extends}
use Rattle.swreq_machine.specs.swreq_param.Terms.{Term}
use Rattle.swreq_machine.specs.swreq_derive.declared.requirements.Requirement.{Requirement}
use Rattle.swreq_machine.proofs.swreq_lemmas.Members.{first_member, later_member}
use Rattle.swreq_machine.specs.swreq_lowering.ByTable.{HasIdsOf}
use Rattle.swreq_machine.proofs.swreq_lowering.Growing.{requirement_stays}
use Rattle.swreq_machine.specs.swreq_lexicon.Views.{LexiconView}
use Rattle.swreq_machine.proofs.swreq_symbols.Growing.{requirement_in_stays}
use Rattle.swreq_machine.specs.swreq_valid.Plans.{AreKnown, listed}

module _ (old new : List Term) (more : Extends old new) where
  pub listed_stays : (rs : List Requirement) → ((r : Requirement) → Contains rs r → HasIdsOf old r) → listed new rs ≡ listed old rs
  listed_stays [] h = refl
  listed_stays (r ∷ rs) h =
      ap₂ ◌∷◌ (requirement_stays old new r more (h r (first_member r rs))) (listed_stays rs (λ q i. h q (later_member r q rs i)))

  pub all_known : (x : LexiconView) (rs : List Requirement) → AreKnown old x rs → AreKnown new x rs
  all_known x rs h r i = requirement_in_stays old new more x r (h r i)
