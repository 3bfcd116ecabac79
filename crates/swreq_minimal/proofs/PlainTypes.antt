-- Plain type parameters.
use Rattle.std.proofs.Common.{◌<◌, ◌≤◌, ◌+◌, inl, inr, sym, subst, ℕ, List, Contains, get_or, length, take}
use Rattle.std.proofs.lemmas.List.{take_all, take_more}
use Rattle.std.proofs.lemmas.List.Elements.{Contains-push_cases}
use Rattle.swreq_machine.specs.swreq_param.declared.ids.ParamId.{ParamId}
use Rattle.swreq_machine.specs.swreq_param.declared.ids.Step.TheVariants.{Bound, Name}
use Rattle.swreq_machine.specs.swreq_param.Terms.{Term}
use Rattle.swreq_machine.specs.swreq_param.Terms.Term.{Generic, Member}
use Rattle.swreq_machine.specs.swreq_derive.declared.requirements.Requirement.{Requirement}
use Rattle.swreq_machine.specs.swreq_derive.Derivation.{Derivable, TermFacts, TermRequirement}
use Rattle.swreq_machine.specs.swreq_derive.Derivation.Derives.{assoc_decl, conf, generic}
use Rattle.swreq_machine.specs.swreq_derive.Derivation.Source.{Written}
use Rattle.swreq_machine.specs.swreq_derive.Derivation.TermRequirement.{Conforms, Equals, IsAnyObject}
use Rattle.swreq_machine.specs.swreq_derive.Derivation.TermStatement.{IsValid}
use Rattle.swreq_machine.specs.swreq_derive.Facts.{requirement_of}
use Rattle.swreq_machine.specs.swreq_derive.WellFormed.{HasValidSides}
use Rattle.swreq_machine.proofs.swreq_lemmas.Members.{no_member}
use Rattle.swreq_candidates.specs.Evidence.{HasPlainTypes, IsPlain, IsPlainIn}
use Rattle.swreq_candidates.proofs.Inherited.{reached}
use Rattle.swreq_machine.specs.swreq_valid.Plans.{listed}
use Rattle.swreq_minimal.proofs.Inserting.{from_listed}

-- They are valid.
module _ (f : TermFacts) (ps : List ParamId) (rest : List TermRequirement) where
  plain_valid : (t : Term) → IsPlainIn f ps rest t → Derivable f (Written ps rest) (IsValid t)
  plain_valid (Generic g) h = generic h
  plain_valid (Member t (Bound d)) (h, (q, p, a, c, r, k)) = assoc_decl (reached (conf c (λ _. plain_valid t h)) r) k
  plain_valid (Member t (Name a)) h = absurd h

  pub plain_sides : (r : TermRequirement) → HasPlainTypes f ps rest r → HasValidSides f (Written ps rest) r
  plain_sides (Conforms t p) h = plain_valid t h
  plain_sides (IsAnyObject t) h = plain_valid t h
  plain_sides (Equals t u) (h, k) = (plain_valid t h, plain_valid u k)

-- ---- the requirements of a list, one by one

module _ (f : TermFacts) (ps : List ParamId) (terms : List Term) (list : List Requirement) where
  -- the first k have plain types
  abbrev pub ArePlainTo : ℕ → Type 0
  ArePlainTo k = (r : Requirement) → Contains (take k list) r → HasPlainTypes f ps (listed terms list) (requirement_of terms r)

  pub none_plain : ArePlainTo 0
  none_plain r h = no_member r h

  pub plain_next : (k : ℕ) (d : Requirement) → k < length list → ArePlainTo k
      → HasPlainTypes f ps (listed terms list) (requirement_of terms (get_or list k d)) → ArePlainTo (k + 1)
  plain_next k d l before one r h =
      elim (Contains-push_cases (take k list) (get_or list k d) r (subst (λ z. Contains z r) (take_more list k d l) h)) [
        | inl i ↦ before r i
        | inr e ↦ subst (λ z. HasPlainTypes f ps (listed terms list) (requirement_of terms z)) e one
      ]

  pub all_plain : (k : ℕ) → length list ≤ k → ArePlainTo k → IsPlain f ps (listed terms list)
  all_plain k l to r h =
      let found = from_listed terms r list h in
      subst (HasPlainTypes f ps (listed terms list)) found.2
      (to found.0 (subst (λ z. Contains z found.0) (sym (take_all k list l)) found.1))
