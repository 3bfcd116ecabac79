-- Lists with one minimised list are equivalent, where it is decided what they derive. A goal that is decided holds where it is not refuted.
use Rattle.std.proofs.Common.{List, [], ◌∷◌, Contains, inl, inr, subst, sym}
use Rattle.swreq_print.specs.swreq_lemmas.WellFounded.{IsAccessible}
use Rattle.swreq_print.specs.swreq_lemmas.WellFounded.IsAccessible.{reached}
use Rattle.swreq_print.specs.swreq_param.declared.ids.ParamId.{ParamId}
use Rattle.swreq_print.specs.swreq_derive.Derivation.{Derivable, Source, TermFacts, TermRequirement, TermStatement}
use Rattle.swreq_print.specs.swreq_derive.Derivation.Source.{Written}
use Rattle.swreq_print.specs.swreq_derive.Derivation.TermRequirement.{Conforms, IsAnyObject, Equals}
use Rattle.swreq_print.specs.swreq_derive.Derivation.TermStatement.{Requires}
use Rattle.swreq_print.specs.swreq_derive.Equivalence.{AreEquivalent}
use Rattle.swreq_print.proofs.swreq_lemmas.Members.{first_member, later_member, member_cases, no_member}
use Rattle.swreq_machine.specs.swreq_correspondence.Symbols.{Symbols}
use Rattle.swreq_minimal.specs.swreq_canonical.Canonical.{HasReducedTypes, IsCanonical, principal}
use Rattle.swreq_minimal.specs.swreq_canonical.CanonicalOrder.{RequirementBefore}
use Rattle.swreq_minimal.specs.swreq_canonical.Generators.{Follows, IsEarlier, IsGeneratorList}
use Rattle.swreq_minimal.specs.swreq_canonical.Minimised.{IsMinimised}
use Rattle.swreq_minimal.proofs.swreq_canonical.Agreement.{minimised_canonical}
use Rattle.swreq_minimal.proofs.swreq_canonical.Covering.{derived_by_list}
use Rattle.swreq_minimal.proofs.swreq_canonical.Dropping.{same_left}
use Rattle.swreq_minimal.proofs.swreq_canonical.Following.{HasFollowingSides, by_members, cut, itself}
use Rattle.swreq_minimal.proofs.swreq_canonical.Ordered.{requirements_founded}
use Rattle.swreq_minimal.proofs.swreq_canonical.Sides.{IsOfEarlierType, sides_by_earlier}
use Rattle.swreq_minimal.proofs.swreq_canonical.Sufficing.{suffice}
use Rattle.swreq_minimal.specs.swreq_candidates.Completed.{IsCompleted}
use Rattle.swreq_minimal.proofs.swreq_candidates.Completions.{derivable_here, reduced_here}

-- It is not refuted.
abbrev Maybe : Type 0 → Type 0
Maybe A = (A → ⊥) → ⊥

maybe_each : {P : TermRequirement → Type 0} (rs : List TermRequirement) → ((r : TermRequirement) → Contains rs r → Maybe (P r))
    → Maybe ((r : TermRequirement) → Contains rs r → P r)
maybe_each [] each never = never (λ r h. no_member r h)
maybe_each {P} (x ∷ rs) each never =
    each x (first_member x rs) (λ p. maybe_each {P = P} rs (λ r h. each r (later_member x r rs h)) (λ all.
    never (λ r h. elim (member_cases x r rs h) [ inl e ↦ subst P (sym e) p | inr k ↦ all r k ])))

module _ (f : TermFacts) (ps : List ParamId) where
  -- What follows from requirements that may follow from others may follow from these.
  module _ (S T : TermRequirement → Type 0) (each : (r : TermRequirement) → S r → Maybe (Follows f ps T (Requires r))) where
    maybe_cut : {st : TermStatement} → Follows f ps S st → Maybe (Follows f ps T st)
    maybe_cut (rs, s, e) never = maybe_each {P = λ r. Follows f ps T (Requires r)} rs (λ r h. each r (s r h))
        (λ all. never (cut f ps (λ r. Contains rs r) T all (rs, (λ r h. h), e)))

    maybe_sides : (r : TermRequirement) → HasFollowingSides f ps S r → Maybe (HasFollowingSides f ps T r)
    maybe_sides (Conforms t p) h never = maybe_cut h never
    maybe_sides (IsAnyObject t) h never = maybe_cut h never
    maybe_sides (Equals t u) (h, k) never = maybe_cut h (λ a. maybe_cut k (λ b. never (a, b)))

module _ (f : TermFacts) (ps : List ParamId) (list gs : List TermRequirement) (generators : IsGeneratorList f ps list gs) where
  abbrev L : Source
  L = Written ps list

  -- each canonical requirement may follow from the generators
  maybe_canonical : {r : TermRequirement} → IsAccessible RequirementBefore r → IsCanonical f L r
      → Maybe (Follows f ps (λ r. Contains gs r) (Requires r))
  maybe_canonical (reached {a = r} below) c never =
      let follows : (q : TermRequirement) → IsEarlier f L r q → Maybe (Follows f ps (λ z. Contains gs z) (Requires q))
      = λ q e. maybe_canonical (below q e.1) e.0 in
      let generator : Contains gs r → ⊥
      = λ h. maybe_sides f ps (IsOfEarlierType f ps list (principal r)) (λ z. Contains gs z) (λ q i. follows q (i.0, inl i.1)) r
      (sides_by_earlier f ps list r c)
      (λ sides. never (itself f ps (λ z. Contains gs z) r h sides)) in
      generator ((generators.members r).1 (c, λ h. maybe_cut f ps (IsEarlier f L r) (λ z. Contains gs z) follows h never))

  maybe_generated : HasReducedTypes f L → (st : TermStatement) → Derivable f L st → Maybe (Derivable f (Written ps gs) st)
  maybe_generated reduce st e never =
      maybe_cut f ps (IsCanonical f L) (λ r. Contains gs r) (λ r c. maybe_canonical (requirements_founded r) c)
      (suffice f ps list reduce st e) (λ h. never (by_members h))

-- what the one list derives the other does, where the completions of both have ended
one_way : (m : Symbols) (f : TermFacts) (ps : List ParamId) (list others out : List TermRequirement) → IsCompleted m f ps list
    → IsCompleted m f ps others
    → IsMinimised f ps list out → IsMinimised f ps others out → (st : TermStatement) → Derivable f (Written ps list) st
    → Derivable f (Written ps others) st
one_way m f ps list others out ended also_ended a b st e = elim (derivable_here m f ps others also_ended st) [
  | yes d ↦ d
  | no n ↦ absurd (maybe_generated f ps list a.generators a.are_generators (reduced_here m f ps list ended) st e
      (λ d. n (derived_by_list f ps others out (minimised_canonical f ps others out b) st ((same_left f ps a.leaves st).0 d))))
]

pub same_by_one : (m : Symbols) (f : TermFacts) (ps : List ParamId) (list others out : List TermRequirement) → IsCompleted m f ps list
    → IsCompleted m f ps others
    → IsMinimised f ps list out → IsMinimised f ps others out → AreEquivalent f ps list others
same_by_one m f ps list others out ended also_ended a b st =
    (one_way m f ps list others out ended also_ended a b st, one_way m f ps others list out also_ended ended b a st)
