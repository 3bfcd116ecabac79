-- A list of canonical requirements such that each canonical requirement is a member or follows from earlier ones derives them all.
use Rattle.std.proofs.Common.{◌≡◌, ◌⊎◌, List, Contains, refl, subst, sym, inl, inr}
use Rattle.swreq_derive.specs.swreq_param.declared.ids.ParamId.{ParamId}
use Rattle.swreq_derive.specs.swreq_lemmas.WellFounded.{IsAccessible}
use Rattle.swreq_derive.specs.swreq_lemmas.WellFounded.IsAccessible.{reached}
use Rattle.swreq_derive.specs.Derivation.{Derivable, Source, TermFacts, TermRequirement, TermStatement}
use Rattle.swreq_derive.specs.Derivation.Source.{Written}
use Rattle.swreq_derive.specs.Derivation.TermStatement.{Requires}
use Rattle.swreq_derive.specs.Equivalence.{AreEquivalent}
use Rattle.swreq_derive.proofs.Substitution.{derives_members}
use Rattle.swreq_canonical.specs.Canonical.{HasReducedTypes, IsCanonical, principal}
use Rattle.swreq_canonical.specs.CanonicalOrder.{RequirementBefore}
use Rattle.swreq_canonical.specs.Generators.{AreGeneratorsTold, Follows, FollowsFromEarlier, IsEarlier, IsGeneratorList}
use Rattle.swreq_canonical.proofs.Following.{by_members, cut, cut_sides, itself, wider}
use Rattle.swreq_canonical.proofs.Ordered.{one_list, requirements_founded, transitive_requirements}
use Rattle.swreq_canonical.proofs.Sides.{IsOfEarlierType, sides_by_earlier}
use Rattle.swreq_canonical.proofs.Sufficing.{suffice}

module _ (f : TermFacts) (ps : List ParamId) (list : List TermRequirement) where
  abbrev L : Source
  L = Written ps list

  -- each canonical requirement is a member of it or follows from earlier ones
  abbrev pub Covers : List TermRequirement → Type 0
  Covers rs = (r : TermRequirement) → IsCanonical f L r → Contains rs r ⊎ FollowsFromEarlier f ps list r

  module _ (rs : List TermRequirement) (covers : Covers rs) where
    -- a member that does not come after r, or that comes before it
    abbrev UpTo : TermRequirement → TermRequirement → Type 0
    UpTo r q = Contains rs q × ((q ≡ r) ⊎ RequirementBefore q r)

    abbrev pub Before : TermRequirement → TermRequirement → Type 0
    Before r q = Contains rs q × RequirementBefore q r

    up_to_earlier : (r k : TermRequirement) → RequirementBefore k r → (q : TermRequirement) → UpTo k q → Before r q
    up_to_earlier r k b q (h, inl e) = (h, subst (λ z. RequirementBefore z r) (sym e) b)
    up_to_earlier r k b q (h, inr i) = (h, transitive_requirements q k r i b)

    before_up : (r : TermRequirement) {st : TermStatement} → Follows f ps (Before r) st → Follows f ps (UpTo r) st
    before_up r h = wider f ps (Before r) (UpTo r) (λ q i. (i.0, inr i.1)) h

    by_earlier : (r : TermRequirement) → IsCanonical f L r
        → ((q : TermRequirement) → IsEarlier f L r q → Follows f ps (Before r) (Requires q))
        → Follows f ps (UpTo r) (Requires r)
    by_earlier r c each = elim (covers r c) [
      | inr h ↦ before_up r (cut f ps (IsEarlier f L r) (Before r) each h)
      | inl h ↦ itself f ps (UpTo r) r (h, inl refl)
          (cut_sides f ps (IsOfEarlierType f ps list (principal r)) (UpTo r) r (λ q i. before_up r (each q (i.0, inl i.1)))
          (sides_by_earlier f ps list r c))
    ]

    up_to : {r : TermRequirement} → IsAccessible RequirementBefore r → IsCanonical f L r → Follows f ps (UpTo r) (Requires r)
    up_to (reached {a = r} below) c =
        by_earlier r c (λ q e. wider f ps (UpTo q) (Before r) (up_to_earlier r q e.1) (up_to (below q e.1) e.0))

    -- each canonical requirement before r follows from members before r
    pub earlier_follows : (r q : TermRequirement) → IsEarlier f L r q → Follows f ps (Before r) (Requires q)
    earlier_follows r q e = wider f ps (UpTo q) (Before r) (up_to_earlier r q e.1) (up_to (requirements_founded q) e.0)

    canonical_derived : (r : TermRequirement) → IsCanonical f L r → Follows f ps (λ q. Contains rs q) (Requires r)
    canonical_derived r c = wider f ps (UpTo r) (λ q. Contains rs q) (λ q i. i.0) (up_to (requirements_founded r) c)

    pub covers_all : HasReducedTypes f L → (st : TermStatement) → Derivable f L st → Derivable f (Written ps rs) st
    covers_all reduce st e = by_members (cut f ps (IsCanonical f L) (λ q. Contains rs q) canonical_derived (suffice f ps list reduce st e))

  pub derived_by_list : (rs : List TermRequirement) → ((r : TermRequirement) → Contains rs r → IsCanonical f L r) → (st : TermStatement)
      → Derivable f (Written ps rs) st → Derivable f L st
  derived_by_list rs canonical st e = derives_members f ps rs list (λ r h. (canonical r h).0) st e

  pub follows_in_list : (S : TermRequirement → Type 0) (st : TermStatement) → ((r : TermRequirement) → S r → IsCanonical f L r)
      → Follows f ps S st → Derivable f L st
  follows_in_list S st canonical (rs, k, e) = derived_by_list rs (λ r h. canonical r (k r h)) st e

  -- ---- the generators

  pub one_generator_list : (gs hs : List TermRequirement) → IsGeneratorList f ps list gs → IsGeneratorList f ps list hs → gs ≡ hs
  one_generator_list gs hs g h =
      one_list gs hs g.sorted h.sorted (λ r. ((λ i. (h.members r).1 ((g.members r).0 i)), λ i. (g.members r).1 ((h.members r).0 i)))

  pub generators_derive : (gs : List TermRequirement) → HasReducedTypes f L → AreGeneratorsTold f ps list → IsGeneratorList f ps list gs
      → AreEquivalent f ps list gs
  generators_derive gs reduce told g st = (
    (λ e. covers_all gs (λ r c. elim (told r c) [ inl h ↦ inl ((g.members r).1 h) | inr h ↦ inr h ]) reduce st e),
    λ e. derived_by_list gs (λ r h. ((g.members r).0 h).0) st e,
  )
