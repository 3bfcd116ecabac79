-- Minimised lists, and that equivalent lists have one.
use Rattle.std.proofs.Common.{◌≡◌, ◌↔◌, List, [], Contains, subst}
use Rattle.swreq_derive.specs.swreq_param.declared.ids.ParamId.{ParamId}
use Rattle.swreq_derive.specs.swreq_param.declared.ids.Step.TheVariants.{Bound, Name}
use Rattle.swreq_derive.specs.swreq_param.Terms.{Term}
use Rattle.swreq_derive.specs.swreq_param.Terms.Term.{Generic, Member}
use Rattle.swreq_derive.specs.Derivation.{TermFacts, TermRequirement}
use Rattle.swreq_derive.specs.Derivation.Source.{Written}
use Rattle.swreq_derive.specs.Derivation.TermRequirement.{Conforms, Equals, IsAnyObject}
use Rattle.swreq_derive.specs.Derivation.TermStatement.{Requires}
use Rattle.swreq_derive.specs.Equivalence.{AreEquivalent}
use Rattle.swreq_derive.specs.Reduced.{IsReduced, IsReducedTypeOf}
use Rattle.swreq_derive.proofs.swreq_lemmas.Members.{no_member}
use Rattle.swreq_canonical.specs.Canonical.{CanBePrincipal, HasCanonicalForm, HasReducedTypes, IsCanonical}
use Rattle.swreq_canonical.specs.CanonicalOrder.{IsStrictlySorted}
use Rattle.swreq_canonical.specs.Generators.{AreDecided, AreEnough, AreGeneratorsTold, IsGenerator, IsGeneratorList}
use Rattle.swreq_canonical.specs.Minimised.{IsIndependent, IsMinimised, Leaves}
use Rattle.swreq_canonical.proofs.Covering.{generators_derive}
use Rattle.swreq_canonical.proofs.Dropping.{independent, left_sorted, one_left, same_left, some_left, were_there}
use Rattle.swreq_canonical.proofs.Ordered.{one_list}
use Rattle.swreq_canonical.proofs.Taking.{are_candidates, some_generators}

module _ (f : TermFacts) (ps : List ParamId) where
  abbrev Same : List TermRequirement → List TermRequirement → Type 0
  Same list others = AreEquivalent f ps list others

  turned : {list others : List TermRequirement} → Same list others → Same others list
  turned same st = ((same st).1, (same st).0)

  -- ---- canonical requirements

  module _ (list others : List TermRequirement) (same : Same list others) where
    same_reduced : (t r : Term) → IsReducedTypeOf f (Written ps list) t r → IsReducedTypeOf f (Written ps others) t r
    same_reduced t r q =
        record { equal = (same (Requires (Equals t r))).0 q.equal; least = λ u e b. q.least u ((same (Requires (Equals t u))).1 e) b }

    same_principal : (t : Term) → CanBePrincipal f (Written ps list) t → CanBePrincipal f (Written ps others) t
    same_principal (Generic g) h = h
    same_principal (Member t (Bound d)) h = same_reduced t t h
    same_principal (Member t (Name a)) h = h

    same_form : ((t : Term) → IsReduced f (Written ps others) t → IsReduced f (Written ps list) t) → (r : TermRequirement)
        → HasCanonicalForm f (Written ps list) r → HasCanonicalForm f (Written ps others) r
    same_form back (Conforms t p) c = same_reduced t t c
    same_form back (IsAnyObject t) c = same_reduced t t c
    same_form back (Equals u v) (o, n, q) = (same_principal v o, (λ r. n (back v r)), same_reduced v u q)

  canonical_there : (list others : List TermRequirement) → Same list others → (r : TermRequirement)
      → IsCanonical f (Written ps list) r → IsCanonical f (Written ps others) r
  canonical_there list others same r (e, c) =
      ((same (Requires r)).0 e, same_form list others same (λ t. same_reduced others list (turned same) t t) r c)

  pub same_canonical : (list others : List TermRequirement) → Same list others → (r : TermRequirement)
      → IsCanonical f (Written ps list) r ↔ IsCanonical f (Written ps others) r
  same_canonical list others same r = (canonical_there list others same r, canonical_there others list (turned same) r)

  -- ---- generators

  generator_there : (list others : List TermRequirement) → Same list others → (r : TermRequirement) → IsGenerator f ps list r
      → IsGenerator f ps others r
  generator_there list others same r (c, n) = (
    canonical_there list others same r c,
    λ h. n (h.0, (λ q i. (canonical_there others list (turned same) q (h.1 q i).0, (h.1 q i).1)), h.2),
  )

  pub same_generators : (list others : List TermRequirement) → Same list others → (r : TermRequirement)
      → IsGenerator f ps list r ↔ IsGenerator f ps others r
  same_generators list others same r = (generator_there list others same r, generator_there others list (turned same) r)

  same_generator_list : (list others gs hs : List TermRequirement) → Same list others → IsGeneratorList f ps list gs
      → IsGeneratorList f ps others hs → gs ≡ hs
  same_generator_list list others gs hs same g h =
      one_list gs hs g.sorted h.sorted (λ r. (
        (λ i. (h.members r).1 (generator_there list others same r ((g.members r).0 i))),
        λ i. (g.members r).1 (generator_there others list (turned same) r ((h.members r).0 i)),
      ))

  -- ---- minimised lists

  pub same_minimised : (list others out also : List TermRequirement) → Same list others → IsMinimised f ps list out
      → IsMinimised f ps others also → out ≡ also
  same_minimised list others out also same m n =
      one_left f ps (subst (λ z. Leaves f ps [] z out)
      (same_generator_list list others m.generators n.generators same m.are_generators n.are_generators) m.leaves) n.leaves

  pub minimised_sorted : (list out : List TermRequirement) → IsMinimised f ps list out → IsStrictlySorted out
  minimised_sorted list out m = left_sorted f ps m.leaves m.are_generators.sorted

  pub minimised_canonical : (list out : List TermRequirement) → IsMinimised f ps list out → (r : TermRequirement) → Contains out r
      → IsCanonical f (Written ps list) r
  minimised_canonical list out m r h = ((m.are_generators.members r).0 (were_there f ps m.leaves r h)).0

  pub minimised_independent : (list out : List TermRequirement) → IsMinimised f ps list out → IsIndependent f ps out
  minimised_independent list out m = independent f ps m.leaves

  pub minimised_same : (list out : List TermRequirement) → HasReducedTypes f (Written ps list) → AreGeneratorsTold f ps list
      → IsMinimised f ps list out → Same list out
  minimised_same list out reduce told m st =
      let g = generators_derive f ps list m.generators reduce told m.are_generators st in
      let l = same_left f ps m.leaves st in
      ((λ e. l.0 (g.0 e)), λ e. g.1 (l.1 e))

  pub same_by_minimised : (list others out : List TermRequirement) → HasReducedTypes f (Written ps list) → AreGeneratorsTold f ps list
      → HasReducedTypes f (Written ps others) → AreGeneratorsTold f ps others → IsMinimised f ps list out
      → IsMinimised f ps others out → Same list others
  same_by_minimised list others out reduce told also_reduce also_told m n st =
      let a = minimised_same list out reduce told m st in
      let b = minimised_same others out also_reduce also_told n st in
      ((λ e. b.1 (a.0 e)), λ e. a.1 (b.0 e))

  pub some_minimised : (list candidates : List TermRequirement) → AreEnough f ps list candidates → AreDecided f ps candidates
      → (out : List TermRequirement) × IsMinimised f ps list out
  some_minimised list candidates enough decided =
      let (gs, t, g) = some_generators f ps list candidates enough decided in
      let (out, l) = some_left f ps candidates [] gs (λ r h. no_member r h) (are_candidates f ps t) decided in
      (out, record { generators = gs; are_generators = g; leaves = l })
