-- What the rules of a reduced system say, one after the other.
use Rattle.std.proofs.Common.{◌≡◌, ◌∙◌, ◌⊎◌, ◌↔◌, inl, inr, sym, ap, subst, ◌≤◌, ◌+◌, arith, ℕ, List, [], Contains, length, slice_get, Some}
use Rattle.std.proofs.lemmas.Bool.{cases_eq}
use Rattle.std.proofs.lemmas.Option.{same_Some, slice_get_within}
use Rattle.swreq_machine.specs.swreq_derive.declared.known.Params.{Params}
use Rattle.swreq_machine.specs.swreq_derive.Derivation.{Source, TermFacts, TermRequirement}
use Rattle.swreq_machine.specs.swreq_derive.Derivation.Source.{Written}
use Rattle.swreq_machine.specs.swreq_derive.Facts.{generic_params}
use Rattle.swreq_machine.proofs.swreq_lemmas.Members.{no_member}
use Rattle.swreq_homotopy.specs.swreq_word.Least.{IsMinimal}
use Rattle.swreq_homotopy.specs.swreq_word.Relations.{Linked}
use Rattle.swreq_homotopy.proofs.swreq_word.Chains.{joined}
use Rattle.swreq_homotopy.proofs.swreq_word.LeastWords.{least_along, minimal_along, one_least}
use Rattle.swreq_machine.specs.swreq_rule.declared.rules.Rule.{Rule}
use Rattle.swreq_machine.specs.swreq_rule.Steps.{Step}
use Rattle.swreq_homotopy.proofs.swreq_pair.CriticalPairs.{locally}
use Rattle.swreq_machine.specs.swreq_complete.Complete.{IsComplete}
use Rattle.swreq_machine.specs.swreq_complete.Reduced.{IsReduced}
use Rattle.swreq_candidates.proofs.swreq_complete.ReducedSystem.{minimal_there}
use Rattle.swreq_machine.specs.swreq_lexicon.Views.{LexiconView}
use Rattle.swreq_machine.specs.swreq_correspondence.Equations.{AreCongruent}
use Rattle.swreq_candidates.proofs.swreq_correspondence.Chained.{turn_all}
use Rattle.swreq_machine.specs.swreq_correspondence.Symbols.{Word}
use Rattle.swreq_candidates.specs.swreq_canonical.Canonical.{IsCanonical}
use Rattle.swreq_candidates.specs.swreq_canonical.CanonicalOrder.{IsStrictlySorted}
use Rattle.swreq_candidates.specs.Candidates.{IsCandidate, IsCandidateList, IsReadOff, IsReducedRule}
use Rattle.swreq_candidates.specs.Completed.{IsCompleted}
use Rattle.swreq_candidates.proofs.Completions.{canonical_here}
use Rattle.swreq_machine.specs.swreq_symbols.Meaning.{facts_of, symbols_of}
use Rattle.swreq_machine.specs.swreq_world.Closed.{IsClosed}
use Rattle.swreq_machine.specs.swreq_world.Worlds.{TextWorld}
use Rattle.swreq_machine.specs.Machines.{IsMachineOf, MachineView}
use Rattle.swreq_machine.specs.swreq_valid.Rounds.{last_rules}
use Rattle.swreq_minimal.specs.OfParams.{AreOfParams, BeginsWithParam}
use Rattle.swreq_minimal.specs.Sorted.{IsOfFirstRules, IsListOfFirstRules}
use Rattle.swreq_minimal.specs.Typed.{IsRequirementOfRule}
use Rattle.swreq_minimal.proofs.ByParams.{read_begins}
use Rattle.swreq_minimal.proofs.Lifting.{from_said, to_said}
use Rattle.swreq_minimal.proofs.Speaking.{one_said}

-- ---- what one rule says, besides what was there

module _ (x : LexiconView) (rules : List Rule) (params : Params) (l r : Word) (old new : List TermRequirement) (same : new ≡ old) where
  pub nothing_more : ((q : TermRequirement) → IsRequirementOfRule x rules params l r q → ⊥) → (q : TermRequirement)
      → Contains new q ↔ (Contains old q ⊎ IsRequirementOfRule x rules params l r q)
  nothing_more n q = (
    (λ h. inl (subst (λ z. Contains z q) same h)),
    λ h. elim h [ inl i ↦ subst (λ z. Contains z q) (sym same) i | inr i ↦ absurd (n q i) ],
  )

  module _ (now : List TermRequirement) (said : TermRequirement) (says : IsRequirementOfRule x rules params l r said) where
    as_said : (q : TermRequirement) → Contains new q ⊎ (q ≡ said) → Contains old q ⊎ IsRequirementOfRule x rules params l r q
    as_said q h =
        elim h [
          | inl i ↦ inl (subst (λ z. Contains z q) same i)
          | inr i ↦ inr (subst (IsRequirementOfRule x rules params l r) (sym i) says)
        ]

    pub one_more : ((q : TermRequirement) → Contains now q ↔ (Contains new q ⊎ (q ≡ said)))
        → (q : TermRequirement) → Contains now q ↔ (Contains old q ⊎ IsRequirementOfRule x rules params l r q)
    one_more h q = (
      (λ i. as_said q ((h q).0 i)),
      λ i. (h q).1 (elim i [
        | inl j ↦ inl (subst (λ z. Contains z q) (sym same) j)
        | inr j ↦ inr (one_said x rules params l r q said j says)
      ]),
    )

    pub one_more_sorted : ((f : TermFacts) (s : Source) → ((q : TermRequirement) → Contains new q ⊎ (q ≡ said) → IsCanonical f s q)
        → IsStrictlySorted new → IsStrictlySorted now)
        → (f : TermFacts) (s : Source)
        → ((q : TermRequirement) → Contains old q ⊎ IsRequirementOfRule x rules params l r q → IsCanonical f s q)
        → IsStrictlySorted old → IsStrictlySorted now
    one_more_sorted h f s can was = h f s (λ q i. can q (as_said q i)) (subst IsStrictlySorted (sym same) was)

-- ---- what the first rules of a system say

module _ (x : LexiconView) (rules : List Rule) (params : Params) (system : List Rule) where
  abbrev Said : ℕ → TermRequirement → Type 0
  Said n q = IsOfFirstRules x rules params system n q

  pub none_said : (found : List TermRequirement) → found ≡ [] → IsListOfFirstRules x rules params system 0 found
  none_said found e = record {
    members = λ q. ((λ h. no_member q (subst (λ z. Contains z q) e h)), λ h. let (k, rule, l, at, s) = h in absurd (omega (arith, l)));
    sorted = λ f s h. subst IsStrictlySorted (sym e) tt;
  }

  module _ (k : ℕ) (rule : Rule) (at : slice_get system k ≡ Some rule) where
    said_next : (q : TermRequirement) → Said k q ⊎ IsRequirementOfRule x rules params rule.left rule.right q → Said (k + 1) q
    said_next q (inl (j, r, l, e, s)) = (j, r, omega (arith, l), e, s)
    said_next q (inr s) = (k, rule, omega arith, at, s)

    said_back : (q : TermRequirement) → Said (k + 1) q → Said k q ⊎ IsRequirementOfRule x rules params rule.left rule.right q
    said_back q (j, r, l, e, s) = elim (cases_eq j k) [
      | inl h ↦ (let one : rule ≡ r = same_Some rule r (sym at ∙ (ap (slice_get system) (sym h) ∙ e)) in
          inr (subst (λ (z : Rule). IsRequirementOfRule x rules params z.left z.right q) (sym one) s))
      | inr h ↦ inl (j, r, omega (arith, l, h), e, s)
    ]

    pub more_said : (old new : List TermRequirement) → IsListOfFirstRules x rules params system k old
        → ((q : TermRequirement) → Contains new q ↔ (Contains old q ⊎ IsRequirementOfRule x rules params rule.left rule.right q))
        → ((f : TermFacts) (s : Source)
        → ((q : TermRequirement) → Contains old q ⊎ IsRequirementOfRule x rules params rule.left rule.right q → IsCanonical f s q)
        → IsStrictlySorted old → IsStrictlySorted new) → IsListOfFirstRules x rules params system (k + 1) new
    more_said old new was h sorted = record {
      members = λ q. (
        (λ i. said_next q (elim ((h q).0 i) [ inl j ↦ inl ((was.members q).0 j) | inr j ↦ inr j ])),
        λ i. (h q).1 (elim (said_back q i) [ inl j ↦ inl ((was.members q).1 j) | inr j ↦ inr j ]),
      );
      sorted = λ f s can.
          sorted f s (λ q i. can q (said_next q (elim i [ inl j ↦ inl ((was.members q).0 j) | inr j ↦ inr j ])))
          (was.sorted f s (λ q i. can q (said_next q (inl i))));
    }

-- ---- all of them

module _ (w : TextWorld) (closed : IsClosed w) (machine : MachineView) (list : List TermRequirement) (is : IsMachineOf w list machine)
    (complete : IsComplete (last_rules machine.rounds)) (system : List Rule)
    (of_params : AreOfParams (Linked (Step (last_rules machine.rounds))) (last_rules machine.rounds)
    (length (last_rules machine.rounds)) system) where
  abbrev L : Source
  L = Written (generic_params machine.params) list

  abbrev C : Word → Word → Type 0
  C = AreCongruent (symbols_of w.lexicon) (facts_of w) L

  abbrev D : Word → Word → Type 0
  D = Linked (Step (last_rules machine.rounds))

  in_class : (rule : Rule) → IsReduced D rule → IsReducedRule C rule.left rule.right
  in_class rule (m, c, l) = (
    minimal_along D C (λ u v. (is.rules u v).0) (λ u v. (is.rules u v).1) rule.left m,
    (is.rules rule.left rule.right).0 c,
    least_along D C (λ u v. (is.rules u v).0) (λ u v. (is.rules u v).1) rule.right l,
  )

  from_rules : (n : ℕ) (q : TermRequirement) → IsOfFirstRules w.lexicon (last_rules machine.rounds) machine.params system n q
      → IsCandidate (symbols_of w.lexicon) (facts_of w) L q
  from_rules n q (k, rule, l, at, s) =
      let reduced = in_class rule (of_params.each k rule at) in
      (rule.left, rule.right, reduced, from_said w closed machine list is rule.left rule.right reduced.1 q s)

  to_rules : (n : ℕ) → length system ≤ n → (q : TermRequirement) → IsCandidate (symbols_of w.lexicon) (facts_of w) L q
      → IsOfFirstRules w.lexicon (last_rules machine.rounds) machine.params system n q
  to_rules n far q (l, r, (minimal, c, least), off) =
      let minimal_too = minimal_along C D (λ u v. (is.rules u v).1) (λ u v. (is.rules u v).0) l minimal in
      let (j, there, at, e) = minimal_there (last_rules machine.rounds) (locally (last_rules machine.rounds) complete.meet) l minimal_too in
      let begins = read_begins (symbols_of w.lexicon) (facts_of w) L l r q off in
      let within = slice_get_within (last_rules machine.rounds) j there at in
      let (k, rule, g, same) = of_params.all j there within at (subst BeginsWithParam (sym e) begins)
      (subst (IsMinimal D) (sym e) minimal_too) in
      let (_, d, also) = in_class rule (of_params.each k rule g) in
      let left : l ≡ rule.left = sym (same ∙ e) in
      let linked = subst (λ x. C x rule.right) (sym left) d in
      let right : r ≡ rule.right = one_least C r rule.right (joined (turn_all c) linked) (joined (turn_all linked) c) least also in
      let far_off = slice_get_within system k rule g in (
        k,
        rule,
        omega (arith, far_off, far),
        g,
        to_said w closed machine list is rule.left rule.right d q
            (subst (λ x. IsReadOff (symbols_of w.lexicon) (facts_of w) L x rule.right q) left
            (subst (λ x. IsReadOff (symbols_of w.lexicon) (facts_of w) L l x q) right off)),
      )

  pub are_candidates : IsCompleted (symbols_of w.lexicon) (facts_of w) (generic_params machine.params) list → (found : List TermRequirement)
      → IsListOfFirstRules w.lexicon (last_rules machine.rounds) machine.params system (length system) found
      → IsCandidateList (symbols_of w.lexicon) (facts_of w) L found
  are_candidates ended found said = record {
    sorted = said.sorted (facts_of w) L
        (λ q h. canonical_here (symbols_of w.lexicon) (facts_of w) (generic_params machine.params) list ended q
        (from_rules (length system) q h));
    members = λ q. (
      (λ h. from_rules (length system) q ((said.members q).0 h)),
      λ h. (said.members q).1 (to_rules (length system) (omega arith) q h),
    );
  }
