-- What ended completions give the laws on candidates.
use Rattle.std.proofs.Common.{◌≡◌, ◌⊎◌, ◌↔◌, List, [], ◌∷◌, Contains, length, refl, subst, subst₂, sym, inl, inr}
use Rattle.std.proofs.Math.Decide.{dec_lt}
use Rattle.swreq_canonical.specs.swreq_param.declared.ids.ParamId.{ParamId}
use Rattle.swreq_canonical.specs.swreq_param.Terms.{Term}
use Rattle.swreq_canonical.specs.swreq_derive.Derivation.{Derivable, Source, TermFacts, TermRequirement, TermStatement}
use Rattle.swreq_canonical.specs.swreq_derive.Derivation.Source.{SelfOf, Written}
use Rattle.swreq_canonical.specs.swreq_derive.Derivation.TermStatement.{Requires}
use Rattle.swreq_canonical.specs.swreq_derive.Equivalence.{AreEquivalent}
use Rattle.swreq_canonical.specs.swreq_word.declared.symbols.Symbol.{Symbol}
use Rattle.swreq_canonical.specs.swreq_word.declared.symbols.Symbol.TheVariants.{Layout as LayoutSymbol, Member as MemberSymbol, Name as NameSymbol, Param as ParamSymbol, Proto as ProtoSymbol}
use Rattle.swreq_canonical.specs.swreq_correspondence.Readings.{CanRead, after, first}
use Rattle.swreq_canonical.specs.swreq_correspondence.Symbols.{IsOfText, Symbols, Word}
use Rattle.swreq_canonical.specs.swreq_correspondence.Types.{HasFirsts}
use Rattle.swreq_canonical.proofs.swreq_correspondence.Chained.{self_in_range}
use Rattle.swreq_canonical.specs.Canonical.{HasReducedTypes, IsCanonical, principal}
use Rattle.swreq_canonical.specs.Generators.{AreDecided, AreEnough, AreGeneratorsTold, Follows, IsGenerator, IsGeneratorList, Takes}
use Rattle.swreq_canonical.specs.Minimised.{IsMinimised, Leaves}
use Rattle.swreq_canonical.proofs.Agreement.{minimised_same, same_by_minimised, same_minimised, some_minimised}
use Rattle.swreq_canonical.proofs.Sides.{IsOfEarlierType}
use Rattle.swreq_canonical.proofs.Taking.{generator_list, generators_told, some_generators}
use Rattle.swreq_candidates.specs.Blocks.{Cut, GoesOn, Opens, Place, over}
use Rattle.swreq_candidates.specs.Blocks.Cut.{alone, at_end, on, opened}
use Rattle.swreq_candidates.specs.Blocks.Place.{Inside, Outside}
use Rattle.swreq_candidates.specs.Candidates.{IsCandidate, IsCandidateList}
use Rattle.swreq_candidates.specs.Completed.{IsCompleted, IsSymbolOfText, IsWordOfText}
use Rattle.swreq_candidates.proofs.AllSettled.{generator_is_candidate, settled}
use Rattle.swreq_candidates.proofs.Deciding.{derivable, firsts, least_of_self, reads}
use Rattle.swreq_candidates.proofs.ReadOff.{candidate_is_canonical, candidates_are_enough}
use Rattle.swreq_canonical.proofs.swreq_param.DecidedIds.{params_decided}
use Rattle.swreq_candidates.proofs.Searches.{some_member}
use Rattle.swreq_candidates.proofs.Settled.{IsOverText, reduce}

module _ (m : Symbols) (f : TermFacts) (ps : List ParamId) (list : List TermRequirement) (ended : IsCompleted m f ps list) where
  abbrev L : Source
  L = Written ps list

  pub over_text : IsOverText m f ps list
  over_text = record { symbols = ended.symbols; of_text = ended.of_text; in_text = ended.in_text; ranked = ended.ranked }

  pub derivable_here : (st : TermStatement) → Dec (Derivable f L st)
  derivable_here = derivable m f L ended.symbols ended.of_text ended.in_text ended.of_list

  pub reads_here : (t : Term) (x : Symbol) → Dec (CanRead m f L t x)
  reads_here = reads m f L ended.symbols ended.of_text ended.in_text ended.of_list

  pub firsts_here : HasFirsts f L
  firsts_here = firsts m f L ended.symbols ended.of_text ended.in_text ended.of_list

  pub reduced_here : HasReducedTypes f L
  reduced_here = reduce m f ps list over_text ended.of_list firsts_here

  -- ---- words of the text are cut

  -- the sources over which blocks of such words are read
  IsKnown : Source → Type 0
  IsKnown (Written qs others) = (qs ≡ ps) × (others ≡ list)
  IsKnown (SelfOf p) = IsOfText m p

  reads_known : (b : Source) → IsKnown b → (t : Term) (x : Symbol) → Dec (CanRead m f b t x)
  unfolding IsKnown
  reads_known (Written qs others) k t x = subst₂ (λ y z. Dec (CanRead m f (Written y z) t x)) (sym k.0) (sym k.1) (reads_here t x)
  reads_known (SelfOf p) k t x =
      reads m f (SelfOf p) ended.symbols ended.of_text (self_in_range m p k) (least_of_self m f p k ended.protocols) t x

  IsKnownPlace : Place → Type 0
  IsKnownPlace Outside = Unit {0}
  IsKnownPlace (Inside b t) = IsKnown b

  pub param_decided : (g : ParamId) → Dec (Contains ps g)
  param_decided g = elim (some_member (λ x. x ≡ g) (λ x. params_decided x g) ps) [
    | inl (x, h, e) ↦ yes (subst (λ y. Contains ps y) e h)
    | inr none ↦ no (λ h. none g h refl)
  ]

  opens : (x : Symbol) → Dec (Opens m f L x)
  opens (ProtoSymbol q) = yes refl
  opens (MemberSymbol k) = elim (dec_lt k (length m.members)) [ yes l ↦ yes (refl, l, ended.named k l) | no n ↦ no (λ h. n h.1) ]
  opens (ParamSymbol d i) = param_decided (record { depth = d; index = i })
  opens (NameSymbol a) = no (λ h. h)
  opens LayoutSymbol = no (λ h. h)

  known_over : (x : Symbol) → IsSymbolOfText m x → IsKnown (over m L x)
  unfolding IsKnown
  known_over (ProtoSymbol p) h = h
  known_over (MemberSymbol k) h = h.1
  known_over (ParamSymbol d i) h = (refl, refl)
  known_over (NameSymbol a) h = (refl, refl)
  known_over LayoutSymbol h = (refl, refl)

  -- a symbol that doesn't go on with the block
  cut_before : (x : Symbol) (u : Word) → IsSymbolOfText m x → (o : Place) → (GoesOn m f o x → ⊥)
      → ((z : Place) → IsKnownPlace z → Cut m f L z u) → Cut m f L o (x ∷ u)
  unfolding IsKnownPlace
  cut_before x u i o n rest = elim (opens x) [
    | yes c ↦ opened n c (rest (Inside (over m L x) (first m x)) (known_over x i))
    | no c ↦ alone n c (rest Outside tt)
  ]

  cut_from : (u : Word) → IsWordOfText m u → (o : Place) → IsKnownPlace o → Cut m f L o u
  unfolding IsKnownPlace
  cut_from [] h o k = at_end
  cut_from (x ∷ u) h Outside k = cut_before x u h.0 Outside (λ c. c) (λ z y. cut_from u h.1 z y)
  cut_from (x ∷ u) h (Inside b t) k = elim (reads_known b k t x) [
    | yes c ↦ on c (cut_from u h.1 (Inside b (after m t x)) k)
    | no n ↦ cut_before x u h.0 (Inside b t) n (λ z y. cut_from u h.1 z y)
  ]

  pub cuts : (u : Word) → IsWordOfText m u → Cut m f L Outside u
  unfolding IsKnownPlace
  cuts u h = cut_from u h Outside tt

  -- ---- candidates

  settled_here : (r : TermRequirement) → IsCanonical f L r
      → IsCandidate m f L r ⊎ Follows f ps (IsOfEarlierType f ps list (principal r)) (Requires r)
  settled_here = settled m f ps list over_text ended.named cuts ended.of_list firsts_here reads_here

  pub generator_here : (r : TermRequirement) → IsGenerator f ps list r → IsCandidate m f L r
  generator_here = generator_is_candidate m f ps list over_text ended.named cuts ended.of_list firsts_here reads_here

  pub canonical_here : (r : TermRequirement) → IsCandidate m f L r → IsCanonical f L r
  canonical_here = candidate_is_canonical m f ps list over_text

  pub enough_here : (candidates : List TermRequirement) → IsCandidateList m f L candidates → AreEnough f ps list candidates
  enough_here candidates all = candidates_are_enough m f ps list over_text candidates all settled_here

  -- ---- going through the list of candidates

  module _ (candidates taken : List TermRequirement) (all : IsCandidateList m f L candidates) (takes : Takes f ps [] candidates taken) where
    pub taken_here : IsGeneratorList f ps list taken
    taken_here = generator_list f ps list candidates taken (enough_here candidates all) takes

    told_here : AreGeneratorsTold f ps list
    told_here = generators_told f ps list candidates taken (enough_here candidates all) takes

    pub left_here : (left : List TermRequirement) → Leaves f ps [] taken left → IsMinimised f ps list left
    left_here left leaves = record { generators = taken; are_generators = taken_here; leaves = leaves }

    pub same_here : (minimised : List TermRequirement) → IsMinimised f ps list minimised → AreEquivalent f ps list minimised
    same_here minimised h = minimised_same f ps list minimised reduced_here told_here h

  module _ (candidates : List TermRequirement) (all : IsCandidateList m f L candidates) (decided : AreDecided f ps candidates) where
    pub generators_here : (generators : List TermRequirement) × IsGeneratorList f ps list generators
    generators_here = let (out, t, g) = some_generators f ps list candidates (enough_here candidates all) decided in (out, g)

    pub minimised_here : (minimised : List TermRequirement) × IsMinimised f ps list minimised
    minimised_here = some_minimised f ps list candidates (enough_here candidates all) decided

pub one_minimised : (m : Symbols) (f : TermFacts) (ps : List ParamId)
    (list candidates taken minimised others candidates_too taken_too minimised_too : List TermRequirement)
    → IsCompleted m f ps list → IsCandidateList m f (Written ps list) candidates → Takes f ps [] candidates taken
    → IsCompleted m f ps others → IsCandidateList m f (Written ps others) candidates_too → Takes f ps [] candidates_too taken_too
    → IsMinimised f ps list minimised → IsMinimised f ps others minimised_too → AreEquivalent f ps list others ↔ (minimised ≡ minimised_too)
one_minimised m f ps list candidates taken minimised others candidates_too taken_too minimised_too ended all takes ended_too
    all_too takes_too h k = (
      (λ same. same_minimised f ps list others minimised minimised_too same h k),
      λ e.
          same_by_minimised f ps list others minimised (reduced_here m f ps list ended)
          (told_here m f ps list ended candidates taken all takes)
          (reduced_here m f ps others ended_too) (told_here m f ps others ended_too candidates_too taken_too all_too takes_too) h
          (subst (λ x. IsMinimised f ps others x) (sym e) k),
    )
