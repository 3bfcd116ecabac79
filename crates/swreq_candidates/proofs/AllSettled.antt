-- Each canonical requirement is a candidate, or follows from canonical requirements of earlier types.
use Rattle.std.proofs.Common.{◌≡◌, ◌⊎◌, ◌<◌, ◌≤◌, ◌+◌, ℕ, suc, List, [], ◌∷◌, refl, subst, sym, ◌∙◌, inl, inr, arith}
use Rattle.swreq_canonical.specs.swreq_param.declared.ids.AssocId.{AssocId}
use Rattle.swreq_canonical.specs.swreq_param.declared.ids.NameId.{NameId}
use Rattle.swreq_canonical.specs.swreq_param.declared.ids.ParamId.{ParamId}
use Rattle.swreq_canonical.specs.swreq_param.declared.ids.ProtoId.{ProtoId}
use Rattle.swreq_canonical.specs.swreq_param.declared.ids.Step.TheVariants.{Bound, Name}
use Rattle.swreq_canonical.specs.swreq_param.Order.{TermBefore}
use Rattle.swreq_canonical.specs.swreq_param.Terms.{Term, member_count}
use Rattle.swreq_canonical.specs.swreq_param.Terms.Term.{Generic, Member}
use Rattle.swreq_canonical.proofs.swreq_param.TotalOrder.{transitive}
use Rattle.swreq_canonical.specs.swreq_derive.Derivation.{Declares, Derivable, Source, TermFacts, TermRequirement}
use Rattle.swreq_canonical.specs.swreq_derive.Derivation.Derives.{assoc_bind, assoc_decl, symm, trans}
use Rattle.swreq_canonical.specs.swreq_derive.Derivation.Source.{Written}
use Rattle.swreq_canonical.specs.swreq_derive.Derivation.TermRequirement.{Conforms, Equals, IsAnyObject}
use Rattle.swreq_canonical.specs.swreq_derive.Derivation.TermStatement.{Requires}
use Rattle.swreq_canonical.specs.swreq_derive.Reduced.{IsReduced}
use Rattle.swreq_canonical.specs.swreq_word.declared.symbols.Symbol.{Symbol}
use Rattle.swreq_canonical.specs.swreq_word.declared.symbols.Symbol.TheVariants.{Member as MemberSymbol, Param as ParamSymbol}
use Rattle.swreq_canonical.proofs.swreq_word.Chains.{joined}
use Rattle.swreq_canonical.specs.swreq_correspondence.Equations.{UsableEquation}
use Rattle.swreq_canonical.specs.swreq_correspondence.Readings.{CanRead}
use Rattle.swreq_canonical.specs.swreq_correspondence.Symbols.{Symbols, Word, name_of}
use Rattle.swreq_canonical.specs.swreq_correspondence.Types.{HasFirsts, IsFirstFor}
use Rattle.swreq_canonical.proofs.swreq_correspondence.Chained.{turn_all}
use Rattle.swreq_canonical.proofs.swreq_correspondence.Readings.{sides_of, valid_bound}
use Rattle.swreq_canonical.specs.Canonical.{IsCanonical, principal}
use Rattle.swreq_canonical.specs.Generators.{Follows, IsEarlier, IsGenerator}
use Rattle.swreq_canonical.proofs.Following.{by_one, by_two, wider}
use Rattle.swreq_canonical.proofs.ReducedLemmas.{not_itself, result_reduced}
use Rattle.swreq_canonical.proofs.Sides.{IsOfEarlierType, shorter_is_earlier}
use Rattle.swreq_canonical.proofs.swreq_correspondence.OneType.{one_assoc}
use Rattle.swreq_candidates.specs.Blocks.{AreMembersNamed, Cut}
use Rattle.swreq_candidates.specs.Blocks.Place.{Outside}
use Rattle.swreq_candidates.specs.Candidates.{IsCandidate}
use Rattle.swreq_candidates.specs.Completed.{HasLeastWords, IsWordOfText}
use Rattle.swreq_candidates.proofs.Ends.{single_factors}
use Rattle.swreq_candidates.proofs.Parts.{conformance}
use Rattle.swreq_candidates.proofs.SameTypes.{first_settled}
use Rattle.swreq_canonical.proofs.swreq_param.DecidedIds.{names_decided}
use Rattle.swreq_candidates.proofs.Searches.{assocs_decided, both_decided, least_below}
use Rattle.swreq_candidates.proofs.Settled.{IsOverText, IsSettled, conformance_settled, equal_spells, layout_settled, least_word, not_least, one_reduced, reduce, stands_for}
use Rattle.swreq_candidates.proofs.ShorterTypes.{principal_follows}

module _ (m : Symbols) (f : TermFacts) (ps : List ParamId) (list : List TermRequirement) (text : IsOverText m f ps list)
    (named : AreMembersNamed m f) (cuts : (w : Word) → IsWordOfText m w → Cut m f (Written ps list) Outside w)
    (least : HasLeastWords (UsableEquation m f (Written ps list))) (firsts : HasFirsts f (Written ps list)) where
  abbrev L : Source
  L = Written ps list

  abbrev Settled : TermRequirement → Type 0
  Settled = IsSettled m f ps list text named cuts least firsts

  -- ---- a same-type requirement of a bound member

  module _ (reads : (t : Term) (x : Symbol) → Dec (CanRead m f L t x)) where
    -- of the member symbols of a name that are read after r, the least
    least_symbol : (r : Term) (a : NameId) (j : ℕ) → CanRead m f L r (MemberSymbol j) → name_of m j ≡ a
        → (k : ℕ) × CanRead m f L r (MemberSymbol k) × (name_of m k ≡ a)
        × ((i : ℕ) → i < k → CanRead m f L r (MemberSymbol i) → name_of m i ≡ a → ⊥)
    least_symbol r a j c e = elim (least_below (λ i. CanRead m f L r (MemberSymbol i) × (name_of m i ≡ a))
        (λ i. both_decided (reads r (MemberSymbol i)) (names_decided (name_of m i) a)) (suc j)) [
          | inl (k, h, q, l) ↦ (k, q.0, q.1, λ i g x y. l i g (x, y))
          | inr none ↦ absurd (none j (omega arith) (c, e))
        ]

    -- with the first associated type of its name
    with_first : (r z : Term) (p : ProtoId) (a : NameId) (d : AssocId) → Declares f p a d → Derivable f L (Requires (Conforms r p))
        → IsReduced f L r → IsFirstFor f L r a d
        → IsCanonical f L (Equals z (Member r (Bound d))) → Settled (Equals z (Member r (Bound d)))
    with_first r z p a d h c b i can =
        let w = text.symbols p a d h in
        let cr : CanRead m f L r (MemberSymbol (m.rank_of d))
        = (w.0, subst (λ x. Derivable f L (Requires (Conforms r x))) (sym w.1) c, (p, d, c, subst (λ x. Declares f p x d) (sym w.2) h)) in
        let (k, ck, e, none) = least_symbol r a (m.rank_of d) cr w.2 in
        let (u, hu, lu) = least_word m f ps list text least firsts r b in
        first_settled m f ps list text least firsts r z d k (subst (λ x. IsFirstFor f L r x d) (sym e) i) ck b can.1.2
        (λ j g x y. none j g x (y ∙ e)) u hu lu named cuts (not_itself can.1.2 can.1.1)

    -- with another one: it follows from the conformances, and where the first one is not reduced from its same-type requirement
    with_another : (r z : Term) (p : ProtoId) (a : NameId) (d g : AssocId) → Declares f p a d → Derivable f L (Requires (Conforms r p))
        → IsReduced f L r → IsFirstFor f L r a g
        → (g ≡ d → ⊥) → IsCanonical f L (Equals z (Member r (Bound d)))
        → Follows f ps (IsOfEarlierType f ps list (Member r (Bound d))) (Requires (Equals z (Member r (Bound d))))
    with_another r z p a d g h c b i differ can =
        let le : g.rank ≤ d.rank = i.first p d h c in
        let ne : g.rank ≡ d.rank → ⊥ = λ k. differ (one_assoc k) in
        let lt : g.rank < d.rank = omega arith in
        let before : TermBefore (Member r (Bound g)) (Member r (Bound d)) = inr (refl, inr (refl, lt)) in
        let S : TermRequirement → Type 0 = IsOfEarlierType f ps list (Member r (Bound d)) in
        let conforms : (o : ProtoId) → Derivable f L (Requires (Conforms r o)) → Follows f ps S (Requires (Conforms r o))
        = λ o y. shorter_is_earlier f ps list (Member r (Bound d)) (member_count r + 1) (omega arith)
        (conformance m f ps list (member_count r + 1) r o b y (omega arith)) in
        let to : Follows f ps S (Requires (Equals (Member r (Bound d)) (Member r (Bound g))))
        = by_two f ps S (conforms p c) (conforms i.proto i.conforms) (λ rs x y. trans (assoc_bind x h) (symm (assoc_bind y i.declares))) in
        let equal : Derivable f L (Requires (Equals (Member r (Bound d)) (Member r (Bound g)))) =
        trans (assoc_bind c h) (symm (assoc_bind i.conforms i.declares)) in
        let (y, yo) = reduce m f ps list text least firsts (Member r (Bound g)) (assoc_decl i.conforms i.declares) in
        let yz : y ≡ z = one_reduced m f ps list text (Member r (Bound g)) (Member r (Bound d)) y z yo can.1.2 (symm equal) in
        let last : Follows f ps S (Requires (Equals (Member r (Bound g)) y))
        = principal_follows f ps list S (Member r (Bound g)) y
        (λ x j. (j.0, transitive (principal x) (Member r (Bound g)) (Member r (Bound d)) j.1 before)) (λ j. (j, before)) yo b
        (by_one f ps S (conforms i.proto i.conforms) (λ rs x. assoc_decl x i.declares)) in
        by_two f ps S to (subst (λ x. Follows f ps S (Requires (Equals (Member r (Bound g)) x))) yz last) (λ rs x y. symm (trans x y))

    -- ---- all of them

    same_type_settled : (z v : Term) → IsCanonical f L (Equals z v) → Settled (Equals z v)
    same_type_settled z (Generic g) can =
        let (y, hy, ly) = least_word m f ps list text least firsts z (result_reduced can.1.2) in
        let differ : Generic g ≡ z → ⊥ = not_itself can.1.2 can.1.1 in
        inl (
          ParamSymbol g.depth g.index ∷ [],
          y,
          (
            record {
              not_least = not_least m f ps list text (Generic g) z (ParamSymbol g.depth g.index ∷ []) refl can.1.2 differ;
              factors = single_factors (UsableEquation m f L) (ParamSymbol g.depth g.index);
            },
            joined (equal_spells m f ps list text (Generic g) z can.1.2.equal []) (turn_all (stands_for m f ps list text z y hy)),
            ly,
          ),
          ((sides_of can.1.2.equal).1, (sides_of can.1.2.equal).0, (λ h. differ (sym h)), hy, refl),
        )
    same_type_settled z (Member r (Bound d)) can =
        let (p, a, c, h) = valid_bound (sides_of can.1.2.equal).0 in
        let (g, i) = firsts r a (p, d, c, h) in
        elim (assocs_decided g d) [
          | yes e ↦ with_first r z p a d h c can.1.0 (subst (λ x. IsFirstFor f L r a x) e i) can
          | no differ ↦ inr (with_another r z p a d g h c can.1.0 i differ can)
        ]
    same_type_settled z (Member r (Name a)) can = absurd can.1.0

    pub settled : (r : TermRequirement) → IsCanonical f L r
        → IsCandidate m f L r ⊎ Follows f ps (IsOfEarlierType f ps list (principal r)) (Requires r)
    settled (Conforms t p) c = conformance_settled m f ps list text named cuts least firsts t p c.1 c.0
    settled (IsAnyObject t) c = layout_settled m f ps list text named cuts least firsts t c.1 c.0
    settled (Equals z v) c = same_type_settled z v c

    pub generator_is_candidate : (r : TermRequirement) → IsGenerator f ps list r → IsCandidate m f L r
    generator_is_candidate r (c, none) = elim (settled r c) [
      | inl h ↦ h
      | inr h ↦ absurd (none (wider f ps (IsOfEarlierType f ps list (principal r)) (IsEarlier f L r) (λ q b. (b.0, inl b.1)) h))
    ]
