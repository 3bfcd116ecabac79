-- Evidence by a list whose types are plain in it is a derivation.
use Rattle.std.proofs.Common.{◌≡◌, ◌⊎◌, List, [], ◌∷◌, ◌++◌, Contains, append-nil, subst, subst₂, sym, inl, inr}
use Rattle.std.proofs.lemmas.List.Elements.{Contains-append_left, Contains-append_right, Contains-append_cases}
use Rattle.swreq_canonical.specs.swreq_param.declared.ids.ParamId.{ParamId}
use Rattle.swreq_canonical.specs.swreq_param.declared.ids.Step.TheVariants.{Bound, Name}
use Rattle.swreq_canonical.specs.swreq_param.Terms.{Term}
use Rattle.swreq_canonical.specs.swreq_param.Terms.Term.{Generic, Member}
use Rattle.swreq_canonical.specs.swreq_derive.Derivation.{Derivable, Source, TermFacts, TermRequirement}
use Rattle.swreq_canonical.specs.swreq_derive.Derivation.Derives.{assoc_decl, conf, generic}
use Rattle.swreq_canonical.specs.swreq_derive.Derivation.Source.{Written}
use Rattle.swreq_canonical.specs.swreq_derive.Derivation.TermRequirement.{Conforms, Equals, IsAnyObject}
use Rattle.swreq_canonical.specs.swreq_derive.Derivation.TermStatement.{IsValid, Requires}
use Rattle.swreq_canonical.specs.swreq_derive.WellFormed.{HasValidSides}
use Rattle.swreq_canonical.proofs.swreq_lemmas.Members.{first_member, later_member, member_cases}
use Rattle.swreq_canonical.specs.swreq_word.Relations.{Linked}
use Rattle.swreq_canonical.specs.swreq_word.Relations.Chain.{done, more}
use Rattle.swreq_canonical.specs.swreq_word.Relations.Linked.{here as no_step, forth as step_forth, back as step_back}
use Rattle.swreq_canonical.proofs.swreq_word.Chains.{at_once, joined}
use Rattle.swreq_rounds.specs.swreq_rule.declared.rules.Rule.{Rule}
use Rattle.swreq_rounds.specs.swreq_rule.Steps.{Step}
use Rattle.swreq_canonical.specs.swreq_correspondence.Equations.{AreCongruent, Link, Linking, UsableEquation}
use Rattle.swreq_canonical.specs.swreq_correspondence.Equations.Equation.{member, of_protocol, of_source, twice}
use Rattle.swreq_canonical.specs.swreq_correspondence.Equations.Link.{back, forth, there}
use Rattle.swreq_canonical.specs.swreq_correspondence.Symbols.{AreOfText, AreSymbolsOf, IsInText, Symbols, Word, left_side, right_side}
use Rattle.swreq_canonical.proofs.swreq_correspondence.Chained.{chained_usable, turn, turn_all}
use Rattle.swreq_canonical.proofs.swreq_correspondence.Correspondence.{conforming_words, equal_words, layout_words}
use Rattle.swreq_canonical.proofs.swreq_correspondence.Shown.{linking_to}
use Rattle.swreq_rounds.specs.Presents.{ProtocolEquation}
use Rattle.swreq_canonical.specs.Canonical.{IsCanonical, principal}
use Rattle.swreq_canonical.specs.CanonicalOrder.{IsStrictlySorted, RequirementBefore}
use Rattle.swreq_canonical.specs.Generators.{AreGeneratorsTold, FollowsFromEarlier, IsGeneratorList}
use Rattle.swreq_canonical.proofs.Covering.{earlier_follows}
use Rattle.swreq_canonical.proofs.Following.{cut_sides, valid_by_more, with_sides}
use Rattle.swreq_canonical.proofs.Ordered.{strict_requirements, transitive_requirements}
use Rattle.swreq_canonical.proofs.Sides.{IsOfEarlierType, sides_by_earlier}
use Rattle.swreq_candidates.specs.Evidence.{AreRulesOfRest, HasEvidence, HasPlainTypes, IsPlain, IsPlainIn, RestEquation}
use Rattle.swreq_candidates.proofs.Inherited.{reached}
use Rattle.swreq_canonical.proofs.swreq_correspondence.Context.{chain_after, chain_before, link_before}

-- ---- steps by rules

module _ (m : Symbols) (f : TermFacts) (ps : List ParamId) (rest : List TermRequirement) (rules : List Rule)
    (each : AreRulesOfRest m f ps rest rules) where
  abbrev E : Word → Word → Type 0
  E = RestEquation m f ps rest

  a_link : (u v : Word) → Step rules u v → Link E u v
  a_link u v s =
      let (k, n, e) = s.is_rule in
      subst₂ (Link E) (sym s.at.source) (sym s.at.target) (link_before s.at.before (elim (each k s.rule e) [
        | inl h ↦ forth s.at.after h
        | inr h ↦ back s.at.after h
      ]))

  pub links : {u v : Word} → Linked (Step rules) u v → Linking E u v
  links no_step = done
  links (step_forth {a = u} {b = v} s c) = more (a_link u v s) (links c)
  links (step_back {a = u} {b = v} s c) = more (turn (a_link v u s)) (links c)

-- ---- plain types are valid

module _ (m : Symbols) (f : TermFacts) (ps : List ParamId) (rest : List TermRequirement) where
  abbrev R : Source
  R = Written ps rest

  abbrev C : Word → Word → Type 0
  C = AreCongruent m f R

  plain_valid : (t : Term) → IsPlainIn f ps rest t → Derivable f R (IsValid t)
  plain_valid (Generic g) h = generic h
  plain_valid (Member t (Bound d)) (h, (q, p, a, c, r, k)) = assoc_decl (reached (conf c (λ _. plain_valid t h)) r) k
  plain_valid (Member t (Name a)) h = absurd h

  plain_sides : (r : TermRequirement) → HasPlainTypes f ps rest r → HasValidSides f R r
  plain_sides (Conforms t p) h = plain_valid t h
  plain_sides (IsAnyObject t) h = plain_valid t h
  plain_sides (Equals t u) (h, k) = (plain_valid t h, plain_valid u k)

  -- ---- so the links of evidence are congruences over the rest

  module _ (plain : IsPlain f ps rest) where
    of_protocols : {u v : Word} → ProtocolEquation m f u v → UsableEquation m f R u v
    of_protocols (twice p h) = twice p h
    of_protocols (member k h) = member k h
    of_protocols (of_protocol p r h) = of_protocol p r h
    of_protocols (of_source r h) = absurd h

    of_rest : (r : TermRequirement) → Contains rest r → C (left_side m R r) (right_side m R r)
    of_rest r h = subst₂ C (append-nil (left_side m R r)) (append-nil (right_side m R r))
        (at_once (forth [] (of_source r (h, plain_sides r (plain r h)))))

    of_equation : {u v : Word} → RestEquation m f ps rest u v → C u v
    of_equation (inl c) = linking_to (λ a b e. of_protocols e) c
    of_equation (inr (r, h, e, g)) = subst₂ C (sym e) (sym g) (of_rest r h)

    of_link : {u v : Word} → Link (RestEquation m f ps rest) u v → C u v
    of_link (forth y e) = chain_after y (of_equation e)
    of_link (back y e) = turn_all (chain_after y (of_equation e))
    of_link (there x l) = chain_before (x ∷ []) (of_link l)

    of_chain : {u v : Word} → Linking (RestEquation m f ps rest) u v → C u v
    of_chain done = done
    of_chain (more l c) = joined (of_link l) (of_chain c)

    pub derives : AreSymbolsOf m f → AreOfText m f → IsInText m R → (r : TermRequirement) → HasValidSides f R r → HasEvidence m f ps rest r
        → Derivable f R (Requires r)
    derives fit ranges n (Conforms t p) v c = (conforming_words m f fit R ranges n t p v).1 (of_chain c)
    derives fit ranges n (IsAnyObject t) v c = (layout_words m f fit R ranges n t v).1 (of_chain c)
    derives fit ranges n (Equals t u) (v, w) c = (equal_words m f fit R ranges n t u v w).1 (of_chain c)

-- ---- in the order of dropping

module _ (f : TermFacts) (ps : List ParamId) (list generators : List TermRequirement) (told : AreGeneratorsTold f ps list)
    (all : IsGeneratorList f ps list generators) where
  covers : (r : TermRequirement) → IsCanonical f (Written ps list) r → Contains generators r ⊎ FollowsFromEarlier f ps list r
  covers r c = elim (told r c) [ inl h ↦ inl ((all.members r).1 h) | inr h ↦ inr h ]

  canonical : (r : TermRequirement) → Contains generators r → IsCanonical f (Written ps list) r
  canonical r h = ((all.members r).0 h).0

  -- the sides of a generator are valid from a list that holds those before it
  sides_from : (rest : List TermRequirement) (r : TermRequirement) → IsCanonical f (Written ps list) r
      → ((q : TermRequirement) → Contains generators q → RequirementBefore q r → Contains rest q) → HasValidSides f (Written ps rest) r
  sides_from rest r c sub =
      let S : TermRequirement → Type 0 = λ q. Contains generators q × RequirementBefore q r in
      let (qs, k, v) = with_sides f ps S r (cut_sides f ps (IsOfEarlierType f ps list (principal r)) S r
      (λ q b. earlier_follows f ps list generators covers r q (b.0, inl b.1)) (sides_by_earlier f ps list r c)) in
      valid_by_more f ps S qs rest r (λ q h. sub q (k q h).0 (k q h).1) v

  sorted_end : (front rest : List TermRequirement) → IsStrictlySorted (front ++ rest) → IsStrictlySorted rest
  sorted_end [] rest s = s
  sorted_end (x ∷ front) rest s = sorted_end front rest s.1

  in_front : (front after : List TermRequirement) (r q : TermRequirement) → IsStrictlySorted (front ++ (r ∷ after))
      → Contains (front ++ (r ∷ after)) q → RequirementBefore q r
      → Contains front q
  in_front front after r q s h b = elim (Contains-append_cases front (r ∷ after) q h) [
    | inl x ↦ x
    | inr x ↦ elim (member_cases r q after x) [
      | inl e ↦ absurd (strict_requirements r (subst (λ z. RequirementBefore z r) e b))
      | inr y ↦ absurd (strict_requirements q (transitive_requirements q r q b ((sorted_end front (r ∷ after) s).0 q y)))
    ]
  ]

  module _ (m : Symbols) (fit : AreSymbolsOf m f) (ranges : AreOfText m f) (n : IsInText m (Written ps list)) where
    pub drops : (front after left : List TermRequirement) (r : TermRequirement) → generators ≡ front ++ (r ∷ after)
        → ((q : TermRequirement) → Contains left q → Contains after q) → IsPlain f ps (front ++ left) → HasEvidence m f ps (front ++ left) r
        → Derivable f (Written ps (front ++ left)) (Requires r)
    drops front after left r e sub plain evidence = derives m f ps (front ++ left) plain fit ranges in_text r sides evidence
      where
        was_there : (q : TermRequirement) → Contains (front ++ left) q → Contains generators q
        was_there q h = subst (λ z. Contains z q) (sym e) (elim (Contains-append_cases front left q h) [
          | inl x ↦ Contains-append_left front (r ∷ after) q x
          | inr x ↦ Contains-append_right front (r ∷ after) q (later_member r q after (sub q x))
        ])

        in_text : IsInText m (Written ps (front ++ left))
        in_text t p h = (chained_usable m fit ranges n (canonical (Conforms t p) (was_there (Conforms t p) h)).0).0

        own : Contains generators r
        own = subst (λ z. Contains z r) (sym e) (Contains-append_right front (r ∷ after) r (first_member r after))

        sides : HasValidSides f (Written ps (front ++ left)) r
        sides = sides_from (front ++ left) r (canonical r own)
            (λ q h b. Contains-append_left front left q
            (in_front front after r q (subst IsStrictlySorted e all.sorted) (subst (λ z. Contains z q) e h) b))
