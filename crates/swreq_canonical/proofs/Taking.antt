-- Of candidates that are enough, those that are taken are exactly the generators.
use Rattle.std.proofs.Common.{◌⊎◌, List, [], ◌∷◌, ◌++◌, Contains, subst, sym, inl, inr}
use Rattle.std.proofs.lemmas.List.Elements.{Contains-append_left, Contains-push, Contains-push_cases}
use Rattle.swreq_derive.specs.swreq_param.declared.ids.ParamId.{ParamId}
use Rattle.swreq_derive.specs.Derivation.{Derivable, Source, TermFacts, TermRequirement}
use Rattle.swreq_derive.specs.Derivation.Source.{Written}
use Rattle.swreq_derive.specs.Derivation.TermStatement.{Requires}
use Rattle.swreq_derive.proofs.swreq_lemmas.Members.{first_member, later_member, member_cases, no_member}
use Rattle.swreq_canonical.specs.Canonical.{IsCanonical}
use Rattle.swreq_canonical.specs.CanonicalOrder.{IsStrictlySorted, RequirementBefore}
use Rattle.swreq_canonical.specs.Generators.{AreDecided, AreEnough, AreGeneratorsTold, FollowsFromEarlier, IsEarlier, IsGenerator, IsGeneratorList, Takes}
use Rattle.swreq_canonical.specs.Generators.Takes.{ended, skipped, taken}
use Rattle.swreq_canonical.proofs.Covering.{Before, earlier_follows}
use Rattle.swreq_canonical.proofs.Following.{cut, weaken}
use Rattle.swreq_canonical.proofs.Ordered.{strict_requirements, transitive_requirements}

-- members of the one come before those of the other
abbrev AreBefore : List TermRequirement → List TermRequirement → Type 0
AreBefore xs ys = (x y : TermRequirement) → Contains xs x → Contains ys y → RequirementBefore x y

push_before : (xs ys : List TermRequirement) (r : TermRequirement) → AreBefore xs (r ∷ ys) → IsStrictlySorted (r ∷ ys)
    → AreBefore (xs ++ (r ∷ [])) ys
push_before xs ys r b s x y h i = elim (Contains-push_cases xs r x h) [
  | inl k ↦ b x y k (later_member r y ys i)
  | inr e ↦ subst (λ z. RequirementBefore z y) e (s.0 y i)
]

push_sorted : (xs : List TermRequirement) (r : TermRequirement) → IsStrictlySorted xs
    → ((x : TermRequirement) → Contains xs x → RequirementBefore x r)
    → IsStrictlySorted (xs ++ (r ∷ []))
push_sorted [] r s b = ((λ q h. no_member q h), tt)
push_sorted (x ∷ xs) r s b = (
  (λ q h. elim (Contains-push_cases xs r q h) [ inl i ↦ s.0 q i | inr e ↦ subst (λ z. RequirementBefore x z) e (b x (first_member x xs)) ]),
  push_sorted xs r s.1 (λ q h. b q (later_member x q xs h)),
)

module _ (f : TermFacts) (ps : List ParamId) where
  stay : {before rest out : List TermRequirement} → Takes f ps before rest out → (r : TermRequirement) → Contains before r → Contains out r
  stay ended r h = h
  stay (skipped d e) r h = stay e r h
  stay (taken {before = before} {r = x} n e) r h = stay e r (Contains-append_left before (x ∷ []) r h)

  from : {before rest out : List TermRequirement} → Takes f ps before rest out → (r : TermRequirement) → Contains out r
      → Contains before r ⊎ Contains rest r
  from ended r h = inl h
  from (skipped {rest = rest} {r = x} d e) r h = elim (from e r h) [ inl i ↦ inl i | inr i ↦ inr (later_member x r rest i) ]
  from (taken {before = before} {rest = rest} {r = x} n e) r h = elim (from e r h) [
    | inl i ↦
        elim (Contains-push_cases before x r i) [ inl k ↦ inl k | inr k ↦ inr (subst (λ z. Contains (x ∷ rest) z) k (first_member x rest)) ]
    | inr i ↦ inr (later_member x r rest i)
  ]

  sorted_out : {before rest out : List TermRequirement} → Takes f ps before rest out → IsStrictlySorted rest → AreBefore before rest
      → IsStrictlySorted before
      → IsStrictlySorted out
  sorted_out ended s b g = g
  sorted_out (skipped {rest = rest} {r = x} d e) s b g = sorted_out e s.1 (λ p q i j. b p q i (later_member x q rest j)) g
  sorted_out (taken {before = before} {rest = rest} {r = x} n e) s b g =
      sorted_out e s.1 (push_before before rest x b s) (push_sorted before x g (λ p h. b p x h (first_member x rest)))

  -- When it is r's turn, those of what is taken that come before r are there, and r is skipped or taken.
  record Turn (out : List TermRequirement) (r : TermRequirement) : Type 0 where
    pub so_far : List TermRequirement
    pub are_out : (q : TermRequirement) → Contains so_far q → Contains out q
    pub are_before : (q : TermRequirement) → Contains so_far q → RequirementBefore q r
    pub are_all : (q : TermRequirement) → Contains out q → RequirementBefore q r → Contains so_far q
    pub outcome : (Derivable f (Written ps so_far) (Requires r) × (Contains out r → ⊥))
        ⊎ ((Derivable f (Written ps so_far) (Requires r) → ⊥) × Contains out r)

  -- of what is taken, only what was taken before comes before the next candidate
  none_later : (before rest out : List TermRequirement) (r : TermRequirement) → IsStrictlySorted (r ∷ rest)
      → ((q : TermRequirement) → Contains out q → Contains before q ⊎ Contains (r ∷ rest) q)
      → (q : TermRequirement) → Contains out q → RequirementBefore q r → Contains before q
  none_later before rest out r s cases q h i = elim (cases q h) [
    | inl k ↦ k
    | inr k ↦ elim (member_cases r q rest k) [
      | inl e ↦ absurd (strict_requirements r (subst (λ z. RequirementBefore z r) e i))
      | inr j ↦ absurd (strict_requirements q (transitive_requirements q r q i (s.0 q j)))
    ]
  ]

  turn : {before rest out : List TermRequirement} → Takes f ps before rest out → (r : TermRequirement) → IsStrictlySorted rest
      → AreBefore before rest → Contains rest r → Turn out r
  turn ended r s b h = no_member r h
  turn (skipped {before = before} {rest = rest} {out = out} {r = x} d e) r s b h = elim (member_cases x r rest h) [
    | inl i ↦ subst (λ z. Turn out z) (sym i) (record {
      so_far = before;
      are_out = stay e;
      are_before = λ q k. b q x k (first_member x rest);
      are_all = none_later before rest out x s (from (skipped d e));
      outcome = inl (
        d,
        λ k. elim (from e x k) [
          | inl j ↦ strict_requirements x (b x x j (first_member x rest))
          | inr j ↦ strict_requirements x (s.0 x j)
        ],
      );
    })
    | inr i ↦ turn e r s.1 (λ p q k j. b p q k (later_member x q rest j)) i
  ]
  turn (taken {before = before} {rest = rest} {out = out} {r = x} n e) r s b h = elim (member_cases x r rest h) [
    | inl i ↦ subst (λ z. Turn out z) (sym i) (record {
      so_far = before;
      are_out = λ q k. stay e q (Contains-append_left before (x ∷ []) q k);
      are_before = λ q k. b q x k (first_member x rest);
      are_all = none_later before rest out x s (from (taken n e));
      outcome = inr (n, stay e x (Contains-push before x));
    })
    | inr i ↦ turn e r s.1 (push_before before rest x b s) i
  ]

  module _ (list candidates out : List TermRequirement) (enough : AreEnough f ps list candidates)
      (takes : Takes f ps [] candidates out) where
    abbrev L : Source
    L = Written ps list

    none_before : AreBefore [] candidates
    none_before x y h i = no_member x h

    candidate : (r : TermRequirement) → Contains out r → Contains candidates r
    candidate r h = elim (from takes r h) [ inl i ↦ no_member r i | inr i ↦ i ]

    canonical : (r : TermRequirement) → Contains out r → IsCanonical f L r
    canonical r h = enough.canonical r (candidate r h)

    turn_of : (r : TermRequirement) → Contains candidates r → Turn out r
    turn_of r h = turn takes r enough.sorted none_before h

    -- a candidate that is skipped follows from earlier ones
    covers : (r : TermRequirement) → IsCanonical f L r → Contains out r ⊎ FollowsFromEarlier f ps list r
    covers r c = elim (enough.covers r c) [
      | inr h ↦ inr h
      | inl h ↦ (let t = turn_of r h in elim t.outcome [
        | inl d ↦ inr (t.so_far, (λ q i. (canonical q (t.are_out q i), t.are_before q i)), d.0)
        | inr d ↦ inl d.1
      ])
    ]

    is_generator : (r : TermRequirement) → Contains out r → IsGenerator f ps list r
    is_generator r h = let t = turn_of r (candidate r h) in (
      canonical r h,
      λ w. elim t.outcome [
        | inl d ↦ d.1 h
        | inr d ↦ (let (rs, k, e) = cut f ps (IsEarlier f L r) (Before f ps list out covers r) (earlier_follows f ps list out covers r) w in
            d.0 (weaken (λ q i. t.are_all q (k q i).0 (k q i).1) e))
      ],
    )

    pub generators_told : AreGeneratorsTold f ps list
    generators_told r c = elim (covers r c) [ inl h ↦ inl (is_generator r h) | inr h ↦ inr h ]

    is_taken : (r : TermRequirement) → IsGenerator f ps list r → Contains out r
    is_taken r (c, n) = elim (covers r c) [ inl h ↦ h | inr h ↦ absurd (n h) ]

    pub generator_list : IsGeneratorList f ps list out
    generator_list = record { sorted = sorted_out takes enough.sorted none_before tt; members = λ r. (is_generator r, is_taken r) }

  -- Where it is decided what lists of candidates derive, one can go through them.
  pub some_taken : (all before rest : List TermRequirement) → ((r : TermRequirement) → Contains before r → Contains all r)
      → ((r : TermRequirement) → Contains rest r → Contains all r) → AreDecided f ps all
      → (out : List TermRequirement) × Takes f ps before rest out
  some_taken all before [] b c decided = (before, ended)
  some_taken all before (r ∷ rest) b c decided = elim (decided before r b) [
    | yes d ↦ (let (out, e) = some_taken all before rest b (λ q h. c q (later_member r q rest h)) decided in (out, skipped d e))
    | no n ↦ (let (out, e) = some_taken all (before ++ (r ∷ [])) rest
        (λ q h.
        elim (Contains-push_cases before r q h) [ inl i ↦ b q i | inr i ↦ subst (λ z. Contains all z) i (c r (first_member r rest)) ])
        (λ q h. c q (later_member r q rest h)) decided in
        (out, taken n e))
  ]

  pub some_generators : (list candidates : List TermRequirement) → AreEnough f ps list candidates → AreDecided f ps candidates
      → (out : List TermRequirement) × Takes f ps [] candidates out × IsGeneratorList f ps list out
  some_generators list candidates enough decided =
      let (out, e) = some_taken candidates [] candidates (λ r h. no_member r h) (λ r h. h) decided in
      (out, e, generator_list list candidates out enough e)

  pub are_candidates : {candidates out : List TermRequirement} → Takes f ps [] candidates out → (r : TermRequirement)
      → Contains out r → Contains candidates r
  are_candidates t r h = elim (from t r h) [ inl i ↦ no_member r i | inr i ↦ i ]
