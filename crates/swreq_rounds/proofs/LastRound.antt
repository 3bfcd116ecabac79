-- The last round uses exactly the usable requirements, and its rules stand for their equations.
use Rattle.std.proofs.Common.{◌≡◌, ◌⊎◌, inl, inr, sym, ap, subst, subst₂, List, [], map, ◌↔◌, Contains, Option}
use Rattle.std.proofs.lemmas.List.Elements.{Contains-append_cases, Contains-append_left, Contains-append_right}
use Rattle.swreq_correspondence.specs.swreq_param.declared.ids.ParamId.{ParamId}
use Rattle.swreq_correspondence.specs.swreq_param.declared.ids.ProtoId.{ProtoId}
use Rattle.swreq_correspondence.specs.swreq_derive.Derivation.{TermRequirement, TermFacts, Source}
use Rattle.swreq_correspondence.specs.swreq_derive.Derivation.Source.{Written, SelfOf}
use Rattle.swreq_complete.proofs.swreq_lemmas.Members.{no_member, contains_map, contains_of_map}
use Rattle.swreq_complete.specs.swreq_word.Relations.{Linked}
use Rattle.swreq_complete.specs.swreq_rule.declared.rules.Rule.{Rule}
use Rattle.swreq_complete.specs.swreq_rule.Steps.{Step}
use Rattle.swreq_complete.specs.swreq_watch.declared.events.Event.{Event}
use Rattle.swreq_complete.specs.Alike.{ReduceAlike}
use Rattle.swreq_complete.specs.declared.limit.Limits.{Limits}
use Rattle.swreq_complete.proofs.Alike.{alike_are_linked}
use Rattle.swreq_correspondence.specs.Symbols.{Word, Symbols, IsOfText, AreSymbolsOf, AreOfText, IsInText, left_side, right_side}
use Rattle.swreq_correspondence.specs.Equations.{Equation, Linking, UsableOf, UsableIn, UsableEquation}
use Rattle.swreq_correspondence.specs.Equations.Equation.{twice, member, of_protocol, of_source}
use Rattle.swreq_correspondence.specs.Shown.{ShowsUsable}
use Rattle.swreq_correspondence.proofs.Chained.{self_in_range}
use Rattle.swreq_correspondence.proofs.Shown.{linking_to, more_equations, usable_by_more, shown_usable, usable_shown}
use Rattle.swreq_rounds.specs.Plan.{Item, Plan, given, equation_of}
use Rattle.swreq_rounds.specs.Rounds.{Bears, Ends, IsRound, IsLastRound, Passed}
use Rattle.swreq_rounds.specs.Rounds.IsRound.{after, begin}
use Rattle.swreq_rounds.specs.Given.{basic_equations, of_self, protocols_plan, of_list, list_plan}
use Rattle.swreq_rounds.specs.Presents.{Presents, ProtocolEquation, AreProtocolRules, AreListRules}
use Rattle.swreq_rounds.proofs.Members.{selected, selects, basic_is, has_doubled, has_named, items_are, has_item}
use Rattle.swreq_rounds.proofs.Presented.{ended_presents, presents_to, none_presents, reached_linking}
use Rattle.swreq_rounds.proofs.Turning.{goes_on, round_within}
use Rattle.swreq_rounds.proofs.Turning.Goes.{joined, shown}

-- what is shown by rules that present equations is what is shown by the equations
pub shown_both : (m : Symbols) (f : TermFacts) (s : Source) (rules : List Rule) (E : Word → Word → Type 0) → Presents rules E
    → (r : TermRequirement) → ShowsUsable m f s (Linked (Step rules)) r ↔ ShowsUsable m f s (Linking E) r
shown_both m f s rules E p r = (
  usable_by_more m f s (Linked (Step rules)) (Linking E) (λ u v l. (p u v).0 l) r,
  usable_by_more m f s (Linking E) (Linked (Step rules)) (λ u v l. (p u v).1 l) r,
)

same_self : {p q : ProtoId} → SelfOf p ≡ SelfOf q → p ≡ q
same_self e = cc

-- ---- the protocols

module _ (m : Symbols) (f : TermFacts) (fit : AreSymbolsOf m f) (ranges : AreOfText m f) (limits : Limits) where
  abbrev plan : Plan
  plan = protocols_plan m f

  -- the equations of a round, over no list and over [τ_0_0 : P]
  abbrev Used : List Item → ProtoId → TermRequirement → Type 0
  Used used p r = Contains used (of_self p r)

  abbrev Of : List Item → Source → Word → Word → Type 0
  Of used s = Equation m (Used used) (λ r. ⊥) s

  into : (used : List Item) (p : ProtoId) (l r : Word) → Of used (Written [] []) l r → Of used (SelfOf p) l r
  into used p l r (twice q k) = twice q k
  into used p l r (member k i) = member k i
  into used p l r (of_protocol q x k) = of_protocol q x k
  into used p l r (of_source x k) = absurd k

  out : (used : List Item) (p : ProtoId) → IsOfText m p → (l r : Word) → Of used (SelfOf p) l r → Of used (Written [] []) l r
  out used p h l r (twice q k) = twice q k
  out used p h l r (member k i) = member k i
  out used p h l r (of_protocol q x k) = of_protocol q x k
  out used p h l r (of_source x k) =
      subst (λ y. Of used (Written [] []) (left_side m (SelfOf p) y) (right_side m (SelfOf p) y)) (sym k) (twice p h)

  given_is : (used : List Item) → ((x : Item) → Contains used x → Contains plan.all x) → (l r : Word) → Contains (given plan used) (l, r)
      → Of used (Written [] []) l r
  given_is used within l r h = elim (Contains-append_cases {X = Word × Word} (basic_equations m) (map (equation_of m) used) (l, r) h) [
    | inl k ↦ elim (basic_is m m.protocols (l, r) k) [
      | inl q ↦ subst₂ (Of used (Written [] [])) (sym (ap (λ e. e.0) q.2)) (sym (ap (λ e. e.1) q.2)) (twice q.0 q.1)
      | inr q ↦ subst₂ (Of used (Written [] [])) (sym (ap (λ e. e.0) q.2)) (sym (ap (λ e. e.1) q.2)) (member q.0 q.1)
    ]
    | inr k ↦ (let x = contains_of_map (equation_of m) used (l, r) k in
        let i = items_are f m.protocols x.0 (within x.0 x.1) in
        let e : Contains used (of_self i.0 i.1) = subst (λ z. Contains used z) i.3 x.1 in
        subst₂ (Of used (Written [] [])) (sym (ap (λ z. z.0) x.2)) (sym (ap (λ z. z.1) x.2))
        (subst (λ (z : Item). Of used (Written [] []) (left_side m z.source z.requirement) (right_side m z.source z.requirement)) (sym i.3)
        (of_protocol i.0 i.1 e)))
  ]

  is_given : (used : List Item) (l r : Word) → Of used (Written [] []) l r → Contains (given plan used) (l, r)
  is_given used l r (twice p h) = Contains-append_left (basic_equations m) (map (equation_of m) used) (l, r) (has_doubled m m.protocols p h)
  is_given used l r (member k i) =
      Contains-append_left (basic_equations m) (map (equation_of m) used) (l, r) (has_named m m.protocols k i (ranges.members k i))
  is_given used l r (of_protocol p x h) =
      Contains-append_right (basic_equations m) (map (equation_of m) used) (l, r) (contains_map (equation_of m) used (of_self p x) h)
  is_given used l r (of_source x h) = absurd h

  round_presents : (used : List Item) → ((x : Item) → Contains used x → Contains plan.all x) → (rules : List Rule)
      → Ends limits plan used rules → Presents rules (Of used (Written [] []))
  round_presents used within rules e =
      ended_presents [] (given plan used) rules (λ l r. ⊥) (Of used (Written [] [])) e.0 e.1.ended none_presents
      (λ l r z. absurd z) (given_is used within) (λ l r z. inr (is_given used l r z))

  -- a requirement of P is shown by the rules of a round where it is by its equations over [τ_0_0 : P]
  shown_over_self : (used : List Item) (rules : List Rule) → Presents rules (Of used (Written [] [])) → (p : ProtoId)
      → IsOfText m p → (r : TermRequirement)
      → ShowsUsable m f (SelfOf p) (Linked (Step rules)) r ↔ ShowsUsable m f (SelfOf p) (Linking (Of used (SelfOf p))) r
  shown_over_self used rules present p h r = shown_both m f (SelfOf p) rules (Of used (SelfOf p))
      (presents_to rules (Of used (Written [] [])) (Of used (SelfOf p)) (into used p) (out used p h) present) r

  abbrev AreUsable : List Item → Type 0
  AreUsable used = (p : ProtoId) (r : TermRequirement) → Used used p r → UsableOf f p r

  of_all : (p : ProtoId) (r : TermRequirement) → Contains plan.all (of_self p r) → Contains (f.of_protocol p) r
  of_all p r h = let i = items_are f m.protocols (of_self p r) h in same i.0 i.1 i.2 i.3
    where
      same : (q : ProtoId) (x : TermRequirement) → Contains (f.of_protocol q) x → of_self p r ≡ of_self q x → Contains (f.of_protocol p) r
      same q x k e =
          subst₂ (λ y z. Contains (f.of_protocol y) z) (sym (same_self (ap (λ z. z.source) e))) (sym (ap (λ z. z.requirement) e)) k

  -- what a sound congruence shows of a round of usable requirements is usable
  usable_by : (used : List Item) → AreUsable used → (C : Word → Word → Type 0)
      → ((u v : Word) → C u v → Linking (Of used (Written [] [])) u v)
      → (p : ProtoId) (r : TermRequirement) → Contains (f.of_protocol p) r → ShowsUsable m f (SelfOf p) C r → UsableOf f p r
  usable_by used sound C links p r k h = (
    k,
    shown_usable m f fit ranges (SelfOf p) (self_in_range m p (ranges.owners p r k)) (Used used) (λ x. ⊥) sound (λ x z. z) r
        (usable_by_more m f (SelfOf p) C (Linking (Of used (SelfOf p))) (λ u v c. linking_to (into used p) (links u v c)) r h),
  )

  -- the rules of a short round are sound
  short_linking : (used : List Item) → ((x : Item) → Contains used x → Contains plan.all x) → (rules : List Rule)
      → Bears limits plan used rules
      → (u v : Word) → ReduceAlike rules u v → Linking (Of used (Written [] [])) u v
  short_linking used within rules b u v a =
      reached_linking [] (given plan used) rules (λ l r. ⊥) (Of used (Written [] [])) b.0 b.1.reached none_presents (λ l r z. absurd z)
      (given_is used within) u v (alike_are_linked rules u v a)

  round_usable : {used : List Item} {first : Option Passed} {told : List Event} → IsRound limits plan used first told → AreUsable used
  round_usable begin = λ p r h. no_member (of_self p r) h
  round_usable (after {used = used} r turn t) = λ p q h. elim (goes_on turn) [
    | shown rules e l d ↦ (let s = selected l (of_self p q) h in
        usable_by used (round_usable r) (Linked (Step rules))
        (λ u v k. (round_presents used (round_within r) rules e u v).0 k) p q (of_all p q s.0) s.1)
    | joined rules b j d ↦ (let s = selected j (of_self p q) h in elim s.1 [
      | inl k ↦ round_usable r p q k
      | inr k ↦ usable_by used (round_usable r) (ReduceAlike rules) (short_linking used (round_within r) rules b) p q (of_all p q s.0) k
    ])
  ]

  pub last_usable : (used : List Item) (rules : List Rule) (told : List Event) → IsLastRound limits plan used rules told
      → (p : ProtoId) (r : TermRequirement)
      → Used used p r ↔ UsableOf f p r
  last_usable used rules told l p r = (round_usable l.round p r, λ u. closed p r u.0 (shown p r u))
    where
      present : Presents rules (Of used (Written [] []))
      present = round_presents used (round_within l.round) rules l.ends

      closed : (q : ProtoId) (x : TermRequirement) → Contains (f.of_protocol q) x
          → ShowsUsable m f (SelfOf q) (Linking (Of used (SelfOf q))) x → Used used q x
      closed q x h a =
          selects l.repeats (of_self q x) (has_item f m.protocols q x (ranges.owners q x h) h)
          ((shown_over_self used rules present q (ranges.owners q x h) x).1 a)

      shown : (q : ProtoId) (x : TermRequirement) → UsableOf f q x → ShowsUsable m f (SelfOf q) (Linking (Of used (SelfOf q))) x
      shown q x u =
          usable_shown m f fit ranges (SelfOf q) (self_in_range m q (ranges.owners q x u.0)) (Used used) (λ z. ⊥)
          (λ z y c w a. closed z y c a) (λ y c w a. c) x u.1

  pub protocols_law : (used : List Item) (rules : List Rule) (told : List Event) → IsLastRound limits plan used rules told
      → AreProtocolRules m f rules
  protocols_law used rules told l =
      let law = last_usable used rules told l in
      presents_to rules (Of used (Written [] [])) (ProtocolEquation m f)
      (more_equations (λ p r h. (law p r).0 h) (λ r h. h)) (more_equations (λ p r h. (law p r).1 h) (λ r h. h))
      (round_presents used (round_within l.round) rules l.ends)

-- ---- a list

module _ (m : Symbols) (f : TermFacts) (fit : AreSymbolsOf m f) (ranges : AreOfText m f) (limits : Limits)
    (base : List Rule) (over : AreProtocolRules m f base) (gs : List ParamId) (rs : List TermRequirement)
    (n : IsInText m (Written gs rs)) where
  abbrev listed : Plan
  listed = list_plan m f base gs rs

  abbrev Own : List Item → TermRequirement → Type 0
  Own used r = Contains used (of_list gs rs r)

  abbrev ByList : List Item → Word → Word → Type 0
  ByList used = Equation m (UsableOf f) (Own used) (Written gs rs)

  from_protocols : (used : List Item) (l r : Word) → ProtocolEquation m f l r → ByList used l r
  from_protocols used l r (twice p k) = twice p k
  from_protocols used l r (member k i) = member k i
  from_protocols used l r (of_protocol p x k) = of_protocol p x k
  from_protocols used l r (of_source x k) = absurd k

  member_is : (x : Item) → Contains listed.all x → (r : TermRequirement) × Contains rs r × (x ≡ of_list gs rs r)
  member_is x h = contains_of_map (of_list gs rs) rs x h

  list_given : (used : List Item) → ((x : Item) → Contains used x → Contains listed.all x) → (l r : Word)
      → Contains (given listed used) (l, r) → ByList used l r
  list_given used within l r h =
      let x = contains_of_map (equation_of m) used (l, r) h in
      let i = member_is x.0 (within x.0 x.1) in
      subst₂ (ByList used) (sym (ap (λ z. z.0) x.2)) (sym (ap (λ z. z.1) x.2))
      (subst (λ (z : Item). ByList used (left_side m z.source z.requirement) (right_side m z.source z.requirement)) (sym i.2)
      (of_source i.0 (subst (λ z. Contains used z) i.2 x.1)))

  by_list : (used : List Item) (l r : Word) → ByList used l r → ProtocolEquation m f l r ⊎ Contains (given listed used) (l, r)
  by_list used l r (twice p k) = inl (twice p k)
  by_list used l r (member k i) = inl (member k i)
  by_list used l r (of_protocol p x k) = inl (of_protocol p x k)
  by_list used l r (of_source x k) = inr (contains_map (equation_of m) used (of_list gs rs x) k)

  list_presents : (used : List Item) → ((x : Item) → Contains used x → Contains listed.all x) → (rules : List Rule)
      → Ends limits listed used rules → Presents rules (ByList used)
  list_presents used within rules e =
      ended_presents base (given listed used) rules (ProtocolEquation m f) (ByList used) e.0 e.1.ended over (from_protocols used)
      (list_given used within) (by_list used)

  of_listed : (r : TermRequirement) → Contains listed.all (of_list gs rs r) → Contains rs r
  of_listed r h = let i = member_is (of_list gs rs r) h in same i.0 i.1 i.2
    where
      same : (x : TermRequirement) → Contains rs x → of_list gs rs r ≡ of_list gs rs x → Contains rs r
      same x k e = subst (λ z. Contains rs z) (sym (ap (λ z. z.requirement) e)) k

  listed_by : (used : List Item) → ((r : TermRequirement) → Own used r → UsableIn f (Written gs rs) r) → (C : Word → Word → Type 0)
      → ((u v : Word) → C u v → Linking (ByList used) u v) → (r : TermRequirement) → Contains rs r → ShowsUsable m f (Written gs rs) C r
      → UsableIn f (Written gs rs) r
  listed_by used sound C links r k h = (
    k,
    shown_usable m f fit ranges (Written gs rs) n (UsableOf f) (Own used) (λ p x z. z) sound r
        (usable_by_more m f (Written gs rs) C (Linking (ByList used)) links r h),
  )

  short_list_linking : (used : List Item) → ((x : Item) → Contains used x → Contains listed.all x) → (rules : List Rule)
      → Bears limits listed used rules
      → (u v : Word) → ReduceAlike rules u v → Linking (ByList used) u v
  short_list_linking used within rules b u v a =
      reached_linking base (given listed used) rules (ProtocolEquation m f) (ByList used) b.0 b.1.reached over (from_protocols used)
      (list_given used within) u v (alike_are_linked rules u v a)

  list_usable : {used : List Item} {first : Option Passed} {told : List Event} → IsRound limits listed used first told
      → (r : TermRequirement) → Own used r → UsableIn f (Written gs rs) r
  list_usable begin = λ r h. no_member (of_list gs rs r) h
  list_usable (after {used = used} r turn t) = λ q h. elim (goes_on turn) [
    | shown rules e l d ↦ (let s = selected l (of_list gs rs q) h in
        listed_by used (list_usable r) (Linked (Step rules))
        (λ u v k. (list_presents used (round_within r) rules e u v).0 k) q (of_listed q s.0) s.1)
    | joined rules b j d ↦ (let s = selected j (of_list gs rs q) h in elim s.1 [
      | inl k ↦ list_usable r q k
      | inr k ↦ listed_by used (list_usable r) (ReduceAlike rules) (short_list_linking used (round_within r) rules b) q (of_listed q s.0) k
    ])
  ]

  pub last_listed : (used : List Item) (rules : List Rule) (told : List Event)
      → IsLastRound limits listed used rules told → (r : TermRequirement)
      → Own used r ↔ UsableIn f (Written gs rs) r
  last_listed used rules told l r = (list_usable l.round r, λ u. closed r u.0 (shown r u))
    where
      present : Presents rules (ByList used)
      present = list_presents used (round_within l.round) rules l.ends

      closed : (x : TermRequirement) → Contains rs x → ShowsUsable m f (Written gs rs) (Linking (ByList used)) x → Own used x
      closed x h a = selects l.repeats (of_list gs rs x) (contains_map (of_list gs rs) rs x h)
          ((shown_both m f (Written gs rs) rules (ByList used) present x).1 a)

      shown : (x : TermRequirement) → UsableIn f (Written gs rs) x → ShowsUsable m f (Written gs rs) (Linking (ByList used)) x
      shown x u =
          usable_shown m f fit ranges (Written gs rs) n (UsableOf f) (Own used) (λ p y c w a. (c, w)) (λ y c w a. closed y c a) x u.1

  pub list_law : (used : List Item) (rules : List Rule) (told : List Event) → IsLastRound limits listed used rules told
      → AreListRules m f gs rs rules
  list_law used rules told l =
      let law = last_listed used rules told l in
      presents_to rules (ByList used) (UsableEquation m f (Written gs rs))
      (more_equations (λ p r h. h) (λ r h. (law r).0 h)) (more_equations (λ p r h. h) (λ r h. (law r).1 h))
      (list_presents used (round_within l.round) rules l.ends)
