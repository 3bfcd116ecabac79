-- That a text is over a table is stable: it follows from its truncation, which a type can carry.
use Rattle.std.proofs.Common.{◌≡◌, ◌∙◌, ◌⊎◌, ◌<◌, ◌≤◌, ◌+◌, ◌^◌, ℕ, zero, suc, Bool, true, false, true≢false, inl, inr, refl, sym, ap, subst, List, [], Contains, length, map, arith}
use Rattle.std.specs.Prelude.{IsTrue, All}
use Rattle.std.proofs.lemmas.Bool.{cases_lt}
use Rattle.std.proofs.lemmas.List.{get_or_past}
use mathlib.Core.Logic.{∥∥₁_elim}
use Rattle.swreq_param.proofs.swreq_lemmas.Members.{no_member}
use Rattle.swreq_param.proofs.swreq_lemmas.Stable.{Stable, truncated_map, alike_stable, both_stable, given_stable, each_way_stable, all_stable, decided_stable, true_stable, less_stable, same_number_stable, some_below_decided, member_decided}
use Rattle.swreq_param.proofs.DecidedIds.{names_decided, params_decided, protos_decided, same_param_id}
use Rattle.swreq_param.specs.declared.ids.AssocId.{AssocId}
use Rattle.swreq_param.specs.declared.ids.NameId.{NameId}
use Rattle.swreq_param.specs.declared.ids.ParamId.{ParamId}
use Rattle.swreq_param.specs.declared.ids.ProtoId.{ProtoId}
use Rattle.swreq_param.specs.declared.ids.Step.{Step}
use Rattle.swreq_param.specs.declared.ids.Step.TheVariants.{Bound, Name}
use Rattle.swreq_param.specs.Terms.{Term, head, self, self_param}
use Rattle.swreq_param.specs.Terms.Term.{Generic, Member}
use Rattle.swreq_lexicon.specs.swreq_derive.declared.known.Params.{Params}
use Rattle.swreq_lexicon.specs.swreq_derive.declared.requirements.Requirement.{Requirement}
use Rattle.swreq_lexicon.specs.swreq_derive.declared.requirements.Requirement.TheVariants.{Conf, Layout, Same}
use Rattle.swreq_lexicon.specs.swreq_derive.Derivation.{AssociatedType, TermFacts, TermRequirement}
use Rattle.swreq_lexicon.specs.swreq_derive.Derivation.TermRequirement.{Conforms, IsAnyObject, Equals}
use Rattle.swreq_lexicon.specs.swreq_derive.Facts.{AreOneToOne, generic_params}
use Rattle.swreq_lexicon.specs.swreq_derive.Inheritance.{InheritsDirectly, LeadsTo}
use Rattle.swreq_lexicon.specs.swreq_derive.Inheritance.LeadsTo.{further, here}
use Rattle.swreq_lexicon.specs.declared.pair.ProtocolName.{ProtocolName}
use Rattle.swreq_lexicon.specs.Lexicons.{associated_types, pair}
use Rattle.swreq_lexicon.specs.Symbols.{has_member}
use Rattle.swreq_lexicon.specs.Views.{LexiconView, HasMember, IsProtocol, depth, inherits}
use Rattle.swreq_lexicon.proofs.SymbolMembers.{member_from, member_to}
use Rattle.swreq_lowering.specs.declared.ids.Asks.{Asks}
use Rattle.swreq_lowering.specs.declared.ids.Asks.TheVariants as ids
use Rattle.swreq_lowering.specs.declared.ids.Written.{Written}
use Rattle.swreq_lowering.specs.ByTable.{AreOf, HasAskedIdsOf, HasIdsOf, HasQueryIdsOf}
use Rattle.swreq_lowering.specs.Heads.{IsOver, IsOverSelf}
use Rattle.swreq_lowering.specs.Queries.{TermAsks}
use Rattle.swreq_lowering.specs.Queries.TermAsks.{AsksSignature, AsksReduced, AsksRequirement}
use Rattle.swreq_lowering.specs.Requirements.{PlacedRequirement}
use Rattle.swreq_world.specs.ByTable.{IsOverTable, world_by}
use Rattle.swreq_world.specs.Closed.{AreIds, HasOuter, HasOwn, InheritanceGoesDown, IsAskedOf, IsClosed, IsInheritanceWritten, IsOfProtocol, IsOfSignature, IsParamOf, IsQueryOf, IsRequirementOf, IsStepOf, IsTermOf}
use Rattle.swreq_world.specs.FactsAt.{facts_of}
use Rattle.swreq_world.specs.Inheritance.{LeadsOnTo}
use Rattle.swreq_world.specs.Short.{IsShort}
use Rattle.swreq_world.specs.TextOver.{IsTextOver}
use Rattle.swreq_world.specs.Worlds.{IdWorld, SignatureOver, TextWorld, requirements_of, signature_at}

-- ---- ids of the table

module _ (terms : List Term) where
  pub ids_stable : (r : Requirement) → Stable (HasIdsOf terms r)
  ids_stable (Conf t p) = less_stable t.place (length terms)
  ids_stable (Layout t) = less_stable t.place (length terms)
  ids_stable (Same t u) = both_stable (less_stable t.place (length terms)) (less_stable u.place (length terms))

  lists_stable : (rs : List Written) → Stable (AreOf terms rs)
  lists_stable = all_stable (λ r. HasIdsOf terms r.requirement) (λ r. ids_stable r.requirement)

  asked_ids_stable : (a : Asks) → Stable (HasAskedIdsOf terms a)
  asked_ids_stable ids.Signature = λ t. tt
  asked_ids_stable (ids.Reduced t) = less_stable t.place (length terms)
  asked_ids_stable (ids.Requirement r) = ids_stable r

  over_stable : (w : IdWorld) → Stable (IsOverTable terms w)
  over_stable w t = record {
    requirements = all_stable (AreOf terms) lists_stable w.requirements (truncated_map (λ h. h.requirements) t);
    signatures =
        all_stable (λ g. AreOf terms g.requirements) (λ g. lists_stable g.requirements) w.signatures (truncated_map (λ h. h.signatures) t);
    queries = all_stable (HasQueryIdsOf terms) (λ q. asked_ids_stable q.asks) w.queries (truncated_map (λ h. h.queries) t);
  }

-- ---- ids of the text

same_ids : (d e : AssocId) → Stable (d ≡ e)
same_ids d e = alike_stable (λ h. ap (λ (z : AssocId). z.rank) h) (λ h i. record { rank = h i }) (same_number_stable d.rank e.rank)

same_associated : (b c : AssociatedType) → Stable (b ≡ c)
same_associated b c = alike_stable
    (λ h. (
      (ap (λ (z : AssociatedType). z.proto.rank) h, ap (λ (z : AssociatedType). z.name.rank) h),
      ap (λ (z : AssociatedType). z.assoc.rank) h,
    ))
    (λ h i. record { proto = record { rank = h.0.0 i }; name = record { rank = h.0.1 i }; assoc = record { rank = h.1 i } })
    (both_stable (both_stable (same_number_stable b.proto.rank c.proto.rank) (same_number_stable b.name.rank c.name.rank))
    (same_number_stable b.assoc.rank c.assoc.rank))

one_to_one_stable : (ds : List AssociatedType) → Stable (AreOneToOne ds)
one_to_one_stable ds t = record {
  of_pair = λ p a d e c k. same_ids d e (truncated_map (λ h. h.of_pair p a d e c k) t);
  of_assoc = λ b d c k same. same_associated b d (truncated_map (λ h. h.of_assoc b d c k same) t);
}

pairs_decided : (d e : ProtocolName) → Dec (d ≡ e)
pairs_decided d e = elim (protos_decided d.proto e.proto) [
  | no n ↦ no (λ h. n (ap (λ (z : ProtocolName). z.proto) h))
  | yes p ↦ elim (names_decided d.name e.name) [
    | no n ↦ no (λ h. n (ap (λ (z : ProtocolName). z.name) h))
    | yes a ↦ yes (λ i. record { proto = p i; name = a i })
  ]
]

module _ (x : LexiconView) where
  member_name_stable : (p : ProtoId) (a : NameId) → Stable (HasMember x p a)
  member_name_stable p a = alike_stable (member_to (inherits x) x.associated p a) (member_from (inherits x) x.associated p a)
      (true_stable (has_member (inherits x) x.associated p a))

  listed_ids_stable : Stable (AreIds x)
  listed_ids_stable t = record {
    written_order = λ p. each_way_stable (decided_stable (member_decided p (λ q. protos_decided q p) x.written_order))
        (less_stable p.rank (length x.protocols)) (truncated_map (λ h. h.written_order p) t);
    each_once = same_number_stable (length x.written_order) (length x.protocols) (truncated_map (λ h. h.each_once) t);
    associated = λ d c. both_stable (less_stable d.proto.rank (length x.protocols)) (less_stable d.name.rank (length x.names))
        (truncated_map (λ h. h.associated d c) t);
    one_to_one = one_to_one_stable (associated_types x.associated) (truncated_map (λ h. h.one_to_one) t);
    associated_by_name = λ i j d e m n l. less_stable i j (truncated_map (λ h. h.associated_by_name i j d e m n l) t);
    symbols = λ p a. each_way_stable (decided_stable (member_decided (pair p a) (λ d. pairs_decided d (pair p a)) x.symbols))
        (both_stable (less_stable p.rank (length x.protocols)) (member_name_stable p a)) (truncated_map (λ h. h.symbols p a) t);
    one_symbol = λ i j d m n. same_number_stable i j (truncated_map (λ h. h.one_symbol i j d m n) t);
    symbols_by_name = λ i j d e m n l. less_stable i j (truncated_map (λ h. h.symbols_by_name i j d e m n l) t);
  }

  -- ---- what is written

  step_stable : (s : Step) → Stable (IsStepOf x s)
  step_stable (Name a) = less_stable a.rank (length x.names)
  step_stable (Bound d) = less_stable d.rank (length x.associated)

  term_stable : (t : Term) → Stable (IsTermOf x t)
  term_stable (Generic g) = λ h. tt
  term_stable (Member t s) = both_stable (term_stable t) (step_stable s)

  pub requirement_stable : (r : TermRequirement) → Stable (IsRequirementOf x r)
  requirement_stable (Conforms t p) = both_stable (term_stable t) (less_stable p.rank (length x.protocols))
  requirement_stable (IsAnyObject t) = term_stable t
  requirement_stable (Equals t u) = both_stable (term_stable t) (term_stable u)

  heads_stable : (Is : ParamId → Type 0) → ((g : ParamId) → Stable (Is g)) → (r : TermRequirement) → Stable (IsOver Is r)
  heads_stable Is stable (Conforms t p) = stable (head t)
  heads_stable Is stable (IsAnyObject t) = stable (head t)
  heads_stable Is stable (Equals t u) = both_stable (stable (head t)) (stable (head u))

  param_stable : (params : Params) (g : ParamId) → Stable (IsParamOf params g)
  param_stable params g = decided_stable (member_decided g (λ h. params_decided h g) (generic_params params))

  of_protocol_stable : (r : PlacedRequirement) → Stable (IsOfProtocol x r)
  of_protocol_stable r = both_stable (requirement_stable r.requirement)
      (heads_stable (λ g. g ≡ self_param) (λ g. decided_stable (params_decided g self_param)) r.requirement)

  own_stable : (g : SignatureOver PlacedRequirement) → Stable (HasOwn x g)
  own_stable g = all_stable (IsOfSignature x g.params)
      (λ r. both_stable (requirement_stable r.requirement) (heads_stable (IsParamOf g.params) (param_stable g.params) r.requirement))
      g.requirements

  asked_stable : (params : Params) (a : TermAsks) → Stable (IsAskedOf x params a)
  asked_stable params AsksSignature = λ h. tt
  asked_stable params (AsksReduced t) = both_stable (term_stable t) (param_stable params (head t))
  asked_stable params (AsksRequirement r) = both_stable (requirement_stable r) (heads_stable (IsParamOf params) (param_stable params) r)

-- ---- inheritance

conforms_decided : (q : ProtoId) (r : TermRequirement) → Dec (r ≡ Conforms self q)
conforms_decided q (Conforms (Generic g) p) = elim (params_decided g self_param) [
  | no n ↦ no (λ e. n (ap head_of e))
  | yes h ↦ elim (protos_decided p q) [ no n ↦ no (λ e. n (ap proto_of e)) | yes k ↦ yes (λ i. Conforms (Generic (h i)) (k i)) ]
]
  where
    head_of : TermRequirement → ParamId
    head_of (Conforms t r) = head t
    head_of (IsAnyObject t) = head t
    head_of (Equals t u) = head t

    proto_of : TermRequirement → ProtoId
    proto_of (Conforms t r) = r
    proto_of (IsAnyObject t) = p
    proto_of (Equals t u) = p
conforms_decided q (Conforms (Member t s) p) = no (λ e. let is : IsMember (Conforms self q) = subst IsMember e tt in absurd is)
  where
    IsMember : TermRequirement → Type 0
    IsMember (Conforms (Generic g) r) = ⊥
    IsMember (Conforms (Member u y) r) = Unit {0}
    IsMember (IsAnyObject u) = ⊥
    IsMember (Equals u v) = ⊥
conforms_decided q (IsAnyObject t) = no (λ e. let is : IsLayout (Conforms self q) = subst IsLayout e tt in absurd is)
  where
    IsLayout : TermRequirement → Type 0
    IsLayout (Conforms u r) = ⊥
    IsLayout (IsAnyObject u) = Unit {0}
    IsLayout (Equals u v) = ⊥
conforms_decided q (Equals t u) = no (λ e. let is : IsEquation (Conforms self q) = subst IsEquation e tt in absurd is)
  where
    IsEquation : TermRequirement → Type 0
    IsEquation (Conforms v r) = ⊥
    IsEquation (IsAnyObject v) = ⊥
    IsEquation (Equals v z) = Unit {0}

module _ (w : TextWorld) (closed : ∥ IsClosed w ∥₁) where
  abbrev x : LexiconView
  x = w.lexicon

  abbrev f : TermFacts
  f = facts_of w

  further_known : {A B : Type 0} → (IsClosed w → A → ∥ B ∥₁) → ∥ A ∥₁ → ∥ B ∥₁
  further_known go a = ∥∥₁_elim closed squash₁ (λ c. ∥∥₁_elim a squash₁ (go c))

  -- what is written in a protocol is written in one of the world
  heir_within : IsClosed w → (r q : ProtoId) → InheritsDirectly f r q → IsProtocol x r
  heir_within c r q direct = elim (cases_lt r.rank (length w.requirements)) [
    | inl l ↦ (let e = c.protocols in omega (arith, l, e))
    | inr l ↦ no_member (Conforms self q) (subst (λ (z : List PlacedRequirement).
        Contains (map (λ (s : PlacedRequirement). s.requirement) z) (Conforms self q)) (get_or_past w.requirements r.rank [] l) direct)
  ]

  module _ (p : ProtoId) (of : IsProtocol x p) where
    goes_down : (q : ProtoId) → IsProtocol x q → ∥ LeadsOnTo f p q ∥₁ → depth x q < depth x p
    goes_down q is leads = less_stable (depth x q) (depth x p) (further_known (λ c l. ∣ c.goes_down p q of is l ∣₁) leads)

    -- the protocol r inherits q directly, and p is r or inherits it
    abbrev IsLast : ProtoId → ProtoId → Type 0
    IsLast q r = InheritsDirectly f r q × ((p ≡ r) ⊎ IsTrue (inherits x p r))

    last_decided : (q r : ProtoId) → Dec (IsLast q r)
    last_decided q r = elim (member_decided (Conforms self q) (conforms_decided q) (f.of_protocol r)) [
      | no n ↦ no (λ h. n h.0)
      | yes direct ↦ elim (protos_decided p r) [
        | yes e ↦ yes (direct, inl e)
        | no apart ↦ (let b = inherits x p r in of_bool direct apart b refl)
      ]
    ]
      where
        of_bool : InheritsDirectly f r q → ((p ≡ r) → ⊥) → (b : Bool) → b ≡ inherits x p r → Dec (IsLast q r)
        of_bool direct apart true e = yes (direct, inr (sym e))
        of_bool direct apart false e = no (λ h. elim h.1 [ inl k ↦ apart k | inr k ↦ true≢false (sym (e ∙ k)) ])

    -- p is the last but one protocol of a chain, or inherits it
    last_known : (q r : ProtoId) → IsClosed w → LeadsTo f p r → IsProtocol x r → (p ≡ r) ⊎ IsTrue (inherits x p r)
    last_known q r c here is = inl refl
    last_known q r c (further a b) is = inr ((c.inheritance p r of is).1 (_, a, b))

    -- A chain to q of which it is known that there is one: its last step is found by looking at each protocol, and goes down by depth.
    chain : (k : ℕ) (q : ProtoId) → IsProtocol x q → depth x p ≤ depth x q + k → ∥ LeadsOnTo f p q ∥₁ → LeadsOnTo f p q
    chain zero q is fuel leads = absurd (let down = goes_down q is leads in omega arith)
    chain (suc k) q is fuel leads =
        let found = decided_stable (some_below_decided (λ j. IsLast q (record { rank = j })) (λ j. last_decided q (record { rank = j }))
        (length x.protocols)) (further_known (λ c l. let within = heir_within c l.0 q l.2 in
        ∣ (l.0.rank, within, (l.2, last_known q l.0 c l.1 within)) ∣₁) leads) in
        let r : ProtoId = record { rank = found.0 } in
        let direct : InheritsDirectly f r q = found.2.0 in
        elim found.2.1 [
          | inl e ↦ (r, subst (LeadsTo f p) e here, direct)
          | inr inherited ↦ (
              let before = truncated_map (λ c. (c.inheritance p r of found.1).0 inherited) closed in
              let up : depth x q < depth x r = less_stable (depth x q) (depth x r)
              (truncated_map (λ c. c.goes_down r q found.1 is (r, here, direct)) closed) in
              let rest = chain k r found.1 (omega arith) before in
              (r, further rest.1 rest.2, direct))
        ]

  inheritance_stable : IsInheritanceWritten w
  inheritance_stable p q of is = (
    λ h. chain p of (depth x p) q is (omega arith) (truncated_map (λ c. (c.inheritance p q of is).0 h) closed),
    λ leads. true_stable (inherits x p q) (truncated_map (λ c. (c.inheritance p q of is).1 leads) closed),
  )

  outer_stable : (g : SignatureOver PlacedRequirement) → Stable (HasOuter w g)
  outer_stable g t = λ h e. less_stable h.place (length w.signatures) (truncated_map (λ o. o h e) t)

  closed_stable : IsClosed w
  closed_stable = record {
    ids = listed_ids_stable x (truncated_map (λ c. c.ids) closed);
    protocols = same_number_stable (length w.requirements) (length x.protocols) (truncated_map (λ c. c.protocols) closed);
    requirements = all_stable (All (IsOfProtocol x)) (all_stable (IsOfProtocol x) (of_protocol_stable x)) w.requirements
        (truncated_map (λ c. c.requirements) closed);
    signatures = all_stable (HasOwn x) (own_stable x) w.signatures (truncated_map (λ c. c.signatures) closed);
    outer = all_stable (HasOuter w) outer_stable w.signatures (truncated_map (λ c. c.outer) closed);
    queries = all_stable (IsQueryOf w)
        (λ q. both_stable (less_stable q.f.place (length w.signatures)) (asked_stable x (signature_at w q.f).params q.asks)) w.queries
        (truncated_map (λ c. c.queries) closed);
    inheritance = inheritance_stable;
    goes_down = λ p q of is leads. less_stable (depth x q) (depth x p) (truncated_map (λ c. c.goes_down p q of is leads) closed);
  }

-- ---- the text

short_stable : (w : IdWorld) → Stable (IsShort w)
short_stable w t = record {
  protocols = all_stable (λ rs. length rs < 2 ^ 32) (λ rs. less_stable (length rs) (2 ^ 32)) w.requirements
      (truncated_map (λ h. h.protocols) t);
  lists = all_stable (λ g. length g.requirements < 2 ^ 32) (λ g. less_stable (length g.requirements) (2 ^ 32)) w.signatures
      (truncated_map (λ h. h.lists) t);
  signatures = less_stable (length w.signatures) (2 ^ 32) (truncated_map (λ h. h.signatures) t);
  queries = less_stable (length w.queries) (2 ^ 32) (truncated_map (λ h. h.queries) t);
}

pub text_stable : (terms : List Term) (w : IdWorld) → Stable (IsTextOver terms w)
text_stable terms w t = record {
  table = over_stable terms w (truncated_map (λ h. h.table) t);
  closed = closed_stable (world_by terms w) (truncated_map (λ h. h.closed) t);
  short = short_stable w (truncated_map (λ h. h.short) t);
}
