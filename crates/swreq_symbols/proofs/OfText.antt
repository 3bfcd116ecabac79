-- A world over ids, and the table that has them: what it says over type parameters, and that its requirements are of the table and of the
-- text.
use Rattle.std.proofs.Common.{◌≡◌, ◌∙◌, ℕ, All, sym, ap, subst, ◌<◌, arith, List, [], get_or, length, map, Contains, inl, inr}
use Rattle.std.proofs.Math.ListN.{get_or-map}
use Rattle.std.proofs.lemmas.Bool.{cases_lt}
use Rattle.std.proofs.lemmas.List.{get_or_past, length-map}
use Rattle.std.proofs.lemmas.List.Elements.{All-contains, All-get_or, Contains-get_or}
use Rattle.std.proofs.lemmas.Simd.{map-map}
use mathlib.Core.Path.{fun_ext}
use Rattle.swreq_complete.proofs.swreq_lemmas.Members.{no_member, contains_map, contains_of_map}
use Rattle.swreq_correspondence.specs.swreq_param.declared.ids.ProtoId.{ProtoId}
use Rattle.swreq_correspondence.specs.swreq_param.Terms.{Term}
use Rattle.swreq_correspondence.specs.swreq_derive.declared.known.Params.{Params}
use Rattle.swreq_correspondence.specs.swreq_derive.Derivation.{TermRequirement}
use Rattle.swreq_correspondence.specs.swreq_derive.Derivation.Source.{Written as WrittenList}
use Rattle.swreq_correspondence.specs.swreq_derive.declared.requirements.Requirement.{Requirement}
use Rattle.swreq_correspondence.specs.swreq_derive.declared.requirements.Requirement.TheVariants.{Conf, Layout, Same}
use Rattle.swreq_correspondence.specs.swreq_derive.Facts.{AreFactsOf, generic_params, requirement_of, term_facts, term_source, IsRequirementOver}
use Rattle.swreq_world.specs.swreq_lexicon.Lexicons.{associated_types}
use Rattle.swreq_world.specs.swreq_lowering.declared.ids.FuncId.{FuncId}
use Rattle.swreq_world.specs.swreq_lowering.declared.ids.Asks.{Asks}
use Rattle.swreq_world.specs.swreq_lowering.declared.ids.Asks.TheVariants as ids
use Rattle.swreq_world.specs.swreq_lowering.declared.ids.Query.{Query}
use Rattle.swreq_world.specs.swreq_lowering.declared.ids.Written.{Written}
use Rattle.swreq_world.specs.swreq_lowering.ByTable.{AreOf, HasAskedIdsOf, HasIdsOf, HasQueryIdsOf, asks_by, placed, placed_by, query_by}
use Rattle.swreq_world.specs.swreq_lowering.Requirements.{PlacedRequirement}
use Rattle.swreq_world.specs.ByTable.{signature_by, world_by}
use Rattle.swreq_world.specs.Closed.{HasOwn, IsAskedOf, IsOfProtocol, IsOfSignature, IsQueryOf}
use Rattle.swreq_world.specs.FactsAt.{facts_at, facts_of, source_of}
use Rattle.swreq_world.specs.Worlds.{IdWorld, SignatureOver, no_signature, requirements_of, signature_at}
use Rattle.swreq_symbols.specs.Known.{IsAskedIn, IsQueryIn, IsRequirementIn, IsTextOver}

-- the requirements without their places, over ids and over type parameters
pub requirements_placed : (terms : List Term) (rs : List Written)
    → map (requirement_of terms) (map (λ (r : Written). r.requirement) rs)
    ≡ map (λ (r : PlacedRequirement). r.requirement) (placed terms rs)
requirements_placed terms rs =
    map-map (requirement_of terms) (λ (r : Written). r.requirement) rs
    ∙ sym (map-map (λ (r : PlacedRequirement). r.requirement) (placed_by terms) rs)

module _ (w : IdWorld) (terms : List Term) where
  pub signature_is : (f : FuncId) → signature_at (world_by terms w) f ≡ signature_by terms (signature_at w f)
  signature_is f = get_or-map (signature_by terms) w.signatures f.place no_signature

  -- the requirements of a protocol
  pub requirements_by : (p : ProtoId) → requirements_of (world_by terms w) p ≡ placed terms (requirements_of w p)
  requirements_by p = get_or-map (placed terms) w.requirements p.rank []

  -- ---- the facts

  pub own_requirements : (p : ProtoId)
      → (facts_of (world_by terms w)).of_protocol p
      ≡ map (requirement_of terms) (map (λ (r : Written). r.requirement) (requirements_of w p))
  own_requirements p =
      ap (map (λ (r : PlacedRequirement). r.requirement)) (requirements_by p) ∙ sym (requirements_placed terms (requirements_of w p))

  pub facts_are : (f : FuncId) → term_facts terms (facts_at w f) ≡ facts_of (world_by terms w)
  facts_are f =
      ap (λ (of : ProtoId → List TermRequirement). record { associated_types = associated_types w.lexicon.associated; of_protocol = of })
      (fun_ext (λ (p : ProtoId). sym (own_requirements p)))

  pub source_is : (f : FuncId) → term_source terms (facts_at w f) ≡ source_of (signature_at (world_by terms w) f)
  source_is f =
      ap (WrittenList (generic_params (signature_at w f).params)) (requirements_placed terms (signature_at w f).requirements)
      ∙ sym (ap source_of (signature_is f))

  -- ---- ids of the table and of the text

  module _ (text : IsTextOver terms w) where
    pub protocol_written : (p : ProtoId) (r : Written) → Contains (requirements_of w p) r → IsRequirementIn terms w.lexicon r.requirement
    protocol_written p r c = elim (cases_lt p.rank (length w.requirements)) [
      | inl l ↦ (
        All-contains (λ (q : Written). HasIdsOf terms q.requirement) (requirements_of w p) r
            (All-get_or (AreOf terms) w.requirements p.rank [] l text.table.requirements) c,
        (let within : p.rank < length (map (placed terms) w.requirements) = omega (arith, length-map w.requirements (placed terms), l) in
            let all =
            All-get_or (All (IsOfProtocol w.lexicon)) (map (placed terms) w.requirements) p.rank [] within text.closed.requirements in
            (All-contains (IsOfProtocol w.lexicon) (placed terms (requirements_of w p)) (placed_by terms r)
            (subst (All (IsOfProtocol w.lexicon)) (requirements_by p) all) (contains_map (placed_by terms) (requirements_of w p) r c)).0),
      )
      | inr l ↦ no_member r (subst (λ z. Contains z r) (get_or_past w.requirements p.rank [] l) c)
    ]

    pub signature_written : (f : FuncId) → f.place < length w.signatures → (r : Written) → Contains (signature_at w f).requirements r
        → IsRequirementIn terms w.lexicon r.requirement
    signature_written f l r c =
        let g : SignatureOver Written = signature_at w f in
        let within : f.place < length (map (signature_by terms) w.signatures) =
        omega (arith, length-map w.signatures (signature_by terms), l) in
        let own : HasOwn w.lexicon (signature_by terms g) = subst (HasOwn w.lexicon) (signature_is f)
        (All-get_or (HasOwn w.lexicon) (map (signature_by terms) w.signatures) f.place no_signature within text.closed.signatures) in (
          All-contains (λ (q : Written). HasIdsOf terms q.requirement) g.requirements r
              (All-get_or (λ (h : SignatureOver Written). AreOf terms h.requirements) w.signatures f.place no_signature l
              text.table.signatures) c,
          (All-contains (IsOfSignature w.lexicon g.params) (placed terms g.requirements) (placed_by terms r) own
              (contains_map (placed_by terms) g.requirements r c)).0,
        )

    -- a requirement of the table and of the text is one of the facts
    pub of_facts : (f : FuncId) (r : Requirement) → IsRequirementIn terms w.lexicon r → IsRequirementOver terms (facts_at w f) r
    of_facts f (Conf t p) h = (h.0, h.1.1)
    of_facts f (Layout t) h = h.0
    of_facts f (Same t u) h = h.0

    pub are_facts : (f : FuncId) → f.place < length w.signatures → AreFactsOf terms (facts_at w f)
    are_facts f l = record {
      list = λ r c. (let q = contains_of_map (λ (z : Written). z.requirement) (signature_at w f).requirements r c in
          of_facts f r (subst (IsRequirementIn terms w.lexicon) (sym q.2) (signature_written f l q.0 q.1)));
      protocols = λ p r within c. (let q = contains_of_map (λ (z : Written). z.requirement) (requirements_of w p) r c in
          of_facts f r (subst (IsRequirementIn terms w.lexicon) (sym q.2) (protocol_written p q.0 q.1)));
    }

    -- ---- queries

    asked_in : (params : Params) (a : Asks) → HasAskedIdsOf terms a → IsAskedOf w.lexicon params (asks_by terms a)
        → IsAskedIn terms w.lexicon a
    asked_in params ids.Signature h is = tt
    asked_in params (ids.Reduced t) h is = (h, is.0)
    asked_in params (ids.Requirement r) h is = (h, is.0)

    query_known : (q : Query) → Contains w.queries q → IsQueryIn terms w q
    query_known q c =
        let of = All-contains (IsQueryOf (world_by terms w)) (map (query_by terms) w.queries) (query_by terms q) text.closed.queries
        (contains_map (query_by terms) w.queries q c) in (
          (let l = of.0 in let e = length-map w.signatures (signature_by terms) in omega arith),
          asked_in (signature_at (world_by terms w) q.f).params q.asks
              (All-contains (HasQueryIdsOf terms) w.queries q text.table.queries c) of.1,
        )

    -- a query of the text
    pub query_at : (list : List Query) (k : ℕ) (d : Query) → list ≡ w.queries → k < length list
        → IsQueryIn terms w (get_or list k d)
    query_at list k d e l =
        query_known (get_or list k d) (subst (λ (qs : List Query). Contains qs (get_or list k d)) e (Contains-get_or list k d l))
