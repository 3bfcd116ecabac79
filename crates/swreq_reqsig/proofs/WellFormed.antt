-- Lists and protocols are well formed where each side of what they require is a type parameter.
use Rattle.std.proofs.Common.{inl, inr, sym, subst, ℕ, ◌<◌, List, [], ◌∷◌, length, map, Contains}
use Rattle.std.proofs.lemmas.Bool.{cases_lt}
use Rattle.std.proofs.lemmas.List.{get_or_past}
use Rattle.std.proofs.lemmas.List.Elements.{Contains-append_left, Contains-append_right}
use Rattle.swreq_print.proofs.swreq_lemmas.Members.{contains_of_map, first_member, later_member, member_cases, no_member}
use Rattle.swreq_valid.specs.swreq_param.declared.ids.ProtoId.{ProtoId}
use Rattle.swreq_valid.specs.swreq_derive.Derivation.{Source, TermFacts, TermRequirement}
use Rattle.swreq_valid.specs.swreq_derive.Derivation.Source.{SelfOf}
use Rattle.swreq_valid.specs.swreq_derive.Derivation.TermRequirement.{Conforms, IsAnyObject, Equals}
use Rattle.swreq_valid.specs.swreq_derive.WellFormed.{AreProtocolsWellFormed, HasValidSides}
use Rattle.swreq_valid.specs.swreq_lowering.Requirements.{PlacedRequirement}
use Rattle.swreq_valid.specs.swreq_symbols.Meaning.{facts_of}
use Rattle.swreq_valid.specs.swreq_world.Closed.{IsClosed}
use Rattle.swreq_valid.specs.swreq_world.Worlds.{TextWorld, requirements_of}
use Rattle.swreq_valid.specs.Sides.{HoldsOfEach, IsValidSide, Side, protocol_sides, sides, sides_at, sides_in, sides_of}

of_sides : (f : TermFacts) (s : Source) (r : TermRequirement) (left right : ℕ) → HoldsOfEach (IsValidSide f) (sides_at s r left right)
    → HasValidSides f s r
of_sides f s (Conforms t p) left right h = h (record { source = s; term = t; at = left }) (first_member _ [])
of_sides f s (IsAnyObject t) left right h = h (record { source = s; term = t; at = left }) (first_member _ [])
of_sides f s (Equals t u) left right h = (
  h (record { source = s; term = t; at = left }) (first_member _ (record { source = s; term = u; at = right } ∷ [])),
  h (record { source = s; term = u; at = right }) (later_member _ _ (record { source = s; term = u; at = right } ∷ []) (first_member _ [])),
)

in_sides : (s : Source) (rs : List PlacedRequirement) (r : PlacedRequirement) (x : Side) → Contains rs r → Contains (sides_of s r) x
    → Contains (sides s rs) x
in_sides s [] r x c k = no_member r c
in_sides s (q ∷ rs) r x c k = elim (member_cases q r rs c) [
  | inl e ↦ Contains-append_left (sides_of s q) (sides s rs) x (subst (λ (z : PlacedRequirement). Contains (sides_of s z) x) e k)
  | inr d ↦ Contains-append_right (sides_of s q) (sides s rs) x (in_sides s rs r x d k)
]

-- a list whose sides are valid is well formed
pub list_formed : (f : TermFacts) (s : Source) (rs : List PlacedRequirement)
    → HoldsOfEach (IsValidSide f) (sides s rs) → (r : TermRequirement)
    → Contains (map (λ (q : PlacedRequirement). q.requirement) rs) r → HasValidSides f s r
list_formed f s rs h r c =
    let q = contains_of_map (λ (q : PlacedRequirement). q.requirement) rs r c in
    subst (HasValidSides f s) (sym q.2) (of_sides f s q.0.requirement q.0.left_at q.0.right_at (λ x k. h x (in_sides s rs q.0 x q.1 k)))

in_protocols_sides : (w : TextWorld) (ps : List ProtoId) (p : ProtoId) (x : Side) → Contains ps p
    → Contains (sides (SelfOf p) (requirements_of w p)) x → Contains (sides_in w ps) x
in_protocols_sides w [] p x c k = no_member p c
in_protocols_sides w (q ∷ ps) p x c k = elim (member_cases q p ps c) [
  | inl e ↦ Contains-append_left (sides (SelfOf q) (requirements_of w q)) (sides_in w ps) x
      (subst (λ (z : ProtoId). Contains (sides (SelfOf z) (requirements_of w z)) x) e k)
  | inr d ↦ Contains-append_right (sides (SelfOf q) (requirements_of w q)) (sides_in w ps) x (in_protocols_sides w ps p x d k)
]

module _ (w : TextWorld) (closed : IsClosed w) where
  protocol_declared : (p : ProtoId) (r : PlacedRequirement) → Contains (requirements_of w p) r → Contains w.lexicon.written_order p
  protocol_declared p r c = elim (cases_lt p.rank (length w.requirements)) [
    | inl l ↦ (closed.ids.written_order p).1 (subst (λ (n : ℕ). p.rank < n) closed.protocols l)
    | inr l ↦ no_member r (subst (λ (z : List PlacedRequirement). Contains z r) (get_or_past w.requirements p.rank [] l) c)
  ]

  pub protocols_formed : HoldsOfEach (IsValidSide (facts_of w)) (protocol_sides w) → AreProtocolsWellFormed (facts_of w)
  protocols_formed h p r c =
      let q = contains_of_map (λ (q : PlacedRequirement). q.requirement) (requirements_of w p) r c in
      list_formed (facts_of w) (SelfOf p) (requirements_of w p)
      (λ x k. h x (in_protocols_sides w w.lexicon.written_order p x (protocol_declared p q.0 q.1) k)) r c
