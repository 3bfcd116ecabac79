-- The sides that the rules of the last round of the protocols show valid are the valid ones.
use Rattle.std.proofs.Common.{◌≡◌, ap, sym, subst, ℕ, List, [], ◌∷◌, Contains, inl, inr}
use Rattle.std.proofs.lemmas.List.Elements.{Contains-append_cases}
use Rattle.swreq_rounds.specs.swreq_param.declared.ids.ProtoId.{ProtoId}
use Rattle.swreq_rounds.specs.swreq_derive.Derivation.{Derivable, Source, TermRequirement}
use Rattle.swreq_rounds.specs.swreq_derive.Derivation.Source.{SelfOf}
use Rattle.swreq_rounds.specs.swreq_derive.Derivation.TermRequirement.{Conforms, IsAnyObject, Equals}
use Rattle.swreq_rounds.specs.swreq_derive.Derivation.TermStatement.{IsValid}
use Rattle.swreq_complete.proofs.swreq_lemmas.Members.{later_member, first_member, member_cases, no_member, only_member}
use Rattle.swreq_rounds.specs.swreq_correspondence.Shown.{ShowsValid}
use Rattle.swreq_world.specs.swreq_lowering.Requirements.{PlacedRequirement}
use Rattle.swreq_complete.specs.swreq_rule.declared.rules.Rule.{Rule}
use Rattle.swreq_world.specs.Closed.{IsClosed}
use Rattle.swreq_world.specs.Worlds.{TextWorld, requirements_of}
use Rattle.swreq_symbols.specs.Meaning.{facts_of, symbols_of}
use Rattle.swreq_symbols.specs.Vanishing.{Links}
use Rattle.swreq_symbols.proofs.Symbols.{symbols_law, text_law}
use Rattle.swreq_valid.specs.Protocols.{AreRulesOf}
use Rattle.swreq_valid.specs.Sides.{IsShownSide, IsValidSide, Side, protocol_sides, sides, sides_at, sides_in, sides_of}
use Rattle.swreq_valid.proofs.Deriving.{self_derivable, self_shown}

-- ---- over what the sides are read

at_source : (s : Source) (r : TermRequirement) (left right : ℕ) (x : Side) → Contains (sides_at s r left right) x → x.source ≡ s
at_source s (Conforms t p) left right x c = ap (λ z. z.source) (only_member (record { source = s; term = t; at = left }) x c)
at_source s (IsAnyObject t) left right x c = ap (λ z. z.source) (only_member (record { source = s; term = t; at = left }) x c)
at_source s (Equals t u) left right x c =
    elim (member_cases (record { source = s; term = t; at = left }) x (record { source = s; term = u; at = right } ∷ []) c) [
      | inl e ↦ ap (λ z. z.source) e
      | inr k ↦ ap (λ z. z.source) (only_member (record { source = s; term = u; at = right }) x k)
    ]

pub list_source : (s : Source) (rs : List PlacedRequirement) (x : Side) → Contains (sides s rs) x → x.source ≡ s
list_source s [] x c = no_member x c
list_source s (r ∷ rs) x c = elim (Contains-append_cases (sides_of s r) (sides s rs) x c) [
  | inl k ↦ at_source s r.requirement r.left_at r.right_at x k
  | inr k ↦ list_source s rs x k
]

protocol_source : (w : TextWorld) (ps : List ProtoId) (x : Side) → Contains (sides_in w ps) x
    → (p : ProtoId) × Contains ps p × (x.source ≡ SelfOf p)
protocol_source w [] x c = no_member x c
protocol_source w (p ∷ ps) x c = elim (Contains-append_cases (sides (SelfOf p) (requirements_of w p)) (sides_in w ps) x c) [
  | inl k ↦ (p, first_member p ps, list_source (SelfOf p) (requirements_of w p) x k)
  | inr k ↦ (let (q, m, e) = protocol_source w ps x k in (q, later_member p q ps m, e))
]

-- ---- the protocols

module _ (w : TextWorld) (closed : IsClosed w) (rules : List Rule) (are : AreRulesOf w rules) (s : Side)
    (c : Contains (protocol_sides w) s) where
  pub protocol_valid : IsShownSide (symbols_of w.lexicon) (facts_of w) rules s → IsValidSide (facts_of w) s
  protocol_valid h =
      let (p, k, e) = protocol_source w w.lexicon.written_order s c in
      subst (λ z. Derivable (facts_of w) z (IsValid s.term)) (sym e)
      (self_derivable (symbols_of w.lexicon) (facts_of w) (symbols_law w closed) (text_law w closed) rules are p k s.term
      (subst (λ z. ShowsValid (symbols_of w.lexicon) (facts_of w) z (Links rules) s.term) e h))

  pub protocol_shown : IsValidSide (facts_of w) s → IsShownSide (symbols_of w.lexicon) (facts_of w) rules s
  protocol_shown h =
      let (p, k, e) = protocol_source w w.lexicon.written_order s c in
      subst (λ z. ShowsValid (symbols_of w.lexicon) (facts_of w) z (Links rules) s.term) (sym e)
      (self_shown (symbols_of w.lexicon) (facts_of w) (symbols_law w closed) (text_law w closed) rules are p k s.term
      (subst (λ z. Derivable (facts_of w) z (IsValid s.term)) e h))
