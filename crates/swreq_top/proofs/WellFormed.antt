-- No text that is well formed is refused for a side.
use Rattle.std.proofs.Common.{sym, subst, inl, inr, ℕ, List, [], ◌∷◌, Contains, Some, map}
use Rattle.std.proofs.lemmas.List.Elements.{Contains-append_cases, Contains-append_right}
use Rattle.swreq_world.proofs.swreq_lemmas.Members.{contains_map, each_member, first_member, later_member, no_member}
use Rattle.swreq_world.specs.swreq_param.declared.ids.ProtoId.{ProtoId}
use Rattle.swreq_world.specs.swreq_derive.Derivation.{Source, TermFacts, TermRequirement}
use Rattle.swreq_world.specs.swreq_derive.Derivation.Source.{SelfOf}
use Rattle.swreq_world.specs.swreq_derive.Derivation.TermRequirement.{Equals}
use Rattle.swreq_world.specs.swreq_derive.WellFormed.{HasValidSides, IsWellFormed}
use Rattle.swreq_print.specs.swreq_rule.declared.rules.Rule.{Rule}
use Rattle.swreq_watch.specs.declared.events.Event.{Event}
use Rattle.swreq_reply.specs.swreq_complete.declared.limit.Limits.{Limits}
use Rattle.swreq_world.specs.swreq_lowering.Requirements.{PlacedRequirement}
use Rattle.swreq_world.specs.FactsAt.{source_of}
use Rattle.swreq_world.specs.Worlds.{SignatureOver, TextWorld, requirements_of}
use Rattle.swreq_reply.specs.swreq_symbols.Meaning.{facts_of}
use Rattle.swreq_reply.specs.swreq_machine.OfSignatures.{signature_sides}
use Rattle.swreq_reply.specs.swreq_valid.Sides.{FailsFirst, HoldsOfEach, IsValidSide, Side, protocol_sides, sides, sides_at, sides_in, sides_of}
use Rattle.swreq_reply.specs.swreq_valid.declared.refused.Refused.TheVariants.{NotATypeParameter}
use Rattle.swreq_reply.specs.swreq_check.Machines.{IsChecked, SignaturesCome}
use Rattle.swreq_reply.specs.swreq_check.Machines.IsChecked.{protocols_built, protocols_refused}
use Rattle.swreq_reply.specs.swreq_check.Machines.SignaturesCome.{next, stopped}

module _ (f : TermFacts) (s : Source) where
  sides_hold : (r : TermRequirement) (left right : ℕ) → HasValidSides f s r → HoldsOfEach (IsValidSide f) (sides_at s r left right)
  sides_hold (Equals t u) left right h = each_member (IsValidSide f) (sides_at s (Equals t u) left right) (h.0, (h.1, tt))
  sides_hold r left right h = each_member (IsValidSide f) (sides_at s r left right) (h, tt)

  -- the sides of a well formed list are valid
  formed_sides : (rs : List PlacedRequirement)
      → ((r : TermRequirement) → Contains (map (λ (q : PlacedRequirement). q.requirement) rs) r → HasValidSides f s r)
      → HoldsOfEach (IsValidSide f) (sides s rs)
  formed_sides [] h x c = no_member x c
  formed_sides (q ∷ rs) h x c = elim (Contains-append_cases (sides_of s q) (sides s rs) x c) [
    | inl k ↦ sides_hold q.requirement q.left_at q.right_at (h q.requirement (first_member q.requirement _)) x k
    | inr k ↦ formed_sides rs (λ r d. h r (later_member q.requirement r _ d)) x k
  ]

module _ (w : TextWorld) (formed : IsWellFormed (facts_of w) (map source_of w.signatures)) where
  valid_protocols : (ps : List ProtoId) → HoldsOfEach (IsValidSide (facts_of w)) (sides_in w ps)
  valid_protocols [] x c = no_member x c
  valid_protocols (p ∷ ps) x c = elim (Contains-append_cases (sides (SelfOf p) (requirements_of w p)) (sides_in w ps) x c) [
    | inl d ↦ formed_sides (facts_of w) (SelfOf p) (requirements_of w p) (formed.protocols p) x d
    | inr d ↦ valid_protocols ps x d
  ]

  valid_list : (g : SignatureOver PlacedRequirement) → Contains w.signatures g
      → HoldsOfEach (IsValidSide (facts_of w)) (signature_sides g)
  valid_list g c =
      formed_sides (facts_of w) (source_of g) g.requirements (formed.lists (source_of g) (contains_map source_of w.signatures g c))

  -- ---- the check

  none_fails : (every : List Side) (at : ℕ) → HoldsOfEach (IsValidSide (facts_of w)) every → FailsFirst (IsValidSide (facts_of w)) every at
      → ⊥
  none_fails every at h fails =
      let last = Contains-append_right fails.before (fails.side ∷ fails.after) fails.side (first_member fails.side fails.after) in
      fails.fails (h fails.side (subst (λ (xs : List Side). Contains xs fails.side) (sym fails.split) last))

  module _ (limits : Limits) (at : ℕ) where
    signatures_pass : (rules : List Rule) {gs : List (SignatureOver PlacedRequirement)} {told : List Event}
        → ((g : SignatureOver PlacedRequirement) → Contains gs g → Contains w.signatures g)
        → SignaturesCome limits w rules gs (Some (NotATypeParameter at)) told → ⊥
    signatures_pass rules among (next {g} {gs} own one rest e) = signatures_pass rules (λ h c. among h (later_member g h gs c)) rest
    signatures_pass rules among (stopped {g} {gs} refused real come) =
        none_fails (signature_sides g) at (valid_list g (among g (first_member g gs))) come.2

    pub never_refused : {told : List Event} → IsChecked limits w (Some (NotATypeParameter at)) told → ⊥
    never_refused (protocols_refused refused real come) = none_fails (protocol_sides w) at (valid_protocols w.lexicon.written_order) come.2
    never_refused (protocols_built rules come rest told_is) = signatures_pass rules (λ g c. c) rest
