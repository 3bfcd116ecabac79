-- The rules of a list, completed by the equation of one requirement more.
use Rattle.std.proofs.Common.{◌≡◌, ◌⊎◌, ◌∙◌, inl, inr, refl, sym, ap, subst, subst₂, List, [], ◌∷◌, ◌++◌, length, Contains}
use Rattle.std.proofs.lemmas.List.Elements.{Contains-append_left, Contains-append_right, Contains-push_cases}
use Rattle.swreq_machine.proofs.swreq_lemmas.Members.{first_member, only_member}
use Rattle.swreq_machine.specs.swreq_param.declared.ids.ParamId.{ParamId}
use Rattle.swreq_machine.specs.swreq_derive.Derivation.{Derivable, TermFacts, TermRequirement, TermStatement}
use Rattle.swreq_machine.specs.swreq_derive.Derivation.Source.{Written}
use Rattle.swreq_machine.specs.swreq_derive.Derivation.TermRequirement.{Conforms, Equals, IsAnyObject}
use Rattle.swreq_machine.specs.swreq_derive.WellFormed.{HasValidSides, IsListWellFormed}
use Rattle.swreq_machine.proofs.swreq_derive.Monotone.{grows}
use Rattle.swreq_machine.specs.swreq_rule.declared.rules.Rule.{Rule}
use Rattle.swreq_machine.specs.swreq_complete.Reached.{BeginsWith, IsEnded}
use Rattle.swreq_machine.specs.swreq_correspondence.Symbols.{Symbols, Word, left_side, right_side}
use Rattle.swreq_machine.specs.swreq_correspondence.Equations.{UsableEquation}
use Rattle.swreq_machine.specs.swreq_correspondence.Equations.Equation.{member, of_protocol, of_source, twice}
use Rattle.swreq_machine.specs.swreq_rounds.Presents.{AreListRules}
use Rattle.swreq_machine.proofs.swreq_rounds.Presented.{ended_presents}

module _ (m : Symbols) (f : TermFacts) (gs : List ParamId) (rs : List TermRequirement) (r : TermRequirement) where
  abbrev more : List TermRequirement
  more = rs ++ r ∷ []

  abbrev Before : Word → Word → Type 0
  Before = UsableEquation m f (Written gs rs)

  abbrev After : Word → Word → Type 0
  After = UsableEquation m f (Written gs more)

  abbrev given : List (Word × Word)
  given = (left_side m (Written gs rs) r, right_side m (Written gs rs) r) ∷ []

  in_more : (q : TermRequirement) → Contains rs q → Contains more q
  in_more q h = Contains-append_left rs (r ∷ []) q h

  derived : (st : TermStatement) → Derivable f (Written gs rs) st → Derivable f (Written gs more) st
  derived st e = grows f _ gs rs more in_more st e

  pub valid_on : (q : TermRequirement) → HasValidSides f (Written gs rs) q → HasValidSides f (Written gs more) q
  valid_on (Conforms t p) h = derived _ h
  valid_on (IsAnyObject t) h = derived _ h
  valid_on (Equals t u) h = (derived _ h.0, derived _ h.1)

  same_left : (q : TermRequirement) → left_side m (Written gs more) q ≡ left_side m (Written gs rs) q
  same_left (Conforms t p) = refl
  same_left (IsAnyObject t) = refl
  same_left (Equals t u) = refl

  same_right : (q : TermRequirement) → right_side m (Written gs more) q ≡ right_side m (Written gs rs) q
  same_right (Conforms t p) = refl
  same_right (IsAnyObject t) = refl
  same_right (Equals t u) = refl

  abbrev sides : TermRequirement → Word × Word
  sides q = (left_side m (Written gs rs) q, right_side m (Written gs rs) q)

  abbrev more_sides : TermRequirement → Word × Word
  more_sides q = (left_side m (Written gs more) q, right_side m (Written gs more) q)

  pair_is : (q : TermRequirement) → sides q ≡ more_sides q
  pair_is (Conforms t p) = refl
  pair_is (IsAnyObject t) = refl
  pair_is (Equals t u) = refl

  last_one : Contains more r
  last_one = Contains-append_right rs (r ∷ []) r (first_member r [])

  module _ (all : IsListWellFormed f (Written gs rs)) (valid : HasValidSides f (Written gs rs) r) where
    pub all_on : IsListWellFormed f (Written gs more)
    all_on q h = elim (Contains-push_cases rs r q h) [
      | inl i ↦ valid_on q (all q i)
      | inr e ↦ subst (HasValidSides f (Written gs more)) e (valid_on r valid)
    ]

    old : (u v : Word) → Before u v → After u v
    old u v (twice p h) = twice p h
    old u v (member k h) = member k h
    old u v (of_protocol p q h) = of_protocol p q h
    old u v (of_source q h) = subst₂ After (same_left q) (same_right q) (of_source q (in_more q h.0, valid_on q h.1))

    new : (u v : Word) → Contains given (u, v) → After u v
    new u v h =
        let e = only_member (sides r) (u, v) h in
        subst₂ After (same_left r ∙ sym (ap (λ (z : Word × Word). z.0) e)) (same_right r ∙ sym (ap (λ (z : Word × Word). z.1) e))
        (of_source r (last_one, valid_on r valid))

    each : (u v : Word) → After u v → Before u v ⊎ Contains given (u, v)
    each u v (twice p h) = inl (twice p h)
    each u v (member k h) = inl (member k h)
    each u v (of_protocol p q h) = inl (of_protocol p q h)
    each u v (of_source q h) = elim (Contains-push_cases rs r q h.0) [
      | inl i ↦ inl (subst₂ Before (sym (same_left q)) (sym (same_right q)) (of_source q (i, all q i)))
      | inr e ↦ inr (subst (Contains given) (ap sides e ∙ pair_is q) (first_member (sides r) []))
    ]

    pub extended : (base trace : List Rule) → AreListRules m f gs rs base → BeginsWith base trace → IsEnded (length base) given trace
        → AreListRules m f gs more trace
    extended base trace before over ended = ended_presents base given trace Before After over ended before old new each
