-- Whether a requirement of a protocol is derivable by the kept ones, as the rules of the kept ones tell it.
use Rattle.std.proofs.Common.{◌≡◌, ◌↔◌, Bool, true, false, IsTrue, List, sym, subst}
use Rattle.std.specs.Bool.{Decides}
use Rattle.swreq_valid.specs.swreq_param.declared.ids.ProtoId.{ProtoId}
use Rattle.swreq_valid.specs.swreq_derive.Derivation.{Derivable, TermFacts, TermRequirement}
use Rattle.swreq_valid.specs.swreq_derive.Derivation.Source.{SelfOf}
use Rattle.swreq_valid.specs.swreq_derive.Derivation.TermRequirement.{Conforms, IsAnyObject, Equals}
use Rattle.swreq_valid.specs.swreq_derive.Derivation.TermStatement.{Requires}
use Rattle.swreq_valid.specs.swreq_derive.WellFormed.{HasValidSides}
use Rattle.swreq_valid.proofs.swreq_derive.Substitution.{valid_sides}
use Rattle.swreq_print.specs.swreq_rule.declared.rules.Rule.{Rule}
use Rattle.swreq_valid.specs.swreq_correspondence.Equations.{UsableEquation}
use Rattle.swreq_valid.specs.swreq_correspondence.Equations.Equation.{member, of_protocol, of_source, twice}
use Rattle.swreq_valid.specs.swreq_correspondence.Symbols.{AreOfText, AreSymbolsOf, IsOfText, Symbols, Word, left_side, right_side}
use Rattle.swreq_valid.proofs.swreq_correspondence.Chained.{self_in_range}
use Rattle.swreq_valid.proofs.swreq_correspondence.Correspondence.{conforming_words, equal_words, layout_words}
use Rattle.swreq_valid.specs.swreq_lexicon.Views.{IsProtocol}
use Rattle.swreq_valid.specs.swreq_rounds.Presents.{AreProtocolRules, Presents, ProtocolEquation}
use Rattle.swreq_valid.proofs.swreq_rounds.Presented.{presents_to}
use Rattle.swreq_valid.specs.swreq_symbols.Meaning.{symbols_of}
use Rattle.swreq_valid.specs.swreq_symbols.Vanishing.{Links}
use Rattle.swreq_valid.proofs.swreq_symbols.Symbols.{symbols_law}
use Rattle.swreq_valid.specs.swreq_world.Closed.{IsClosed}
use Rattle.swreq_valid.specs.swreq_world.Worlds.{TextWorld}
use Rattle.swreq_valid.specs.Keeping.{kept_facts}
use Rattle.swreq_valid.specs.Protocols.{ProtocolsView}
use Rattle.swreq_valid.specs.Rounds.{last_rules}
use Rattle.swreq_valid.proofs.OfKept.{kept_of_text}
use Rattle.swreq_reqsig.specs.Families.{AreRulesOfKept}

module _ (m : Symbols) (g : TermFacts) (fit : AreSymbolsOf m g) (ranges : AreOfText m g) (rules : List Rule)
    (are : AreProtocolRules m g rules)
    (p : ProtoId) (h : IsOfText m p) where
  into : (l r : Word) → ProtocolEquation m g l r → UsableEquation m g (SelfOf p) l r
  into l r (twice q k) = twice q k
  into l r (member k i) = member k i
  into l r (of_protocol q x k) = of_protocol q x k
  into l r (of_source x k) = absurd k

  out : (l r : Word) → UsableEquation m g (SelfOf p) l r → ProtocolEquation m g l r
  out l r (twice q k) = twice q k
  out l r (member k i) = member k i
  out l r (of_protocol q x k) = of_protocol q x k
  out l r (of_source x k) = subst (λ y. ProtocolEquation m g (left_side m (SelfOf p) y) (right_side m (SelfOf p) y)) (sym k) (twice p h)

  present : Presents rules (UsableEquation m g (SelfOf p))
  present = presents_to rules (ProtocolEquation m g) (UsableEquation m g (SelfOf p)) into out are

  -- of valid type parameters it is derivable where the rules link the two sides of its equation
  pub by_words : (r : TermRequirement) → HasValidSides g (SelfOf p) r
      → Derivable g (SelfOf p) (Requires r) ↔ Links rules (left_side m (SelfOf p) r) (right_side m (SelfOf p) r)
  by_words (Conforms t q) v =
      let law = conforming_words m g fit (SelfOf p) ranges (self_in_range m p h) t q v in
      let both = present (left_side m (SelfOf p) (Conforms t q)) (right_side m (SelfOf p) (Conforms t q)) in
      ((λ e. both.1 (law.0 e)), λ l. law.1 (both.0 l))
  by_words (IsAnyObject t) v =
      let law = layout_words m g fit (SelfOf p) ranges (self_in_range m p h) t v in
      let both = present (left_side m (SelfOf p) (IsAnyObject t)) (right_side m (SelfOf p) (IsAnyObject t)) in
      ((λ e. both.1 (law.0 e)), λ l. law.1 (both.0 l))
  by_words (Equals t u) v =
      let law = equal_words m g fit (SelfOf p) ranges (self_in_range m p h) t u v.0 v.1 in
      let both = present (left_side m (SelfOf p) (Equals t u)) (right_side m (SelfOf p) (Equals t u)) in
      ((λ e. both.1 (law.0 e)), λ l. law.1 (both.0 l))

-- ---- as the rules of the kept ones tell it, of a protocol of the text

module _ (w : TextWorld) (closed : IsClosed w) (keep : List (List Bool)) (v : ProtocolsView) (made : AreRulesOfKept w keep v) (p : ProtoId)
    (of : IsProtocol w.lexicon p) (r : TermRequirement) where
  -- the rules link the two sides of its equation
  abbrev AreSidesLinked : Type 0
  AreSidesLinked =
      Links (last_rules v.rounds) (left_side (symbols_of w.lexicon) (SelfOf p) r) (right_side (symbols_of w.lexicon) (SelfOf p) r)

  abbrev IsDerivable : Type 0
  IsDerivable = Derivable (kept_facts w keep) (SelfOf p) (Requires r)

  -- it is not usable by them
  pub not_usable : (b : Bool) → IsTrue b ↔ HasValidSides (kept_facts w keep) (SelfOf p) r → b ≡ false → IsTrue false ↔ IsDerivable
  not_usable b usable unset = (
    (λ f. absurd (let z : false ≡ true = f in cc)),
    λ e. absurd (let t : b ≡ true = usable.1 (valid_sides (kept_facts w keep) (SelfOf p) r e) in cc),
  )

  -- it is
  pub usable_by_words : (b linked : Bool) → IsTrue b ↔ HasValidSides (kept_facts w keep) (SelfOf p) r → b ≡ true
      → Decides linked AreSidesLinked
      → Decides linked IsDerivable
  usable_by_words b linked usable set d =
      let law = by_words (symbols_of w.lexicon) (kept_facts w keep) (symbols_law w closed) (kept_of_text w closed keep)
      (last_rules v.rounds) made.rules p
      ((closed.ids.written_order p).1 of) r (usable.0 set) in
      ((λ l. law.1 (d.0 l)), λ e. d.1 (law.0 e))
