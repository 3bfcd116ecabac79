-- What the rules of a last round show valid is what is derivable.
use Rattle.std.proofs.Common.{List, sym, subst}
use Rattle.swreq_rounds.specs.swreq_param.declared.ids.ParamId.{ParamId}
use Rattle.swreq_rounds.specs.swreq_param.declared.ids.ProtoId.{ProtoId}
use Rattle.swreq_rounds.specs.swreq_param.Terms.{Term}
use Rattle.swreq_rounds.specs.swreq_derive.Derivation.{Derivable, Source, TermFacts, TermRequirement}
use Rattle.swreq_rounds.specs.swreq_derive.Derivation.Source.{SelfOf, Written}
use Rattle.swreq_rounds.specs.swreq_derive.Derivation.TermStatement.{IsValid}
use Rattle.swreq_complete.specs.swreq_rule.declared.rules.Rule.{Rule}
use Rattle.swreq_rounds.specs.swreq_correspondence.Equations.{Equation, Linking, UsableEquation, UsableIn, UsableOf}
use Rattle.swreq_rounds.specs.swreq_correspondence.Equations.Equation.{member, of_protocol, of_source, twice}
use Rattle.swreq_rounds.specs.swreq_correspondence.Shown.{ShowsValid}
use Rattle.swreq_rounds.specs.swreq_correspondence.Symbols.{AreOfText, AreSymbolsOf, IsInText, IsOfText, Symbols, Word, left_side, right_side}
use Rattle.swreq_rounds.proofs.swreq_correspondence.Chained.{self_in_range}
use Rattle.swreq_rounds.proofs.swreq_correspondence.Shown.{shown_by_more, shown_valid, valid_shown}
use Rattle.swreq_rounds.specs.Presents.{AreListRules, AreProtocolRules, Presents, ProtocolEquation}
use Rattle.swreq_rounds.proofs.Presented.{presents_to}
use Rattle.swreq_symbols.specs.Vanishing.{Links}

module _ (m : Symbols) (f : TermFacts) (fit : AreSymbolsOf m f) (ranges : AreOfText m f) (rules : List Rule) where
  -- over a list
  module _ (gs : List ParamId) (rs : List TermRequirement) (are : AreListRules m f gs rs rules) (n : IsInText m (Written gs rs)) where
    abbrev L : Source
    L = Written gs rs

    pub shown_derivable : (t : Term) → ShowsValid m f L (Links rules) t → Derivable f L (IsValid t)
    shown_derivable t h =
        shown_valid m f fit ranges L n (UsableOf f) (UsableIn f L) (λ p r k. k) (λ r k. k) t
        (shown_by_more m f L (Links rules) (Linking (UsableEquation m f L)) (λ u v l. (are u v).0 l) t h)

    pub derivable_shown : (t : Term) → Derivable f L (IsValid t) → ShowsValid m f L (Links rules) t
    derivable_shown t e =
        shown_by_more m f L (Linking (UsableEquation m f L)) (Links rules) (λ u v l. (are u v).1 l) t
        (valid_shown m f fit ranges L n (UsableOf f) (UsableIn f L) (λ p r c v k. (c, v)) (λ r c v k. (c, v)) t e)

  -- over [τ_0_0 : P]
  module _ (are : AreProtocolRules m f rules) (p : ProtoId) (h : IsOfText m p) where
    abbrev OverSelf : Word → Word → Type 0
    OverSelf = Equation m (UsableOf f) (λ r. ⊥) (SelfOf p)

    into : (l r : Word) → ProtocolEquation m f l r → OverSelf l r
    into l r (twice q k) = twice q k
    into l r (member k i) = member k i
    into l r (of_protocol q x k) = of_protocol q x k
    into l r (of_source x k) = absurd k

    out : (l r : Word) → OverSelf l r → ProtocolEquation m f l r
    out l r (twice q k) = twice q k
    out l r (member k i) = member k i
    out l r (of_protocol q x k) = of_protocol q x k
    out l r (of_source x k) = subst (λ y. ProtocolEquation m f (left_side m (SelfOf p) y) (right_side m (SelfOf p) y)) (sym k) (twice p h)

    present : Presents rules OverSelf
    present = presents_to rules (ProtocolEquation m f) OverSelf into out are

    pub self_derivable : (t : Term) → ShowsValid m f (SelfOf p) (Links rules) t → Derivable f (SelfOf p) (IsValid t)
    self_derivable t k =
        shown_valid m f fit ranges (SelfOf p) (self_in_range m p h) (UsableOf f) (λ r. ⊥) (λ q r z. z) (λ r z. z) t
        (shown_by_more m f (SelfOf p) (Links rules) (Linking OverSelf) (λ u v l. (present u v).0 l) t k)

    pub self_shown : (t : Term) → Derivable f (SelfOf p) (IsValid t) → ShowsValid m f (SelfOf p) (Links rules) t
    self_shown t e =
        shown_by_more m f (SelfOf p) (Linking OverSelf) (Links rules) (λ u v l. (present u v).1 l) t
        (valid_shown m f fit ranges (SelfOf p) (self_in_range m p h) (UsableOf f) (λ r. ⊥) (λ q r c v k. (c, v)) (λ r c v k. c) t e)
