-- What is shown by equations of usable requirements is valid, and where the equations are closed all that is valid is shown.
use Rattle.std.proofs.Common.{List, [], ◌∷◌, Contains}
use Rattle.swreq_derive.specs.swreq_param.declared.ids.ParamId.{ParamId}
use Rattle.swreq_derive.specs.swreq_param.declared.ids.ProtoId.{ProtoId}
use Rattle.swreq_derive.specs.swreq_param.declared.ids.Step.TheVariants.{Bound, Name}
use Rattle.swreq_derive.specs.swreq_param.Terms.{Term}
use Rattle.swreq_derive.specs.swreq_param.Terms.Term.{Generic, Member}
use Rattle.swreq_derive.specs.Derivation.{TermRequirement, TermFacts, Source, Derivable, HasRequirement}
use Rattle.swreq_derive.specs.Derivation.TermRequirement.{Conforms, IsAnyObject, Equals}
use Rattle.swreq_derive.specs.Derivation.TermStatement.{IsValid, Requires}
use Rattle.swreq_derive.specs.Derivation.Source.{Written, SelfOf}
use Rattle.swreq_derive.specs.Derivation.Derives.{generic, assoc_name, assoc_decl}
use Rattle.swreq_derive.specs.WellFormed.{HasValidSides}
use Rattle.swreq_word.specs.declared.symbols.Symbol.TheVariants.{Proto as ProtoSymbol}
use Rattle.swreq_word.specs.Relations.Chain.{done, more}
use Rattle.swreq_correspondence.specs.Symbols.{Word, Symbols, AreSymbolsOf, AreOfText, IsInText, spell, word_of}
use Rattle.swreq_correspondence.specs.Equations.{Gives, Equation, Link, Linking, UsableOf, UsableIn}
use Rattle.swreq_correspondence.specs.Equations.Equation.{twice, member, of_protocol, of_source}
use Rattle.swreq_correspondence.specs.Equations.Link.{forth, back, there}
use Rattle.swreq_correspondence.specs.Shown.{ShowsConformance, ShowsValid, ShowsUsable}
use Rattle.swreq_correspondence.proofs.Chained.{chained}
use Rattle.swreq_correspondence.proofs.Correspondence.{conforming_words}

-- what each equation becomes, a chain becomes
module _ {E F : Word → Word → Type 0} (to : (l r : Word) → E l r → F l r) where
  link_to : {u v : Word} → Link E u v → Link F u v
  link_to (forth {l = l} {r = r} y e) = forth y (to l r e)
  link_to (back {l = l} {r = r} y e) = back y (to l r e)
  link_to (there x l) = there x (link_to l)

  pub linking_to : {u v : Word} → Linking E u v → Linking F u v
  linking_to done = done
  linking_to (more l c) = more (link_to l) (linking_to c)

-- equations of more requirements are more equations
module _ {m : Symbols} {Of Of' : ProtoId → TermRequirement → Type 0} {Own Own' : TermRequirement → Type 0} {s : Source}
    (of : (p : ProtoId) (r : TermRequirement) → Of p r → Of' p r) (own : (r : TermRequirement) → Gives Own s r → Gives Own' s r) where
  pub more_equations : (l r : Word) → Equation m Of Own s l r → Equation m Of' Own' s l r
  more_equations l r (twice p h) = twice p h
  more_equations l r (member k h) = member k h
  more_equations l r (of_protocol p x h) = of_protocol p x (of p x h)
  more_equations l r (of_source x h) = of_source x (own x h)

-- what one congruence shows of type parameters, another shows that links as much
module _ (m : Symbols) (f : TermFacts) (s : Source) (C D : Word → Word → Type 0) (to : (u v : Word) → C u v → D u v) where
  pub shown_by_more : (t : Term) → ShowsValid m f s C t → ShowsValid m f s D t
  shown_by_more (Generic g) h = h
  shown_by_more (Member t (Name a)) (h, (p, d, k, c)) =
      (shown_by_more t h, (p, d, k, to (spell m s t (ProtoSymbol p.rank ∷ [])) (word_of m s t) c))
  shown_by_more (Member t (Bound d)) (h, (p, a, k, c)) =
      (shown_by_more t h, (p, a, k, to (spell m s t (ProtoSymbol p.rank ∷ [])) (word_of m s t) c))

  pub usable_by_more : (r : TermRequirement) → ShowsUsable m f s C r → ShowsUsable m f s D r
  usable_by_more (Conforms t p) h = shown_by_more t h
  usable_by_more (IsAnyObject t) h = shown_by_more t h
  usable_by_more (Equals t u) h = (shown_by_more t h.0, shown_by_more u h.1)

-- Over a written list, its members play no part in this.
module _ (m : Symbols) (f : TermFacts) (gs : List ParamId) (rs qs : List TermRequirement) (C : Word → Word → Type 0) where
  pub shown_by_params : (t : Term) → ShowsValid m f (Written gs rs) C t → ShowsValid m f (Written gs qs) C t
  shown_by_params (Generic g) h = h
  shown_by_params (Member t (Name a)) (h, k) = (shown_by_params t h, k)
  shown_by_params (Member t (Bound d)) (h, k) = (shown_by_params t h, k)

  pub usable_by_params : (r : TermRequirement) → ShowsUsable m f (Written gs rs) C r → ShowsUsable m f (Written gs qs) C r
  usable_by_params (Conforms t p) h = shown_by_params t h
  usable_by_params (IsAnyObject t) h = shown_by_params t h
  usable_by_params (Equals t u) h = (shown_by_params t h.0, shown_by_params u h.1)

module _ (m : Symbols) (f : TermFacts) (fit : AreSymbolsOf m f) (ranges : AreOfText m f) (s : Source) (n : IsInText m s)
    (Of : ProtoId → TermRequirement → Type 0) (Own : TermRequirement → Type 0) where
  -- by usable requirements
  module _ (of : (p : ProtoId) (r : TermRequirement) → Of p r → UsableOf f p r)
      (own : (r : TermRequirement) → Gives Own s r → Gives (UsableIn f s) s r) where
    conforms : (t : Term) (p : ProtoId) → Derivable f s (IsValid t) → ShowsConformance m s (Linking (Equation m Of Own s)) t p
        → Derivable f s (Requires (Conforms t p))
    conforms t p v c = (conforming_words m f fit s ranges n t p v).1 (linking_to (more_equations of own) c)

    pub shown_valid : (t : Term) → ShowsValid m f s (Linking (Equation m Of Own s)) t → Derivable f s (IsValid t)
    shown_valid (Generic g) h = generic h
    shown_valid (Member t (Name a)) (h, (p, d, k, c)) = assoc_name (conforms t p (shown_valid t h) c) k
    shown_valid (Member t (Bound d)) (h, (p, a, k, c)) = assoc_decl (conforms t p (shown_valid t h) c) k

    pub shown_usable : (r : TermRequirement) → ShowsUsable m f s (Linking (Equation m Of Own s)) r → HasValidSides f s r
    shown_usable (Conforms t p) h = shown_valid t h
    shown_usable (IsAnyObject t) h = shown_valid t h
    shown_usable (Equals t u) h = (shown_valid t h.0, shown_valid u h.1)

  -- by all requirements that are shown usable
  module _ (of : (p : ProtoId) (r : TermRequirement) → Contains (f.of_protocol p) r → HasValidSides f (SelfOf p) r
      → ShowsUsable m f (SelfOf p) (Linking (Equation m Of Own (SelfOf p))) r → Of p r)
      (own : (r : TermRequirement) → HasRequirement s r → HasValidSides f s r
      → ShowsUsable m f s (Linking (Equation m Of Own s)) r → Gives Own s r) where
    pub valid_shown : (t : Term) → Derivable f s (IsValid t) → ShowsValid m f s (Linking (Equation m Of Own s)) t
    valid_shown t e = chained m f Of Own fit ranges e of n own

    pub usable_shown : (r : TermRequirement) → HasValidSides f s r → ShowsUsable m f s (Linking (Equation m Of Own s)) r
    usable_shown (Conforms t p) e = valid_shown t e
    usable_shown (IsAnyObject t) e = valid_shown t e
    usable_shown (Equals t u) e = (valid_shown t e.0, valid_shown u e.1)
