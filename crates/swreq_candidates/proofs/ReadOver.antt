-- A chain from a word that is read over `[τ_0_0 : P]` uses no equation of the list, and what is read over it is read after a type that
-- conforms to P.
use Rattle.std.proofs.Common.{[], ◌∷◌, ◌++◌, List}
use Rattle.swreq_canonical.specs.swreq_param.declared.ids.NameId.{NameId}
use Rattle.swreq_canonical.specs.swreq_param.declared.ids.ParamId.{ParamId}
use Rattle.swreq_canonical.specs.swreq_param.declared.ids.ProtoId.{ProtoId}
use Rattle.swreq_canonical.specs.swreq_param.declared.ids.Step.TheVariants.{Name}
use Rattle.swreq_canonical.specs.swreq_param.Terms.{Term, self}
use Rattle.swreq_canonical.specs.swreq_param.Terms.Term.{Member}
use Rattle.swreq_canonical.specs.swreq_derive.Derivation.{Derivable, Source, TermFacts, TermRequirement, for_self}
use Rattle.swreq_canonical.specs.swreq_derive.Derivation.Source.{SelfOf, Written}
use Rattle.swreq_canonical.specs.swreq_derive.Derivation.TermRequirement.{Conforms, Equals, IsAnyObject}
use Rattle.swreq_canonical.specs.swreq_derive.Derivation.TermStatement.{Requires}
use Rattle.swreq_canonical.proofs.swreq_derive.Substitution.{stands_for_self}
use Rattle.swreq_canonical.specs.swreq_word.declared.symbols.Symbol.{Symbol}
use Rattle.swreq_canonical.specs.swreq_word.declared.symbols.Symbol.TheVariants.{Layout as LayoutSymbol, Member as MemberSymbol, Name as NameSymbol, Param as ParamSymbol, Proto as ProtoSymbol}
use Rattle.swreq_canonical.specs.swreq_word.Relations.Chain.{done, more}
use Rattle.swreq_canonical.specs.swreq_correspondence.Equations.{AreCongruent, Equation, Link, UsableIn, UsableOf}
use Rattle.swreq_canonical.specs.swreq_correspondence.Equations.Equation.{member, of_protocol, of_source, twice}
use Rattle.swreq_canonical.specs.swreq_correspondence.Equations.Link.{back, forth, there}
use Rattle.swreq_canonical.specs.swreq_correspondence.Readings.{CanReadAll, HasName, HasReading}
use Rattle.swreq_canonical.specs.swreq_correspondence.Symbols.{AreSymbolsOf, Symbols, Word, name_of, proto_of}
use Rattle.swreq_canonical.proofs.swreq_correspondence.Correspondence.{link_leads, to_self}

-- ---- words without generic parameters

HasNoParam : Word → Type 0
HasNoParam [] = Unit {0}
HasNoParam (ProtoSymbol p ∷ u) = HasNoParam u
HasNoParam (MemberSymbol k ∷ u) = HasNoParam u
HasNoParam (ParamSymbol d i ∷ u) = ⊥
HasNoParam (NameSymbol a ∷ u) = HasNoParam u
HasNoParam (LayoutSymbol ∷ u) = HasNoParam u

rest_too : (x : Symbol) (u : Word) → HasNoParam (x ∷ u) → HasNoParam u
unfolding HasNoParam
rest_too (ProtoSymbol p) u h = h
rest_too (MemberSymbol k) u h = h
rest_too (ParamSymbol d i) u h = absurd h
rest_too (NameSymbol a) u h = h
rest_too LayoutSymbol u h = h

no_param : (m : Symbols) (f : TermFacts) (b : Source) (t : Term) (w : Word) → CanReadAll m f b t w → HasNoParam w
unfolding HasNoParam
no_param m f b t [] c = tt
no_param m f b t (ProtoSymbol p ∷ u) c = no_param m f b t u c.1
no_param m f b t (MemberSymbol k ∷ u) c = no_param m f b (Member t (Name (name_of m k))) u c.1
no_param m f b t (ParamSymbol d i ∷ u) c = c.0
no_param m f b t (NameSymbol a ∷ u) c = no_param m f b (Member t (Name (record { rank = a }))) u c.1
no_param m f b t (LayoutSymbol ∷ u) c = no_param m f b t u c.1

module _ (m : Symbols) (f : TermFacts) (ps : List ParamId) (list : List TermRequirement) (fit : AreSymbolsOf m f) where
  abbrev L : Source
  L = Written ps list

  abbrev E : Source → Word → Word → Type 0
  E s = Equation m (UsableOf f) (UsableIn f s) s

  -- ---- chains

  equation_over : (q : ProtoId) {l r : Word} → E L l r → (y : Word)
      → (HasNoParam (l ++ y) → E (SelfOf q) l r) × (HasNoParam (r ++ y) → E (SelfOf q) l r)
  unfolding HasNoParam
  equation_over q (twice p h) y = ((λ _. twice p h), λ _. twice p h)
  equation_over q (member k h) y = ((λ _. member k h), λ _. member k h)
  equation_over q (of_protocol p r h) y = ((λ _. of_protocol p r h), λ _. of_protocol p r h)
  equation_over q (of_source (Conforms u p) h) y = ((λ e. absurd e), λ e. absurd e)
  equation_over q (of_source (IsAnyObject u) h) y = ((λ e. absurd e), λ e. absurd e)
  equation_over q (of_source (Equals u v) h) y = ((λ e. absurd e), λ e. absurd e)

  link_over : (q : ProtoId) {u v : Word} → Link (E L) u v → HasNoParam u → Link (E (SelfOf q)) u v
  link_over q (forth y e) h = forth y ((equation_over q e y).0 h)
  link_over q (back y e) h = back y ((equation_over q e y).1 h)
  link_over q (there {u = u} x l) h = there x (link_over q l (rest_too x u h))

  pub chain_over : (q : ProtoId) {u v : Word} → AreCongruent m f L u v → HasReading m f (SelfOf q) u → AreCongruent m f (SelfOf q) u v
  chain_over q done h = done
  chain_over q (more {a = u} l c) h =
      let k = link_over q l (no_param m f (SelfOf q) self u (to_self m f q fit u h).1) in
      more k (chain_over q c (link_leads m f fit (SelfOf q) k h).0)

  -- ---- readings

  module _ (x : Term) (q : ProtoId) (c : Derivable f L (Requires (Conforms x q))) where
    name_behind : (t : Term) (a : NameId) → HasName f (SelfOf q) t a → HasName f L (for_self x t) a
    name_behind t a (p, d, e, h) = (p, d, stands_for_self f L x q (Requires (Conforms t p)) c e, h)

    pub read_behind : (t : Term) (w : Word) → CanReadAll m f (SelfOf q) t w → CanReadAll m f L (for_self x t) w
    read_behind t [] h = tt
    read_behind t (ProtoSymbol p ∷ w) (h, r) =
        (stands_for_self f L x q (Requires (Conforms t (record { rank = p }))) c h, read_behind t w r)
    read_behind t (MemberSymbol k ∷ w) ((i, h, o), r) = (
      (i, stands_for_self f L x q (Requires (Conforms t (proto_of m k))) c h, name_behind t (name_of m k) o),
      read_behind (Member t (Name (name_of m k))) w r,
    )
    read_behind t (ParamSymbol d i ∷ w) (h, r) = absurd h
    read_behind t (NameSymbol a ∷ w) (h, r) =
        (name_behind t (record { rank = a }) h, read_behind (Member t (Name (record { rank = a }))) w r)
    read_behind t (LayoutSymbol ∷ w) (h, r) = (stands_for_self f L x q (Requires (IsAnyObject t)) c h, read_behind t w r)
