-- How words of type parameters are read, and that what is read after a type is read after an equal one.
use Rattle.std.proofs.Common.{◌≡◌, true, [], ◌∷◌, refl, subst, sym}
use Rattle.swreq_derive.specs.swreq_param.declared.ids.AssocId.{AssocId}
use Rattle.swreq_derive.specs.swreq_param.declared.ids.NameId.{NameId}
use Rattle.swreq_derive.specs.swreq_param.declared.ids.ParamId.{ParamId}
use Rattle.swreq_derive.specs.swreq_param.declared.ids.ProtoId.{ProtoId}
use Rattle.swreq_derive.specs.swreq_param.declared.ids.Step.{Step}
use Rattle.swreq_derive.specs.swreq_param.declared.ids.Step.TheVariants.{Bound, Name}
use Rattle.swreq_derive.specs.swreq_param.Terms.{Term, head}
use Rattle.swreq_derive.specs.swreq_param.Terms.Term.{Generic, Member}
use Rattle.swreq_derive.specs.Derivation.{TermRequirement, TermFacts, Source, Declares, Derives, Derivable, HasParam, HasRequirement, substitute}
use Rattle.swreq_derive.specs.Derivation.TermRequirement.{Conforms, Equals}
use Rattle.swreq_derive.specs.Derivation.TermStatement.{IsValid, Requires}
use Rattle.swreq_derive.specs.Derivation.Derives.{generic, assoc_name, assoc_decl, assoc_bind, reflex, symm, trans, same_conf, same_layout, same_name}
use Rattle.swreq_derive.specs.WellFormed.{HasValidSides}
use Rattle.swreq_derive.specs.Substitution.{substitute_in}
use Rattle.swreq_derive.proofs.Substitution.{valid_sides, derives_with}
use Rattle.swreq_word.specs.declared.symbols.Symbol.{Symbol}
use Rattle.swreq_word.specs.declared.symbols.Symbol.TheVariants.{Proto as ProtoSymbol, Member as MemberSymbol, Param as ParamSymbol, Name as NameSymbol, Layout as LayoutSymbol}
use Rattle.swreq_correspondence.specs.Symbols.{Word, Symbols, proto_of, name_of, IsRank, AreSymbolsOf, symbol, steps}
use Rattle.swreq_correspondence.specs.Readings.{HasName, CanRead, after, CanReadAll, read_on}

-- what makes a member valid
pub valid_name : {f : TermFacts} {s : Source} {t : Term} {a : NameId} → Derives f true s (IsValid (Member t (Name a))) → HasName f s t a
valid_name (assoc_name {p = p} {d = d} e h) = (p, d, e, h)

pub valid_bound : {f : TermFacts} {s : Source} {t : Term} {d : AssocId} → Derives f true s (IsValid (Member t (Bound d)))
    → (p : ProtoId) × (a : NameId) × Derivable f s (Requires (Conforms t p)) × Declares f p a d
valid_bound (assoc_decl {p = p} {a = a} e h) = (p, a, e, h)

pub valid_generic : {f : TermFacts} {s : Source} {g : ParamId} → Derives f true s (IsValid (Generic g)) → HasParam s g
valid_generic (generic h) = h

-- the sides of what is derivable, where it is clear what that is
pub sides_of : {f : TermFacts} {s : Source} {r : TermRequirement} → Derivable f s (Requires r) → HasValidSides f s r
sides_of {f = f} {s = s} {r = r} e = valid_sides f s r e

-- the base of a valid member is valid
pub valid_base : {f : TermFacts} {s : Source} {t : Term} (x : Step) → Derives f true s (IsValid (Member t x)) → Derivable f s (IsValid t)
valid_base (Name a) e = sides_of (valid_name e).2
valid_base (Bound d) e = sides_of (valid_bound e).2

module _ {f : TermFacts} {s : Source} where
  has_name : {t u : Term} {a : NameId} → Derivable f s (Requires (Equals t u)) → HasName f s t a → HasName f s u a
  has_name e (p, d, c, h) = (p, d, same_conf c (symm e), h)

  same_member : {t u : Term} {a : NameId} → Derivable f s (Requires (Equals t u)) → HasName f s t a
      → Derivable f s (Requires (Equals (Member t (Name a)) (Member u (Name a))))
  same_member e h = same_name (same_conf h.2 (symm e)) e h.3

module _ (m : Symbols) (f : TermFacts) (s : Source) where
  -- what is read after t is read after an equal type
  pub read_same : (t u : Term) (x : Symbol) → Derivable f s (Requires (Equals t u)) → CanRead m f s t x
      → CanRead m f s u x × Derivable f s (Requires (Equals (after m t x) (after m u x)))
  read_same t u (ProtoSymbol q) e c = (same_conf c (symm e), e)
  read_same t u (MemberSymbol k) e c = ((c.0, same_conf c.1 (symm e), has_name e c.2), same_member e c.2)
  read_same t u (ParamSymbol d i) e c = absurd c
  read_same t u (NameSymbol a) e c = (has_name e c, same_member e c)
  read_same t u LayoutSymbol e c = (same_layout c (symm e), e)

  pub read_all_same : (t u : Term) (w : Word) → Derivable f s (Requires (Equals t u)) → CanReadAll m f s t w
      → CanReadAll m f s u w × Derivable f s (Requires (Equals (read_on m t w) (read_on m u w)))
  read_all_same t u [] e c = (tt, e)
  read_all_same t u (x ∷ w) e c =
      let h : CanRead m f s u x × Derivable f s (Requires (Equals (after m t x) (after m u x))) = read_same t u x e c.0 in
      let r : CanReadAll m f s (after m u x) w × Derivable f s (Requires (Equals (read_on m (after m t x) w) (read_on m (after m u x) w)))
      = read_all_same (after m t x) (after m u x) w h.1 c.1 in
      ((h.0, r.0), r.1)

  pub valid_after : (t : Term) (x : Symbol) → Derivable f s (IsValid t) → CanRead m f s t x → Derivable f s (IsValid (after m t x))
  valid_after t (ProtoSymbol q) v c = v
  valid_after t (MemberSymbol k) v c = assoc_name c.2.2 c.2.3
  valid_after t (ParamSymbol d i) v c = absurd c
  valid_after t (NameSymbol a) v c = assoc_name c.2 c.3
  valid_after t LayoutSymbol v c = v

  pub valid_reading : (t : Term) (w : Word) → Derivable f s (IsValid t) → CanReadAll m f s t w → Derivable f s (IsValid (read_on m t w))
  valid_reading t [] v c = v
  valid_reading t (x ∷ w) v c = valid_reading (after m t x) w (valid_after t x v c.0) c.1

-- what the steps of u, after t, are read as
abbrev pub unbound : Symbols → Term → Term → Term
unbound m t (Generic g) = t
unbound m t (Member u x) = after m (unbound m t u) (symbol m x)

module _ (m : Symbols) (f : TermFacts) (s : Source) where
  pub read_on-steps : (t u : Term) (y : Word) → read_on m t (steps m u y) ≡ read_on m (unbound m t u) y
  read_on-steps t (Generic g) y = refl
  read_on-steps t (Member u x) y = read_on-steps t u (symbol m x ∷ y)

  -- what stands after the steps of u is read after their type
  pub rest_is_read : (t u : Term) (y : Word) → CanReadAll m f s t (steps m u y) → CanReadAll m f s (unbound m t u) y
  rest_is_read t (Generic g) y c = c
  rest_is_read t (Member u x) y c = (rest_is_read t u (symbol m x ∷ y) c).1

  -- The steps of a type parameter that is valid from b are read over s, where `of` takes what b derives to what s derives.
  module _ (b : Source) (of : ParamId → Term) (fit : AreSymbolsOf m f)
      (params : (g : ParamId) → HasParam b g → Derivable f s (IsValid (of g)))
      (members : (r : TermRequirement) → HasRequirement b r → HasValidSides f b r → Derivable f s (Requires (substitute_in of r))) where
    carried : (t : Term) (p : ProtoId) → Derivable f b (Requires (Conforms t p)) → Derivable f s (Requires (Conforms (substitute of t) p))
    carried t p e = derives_with e s of params (λ r h v w. members r h v)

    abbrev base : Term → Term
    base u = of (head u)

    step_is_read : (t v : Term) (x : Step) → Derivable f b (IsValid (Member t x)) → Derivable f s (Requires (Equals (substitute of t) v))
        → CanRead m f s v (symbol m x) × Derivable f s (Requires (Equals (Member (substitute of t) x) (after m v (symbol m x))))
    step_is_read t v (Name a) e h =
        let (p, d, c, k) = valid_name e in
        let r : Derivable f s (Requires (Conforms v p)) = same_conf (carried t p c) (symm h) in
        ((p, d, r, k), same_name r h k)
    step_is_read t v (Bound d) e h =
        let (p, a, c, k) = valid_bound e in
        let w : IsRank m (m.rank_of d) × (proto_of m (m.rank_of d) ≡ p) × (name_of m (m.rank_of d) ≡ a) = fit p a d k in
        let r : Derivable f s (Requires (Conforms v p)) = same_conf (carried t p c) (symm h) in
        let k' : Declares f p (name_of m (m.rank_of d)) d = subst (λ z. Declares f p z d) (sym w.2) k in (
          (w.0, subst (λ q. Derivable f s (Requires (Conforms v q))) (sym w.1) r, (p, d, r, k')),
          trans (assoc_bind (carried t p c) k') (same_name r h k'),
        )

    pub steps_are_read : (u : Term) → Derivable f b (IsValid u) → Derivable f s (Requires (Equals (substitute of u) (unbound m (base u) u)))
        × ((y : Word) → CanReadAll m f s (unbound m (base u) u) y → CanReadAll m f s (base u) (steps m u y))
    steps_are_read (Generic g) e = (reflex (params g (valid_generic e)), λ y c. c)
    steps_are_read (Member u x) e =
        let r : Derivable f s (Requires (Equals (substitute of u) (unbound m (base u) u)))
        × ((y : Word) → CanReadAll m f s (unbound m (base u) u) y → CanReadAll m f s (base u) (steps m u y))
        = steps_are_read u (valid_base x e) in
        let k : CanRead m f s (unbound m (base u) u) (symbol m x)
        × Derivable f s (Requires (Equals (Member (substitute of u) x) (after m (unbound m (base u) u) (symbol m x))))
        = step_is_read u (unbound m (base u) u) x e r.0 in
        (k.1, λ y c. r.1 (symbol m x ∷ y) (k.0, c))
