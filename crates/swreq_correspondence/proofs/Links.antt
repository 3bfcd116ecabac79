-- A word that is read after a type goes on being read, as an equal type, along each link of a chain.
use Rattle.std.proofs.Common.{◌≡◌, [], ◌∷◌, ◌++◌, Contains, refl, subst, subst₂, sym}
use Rattle.swreq_derive.specs.swreq_param.declared.ids.ProtoId.{ProtoId}
use Rattle.swreq_derive.specs.swreq_param.Terms.{Term}
use Rattle.swreq_derive.specs.Derivation.{TermRequirement, TermFacts, Source, Derivable, for_self}
use Rattle.swreq_derive.specs.Derivation.TermRequirement.{Conforms, IsAnyObject, Equals}
use Rattle.swreq_derive.specs.Derivation.TermStatement.{IsValid, Requires}
use Rattle.swreq_derive.specs.Derivation.Source.{Written, SelfOf}
use Rattle.swreq_derive.specs.Derivation.Derives.{assoc_conf, assoc_same, assoc_layout, reflex, symm, trans, same_conf, same_layout}
use Rattle.swreq_derive.specs.Substitution.{substitute_in}
use Rattle.swreq_word.specs.declared.symbols.Symbol.{Symbol}
use Rattle.swreq_word.specs.declared.symbols.Symbol.TheVariants.{Proto as ProtoSymbol, Member as MemberSymbol, Name as NameSymbol, Layout as LayoutSymbol}
use Rattle.swreq_correspondence.specs.Symbols.{Word, Symbols, proto_of, name_of, AreSymbolsOf, steps, left_side, right_side}
use Rattle.swreq_correspondence.specs.Equations.{Gives, Equation, Link, UsableOf, UsableIn}
use Rattle.swreq_correspondence.specs.Equations.Equation.{twice, member, of_protocol, of_source}
use Rattle.swreq_correspondence.specs.Equations.Link.{forth, back, there}
use Rattle.swreq_correspondence.specs.Readings.{CanRead, after, CanReadAll, read_on}
use Rattle.swreq_correspondence.proofs.Spelling.{spell-append}
use Rattle.swreq_correspondence.proofs.Readings.{read_all_same, valid_after, valid_reading, unbound, read_on-steps, rest_is_read, steps_are_read, sides_of}

module _ (m : Symbols) (f : TermFacts) (s : Source) where
  -- u, read after t, leads to v, read after t', as an equal type
  abbrev pub Leads : Term → Word → Term → Word → Type 0
  Leads t u t' v = CanReadAll m f s t u → CanReadAll m f s t' v × Derivable f s (Requires (Equals (read_on m t u) (read_on m t' v)))

  -- the steps of u after t can be read
  abbrev pub AreRead : Term → Term → Type 0
  AreRead t u = (y : Word) → CanReadAll m f s (unbound m t u) y → CanReadAll m f s t (steps m u y)

  pub behind_steps : (t t' u u' : Term) (a b : Word) → AreRead t' u' → Leads (unbound m t u) a (unbound m t' u') b
      → Leads t (steps m u a) t' (steps m u' b)
  behind_steps t t' u u' a b h k c =
      let r : CanReadAll m f s (unbound m t' u') b
      × Derivable f s (Requires (Equals (read_on m (unbound m t u) a) (read_on m (unbound m t' u') b)))
      = k (rest_is_read m f s t u a c) in (
        h b r.0,
        subst₂ (λ x y. Derivable f s (Requires (Equals x y))) (sym (read_on-steps m f s t u a)) (sym (read_on-steps m f s t' u' b)) r.1,
      )

  -- after a type that conforms to q, `[Q]` may stand or not
  pub drop_symbol : (t : Term) (x : Symbol) (y : Word) → after m t x ≡ t → Derivable f s (IsValid t) → Leads t (x ∷ y) t y
  drop_symbol t x y e v c =
      let k : CanReadAll m f s t y = subst (λ z. CanReadAll m f s z y) e c.1 in
      (k, subst (λ z. Derivable f s (Requires (Equals (read_on m z y) (read_on m t y)))) (sym e) (reflex (valid_reading m f s t y v k)))

  pub add_symbol : (t : Term) (x : Symbol) (y : Word) → after m t x ≡ t → Derivable f s (IsValid t)
      → CanRead m f s t x → Leads t y t (x ∷ y)
  add_symbol t x y e v h c = (
    (h, subst (λ z. CanReadAll m f s z y) (sym e) c),
    subst (λ z. Derivable f s (Requires (Equals (read_on m t y) (read_on m z y)))) (sym e) (reflex (valid_reading m f s t y v c)),
  )

  pub stays : (t : Term) (y : Word) → Derivable f s (IsValid t) → Leads t y t y
  stays t y v c = (c, reflex (valid_reading m f s t y v c))

-- Each of two words leads to the other.
module _ (m : Symbols) (f : TermFacts) (s : Source) (fit : AreSymbolsOf m f) where
  abbrev pub Both : Term → Word → Term → Word → Type 0
  Both t u t' v = Leads m f s t u t' v × Leads m f s t' v t u

  -- the two sides of a requirement of p, after a type that conforms to p
  module _ (t : Term) (p : ProtoId) (v : Derivable f s (IsValid t)) (c : Derivable f s (Requires (Conforms t p))) where
    pub of_self : (u : Term) → Derivable f (SelfOf p) (IsValid u)
        → Derivable f s (Requires (Equals (for_self t u) (unbound m t u))) × AreRead m f s t u
    of_self u e = steps_are_read m f s (SelfOf p) (λ g. t) fit (λ g h. v)
        (λ r h w. subst (λ x. Derivable f s (Requires (substitute_in (λ g. t) x))) (sym h) c) u e

    conf_sides : (u : Term) (q : ProtoId) (y : Word) → Contains (f.of_protocol p) (Conforms u q) → Derivable f (SelfOf p) (IsValid u)
        → Both t (steps m u (ProtoSymbol q.rank ∷ y)) t (steps m u y)
    conf_sides u q y h e =
        let r : Derivable f s (Requires (Equals (for_self t u) (unbound m t u))) × AreRead m f s t u = of_self u e in
        let w : Derivable f s (IsValid (unbound m t u)) = (sides_of r.0).1 in
        let k : Derivable f s (Requires (Conforms (unbound m t u) q)) = same_conf (assoc_conf c h (λ _. e)) (symm r.0) in (
          behind_steps m f s t t u u (ProtoSymbol q.rank ∷ y) y r.1 (drop_symbol m f s (unbound m t u) (ProtoSymbol q.rank) y refl w),
          behind_steps m f s t t u u y (ProtoSymbol q.rank ∷ y) r.1 (add_symbol m f s (unbound m t u) (ProtoSymbol q.rank) y refl w k),
        )

    layout_sides : (u : Term) (y : Word) → Contains (f.of_protocol p) (IsAnyObject u) → Derivable f (SelfOf p) (IsValid u)
        → Both t (steps m u (LayoutSymbol ∷ y)) t (steps m u y)
    layout_sides u y h e =
        let r : Derivable f s (Requires (Equals (for_self t u) (unbound m t u))) × AreRead m f s t u = of_self u e in
        let w : Derivable f s (IsValid (unbound m t u)) = (sides_of r.0).1 in
        let k : Derivable f s (Requires (IsAnyObject (unbound m t u))) = same_layout (assoc_layout c h (λ _. e)) (symm r.0) in (
          behind_steps m f s t t u u (LayoutSymbol ∷ y) y r.1 (drop_symbol m f s (unbound m t u) LayoutSymbol y refl w),
          behind_steps m f s t t u u y (LayoutSymbol ∷ y) r.1 (add_symbol m f s (unbound m t u) LayoutSymbol y refl w k),
        )

    same_sides : (u u' : Term) (y : Word) → Contains (f.of_protocol p) (Equals u u') → Derivable f (SelfOf p) (IsValid u)
        → Derivable f (SelfOf p) (IsValid u')
        → Both t (steps m u y) t (steps m u' y)
    same_sides u u' y h e e' =
        let r : Derivable f s (Requires (Equals (for_self t u) (unbound m t u))) × AreRead m f s t u = of_self u e in
        let r' : Derivable f s (Requires (Equals (for_self t u') (unbound m t u'))) × AreRead m f s t u' = of_self u' e' in
        let k : Derivable f s (Requires (Equals (unbound m t u) (unbound m t u'))) =
        trans (symm r.0) (trans (assoc_same c h (λ _. e) (λ _. e')) r'.0) in (
          behind_steps m f s t t u u' y y r'.1 (read_all_same m f s (unbound m t u) (unbound m t u') y k),
          behind_steps m f s t t u' u y y r.1 (read_all_same m f s (unbound m t u') (unbound m t u) y (symm k)),
        )

-- the equation of a source's own member is that of `[P][P] = [P]`, or begins with a generic parameter
module _ (m : Symbols) (f : TermFacts) (fit : AreSymbolsOf m f) where
  doubled : (s : Source) (t : Term) (p : ProtoId) (y : Word) → Derivable f s (IsValid t)
      → Both m f s fit t (ProtoSymbol p.rank ∷ ProtoSymbol p.rank ∷ y) t (ProtoSymbol p.rank ∷ y)
  doubled s t p y v = (
    drop_symbol m f s t (ProtoSymbol p.rank) (ProtoSymbol p.rank ∷ y) refl v,
    λ c. add_symbol m f s t (ProtoSymbol p.rank) (ProtoSymbol p.rank ∷ y) refl v c.0 c,
  )

  of_member : (s : Source) (t : Term) (y : Word) (r : TermRequirement) → Derivable f s (IsValid t) → Gives (UsableIn f s) s r
      → Both m f s fit t (left_side m s r ++ y) t (right_side m s r ++ y)
  of_member (Written gs rs) t y (Conforms u q) v h = ((λ c. absurd c.0), λ c. absurd c.0)
  of_member (Written gs rs) t y (IsAnyObject u) v h = ((λ c. absurd c.0), λ c. absurd c.0)
  of_member (Written gs rs) t y (Equals u u') v h = ((λ c. absurd c.0), λ c. absurd c.0)
  of_member (SelfOf p) t y r v h =
      subst (λ x. Both m f (SelfOf p) fit t (left_side m (SelfOf p) x ++ y) t (right_side m (SelfOf p) x ++ y)) (sym h)
      (doubled (SelfOf p) t p y v)

  module _ (s : Source) where
    under_proto : (t : Term) (p : ProtoId) (a b : Word) → (Derivable f s (Requires (Conforms t p)) → Both m f s fit t a t b)
        → Both m f s fit t (ProtoSymbol p.rank ∷ a) t (ProtoSymbol p.rank ∷ b)
    under_proto t p a b k = (
      (λ c. let r : CanReadAll m f s t b × Derivable f s (Requires (Equals (read_on m t a) (read_on m t b))) = (k c.0).0 c.1 in
          ((c.0, r.0), r.1)),
      λ c. let r : CanReadAll m f s t a × Derivable f s (Requires (Equals (read_on m t b) (read_on m t a))) = (k c.0).1 c.1 in
          ((c.0, r.0), r.1),
    )

    pub middle : {l r : Word} → Equation m (UsableOf f) (UsableIn f s) s l r → (t : Term) (y : Word) → Derivable f s (IsValid t)
        → Both m f s fit t (l ++ y) t (r ++ y)
    middle (twice p h) t y v = doubled s t p y v
    middle (member k h) t y v = (
      (λ c. (
        ((h, c.0, c.1.0), c.1.1),
        reflex (valid_reading m f s t (ProtoSymbol (proto_of m k).rank ∷ NameSymbol (name_of m k).rank ∷ y) v c),
      )),
      λ c. ((c.0.1, (c.0.2, c.1)), reflex (valid_reading m f s t (MemberSymbol k ∷ y) v c)),
    )
    middle (of_protocol p (Conforms u q) (h, w)) t y v =
        subst₂ (λ a b. Both m f s fit t a t b) (sym (spell-append m (SelfOf p) u (ProtoSymbol q.rank ∷ []) y))
        (sym (spell-append m (SelfOf p) u [] y))
        (under_proto t p (steps m u (ProtoSymbol q.rank ∷ y)) (steps m u y) (λ c. conf_sides m f s fit t p v c u q y h w))
    middle (of_protocol p (IsAnyObject u) (h, w)) t y v =
        subst₂ (λ a b. Both m f s fit t a t b) (sym (spell-append m (SelfOf p) u (LayoutSymbol ∷ []) y))
        (sym (spell-append m (SelfOf p) u [] y))
        (under_proto t p (steps m u (LayoutSymbol ∷ y)) (steps m u y) (λ c. layout_sides m f s fit t p v c u y h w))
    middle (of_protocol p (Equals u u') (h, w)) t y v =
        subst₂ (λ a b. Both m f s fit t a t b) (sym (spell-append m (SelfOf p) u [] y)) (sym (spell-append m (SelfOf p) u' [] y))
        (under_proto t p (steps m u y) (steps m u' y) (λ c. same_sides m f s fit t p v c u u' y h w.0 w.1))
    middle (of_source r h) t y v = of_member s t y r v h

    pub middle_link : {u v : Word} → Link (Equation m (UsableOf f) (UsableIn f s) s) u v → (t : Term)
        → Derivable f s (IsValid t) → Leads m f s t u t v
    middle_link (forth y e) t v = (middle e t y v).0
    middle_link (back y e) t v = (middle e t y v).1
    middle_link (there {u = u} {v = w} x l) t v = λ c.
        let r : CanReadAll m f s (after m t x) w × Derivable f s (Requires (Equals (read_on m (after m t x) u) (read_on m (after m t x) w)))
        = middle_link l (after m t x) (valid_after m f s t x v c.0) c.1 in
        ((c.0, r.0), r.1)
