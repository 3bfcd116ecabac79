-- From a derivation to a chain of equations.
use Rattle.std.proofs.Common.{◌≡◌, true, [], ◌∷◌, Contains, refl, subst, subst₂, sym}
use Rattle.swreq_derive.specs.swreq_param.declared.ids.AssocId.{AssocId}
use Rattle.swreq_derive.specs.swreq_param.declared.ids.NameId.{NameId}
use Rattle.swreq_derive.specs.swreq_param.declared.ids.ProtoId.{ProtoId}
use Rattle.swreq_derive.specs.swreq_param.declared.ids.Step.TheVariants.{Bound, Name}
use Rattle.swreq_derive.specs.swreq_param.Terms.{Term, head}
use Rattle.swreq_derive.specs.swreq_param.Terms.Term.{Generic, Member}
use Rattle.swreq_derive.specs.Derivation.{TermRequirement, TermStatement, TermFacts, Source, Declares, Derives, Derivable, HasRequirement, for_self}
use Rattle.swreq_derive.specs.Derivation.TermRequirement.{Conforms, IsAnyObject, Equals}
use Rattle.swreq_derive.specs.Derivation.Source.{Written, SelfOf}
use Rattle.swreq_derive.specs.Derivation.Derives.{generic, conf, same, layout, assoc_name, assoc_decl, assoc_bind, assoc_conf, assoc_same, assoc_layout, reflex, symm, trans, same_conf, same_layout, same_name, same_decl}
use Rattle.swreq_derive.specs.WellFormed.{HasValidSides}
use Rattle.swreq_word.specs.declared.symbols.Symbol.TheVariants.{Proto as ProtoSymbol, Member as MemberSymbol, Name as NameSymbol, Layout as LayoutSymbol}
use Rattle.swreq_word.specs.Relations.Chain.{done, more}
use Rattle.swreq_word.proofs.Chains.{joined, at_once}
use Rattle.swreq_correspondence.specs.Symbols.{Word, Symbols, IsOfText, proto_of, name_of, AreSymbolsOf, AreOfText, IsInText, symbol, steps, start, spell, left_side, right_side}
use Rattle.swreq_correspondence.specs.Equations.{Gives, Equation, Link, Linking, UsableOf, UsableIn}
use Rattle.swreq_correspondence.specs.Equations.Equation.{twice, member, of_protocol, of_source}
use Rattle.swreq_correspondence.specs.Equations.Link.{forth, back, there}
use Rattle.swreq_correspondence.specs.Shown.{ShowsValid, ShowsUsable, Shows}
use Rattle.swreq_correspondence.proofs.Spelling.{spell-for_self, spell-append}

module _ {E : Word → Word → Type 0} where
  pub turn : {u v : Word} → Link E u v → Link E v u
  turn (forth y e) = back y e
  turn (back y e) = forth y e
  turn (there x l) = there x (turn l)

  pub turn_all : {u v : Word} → Linking E u v → Linking E v u
  turn_all done = done
  turn_all (more l c) = joined (turn_all c) (at_once (turn l))

  pub behind : (m : Symbols) (t : Term) {u v : Word} → Link E u v → Link E (steps m t u) (steps m t v)
  behind m (Generic g) l = l
  behind m (Member t x) l = behind m t (there (symbol m x) l)

-- Equations of a source, over those that `Of` and `Own` pick.
module _ {m : Symbols} {Of : ProtoId → TermRequirement → Type 0} {Own : TermRequirement → Type 0} {s : Source} where
  pub within : (t : Term) {u v : Word} → Link (Equation m Of Own s) u v → Link (Equation m Of Own s) (spell m s t u) (spell m s t v)
  within t l = there (start s (head t)) (behind m t l)

  pub within_all : (t : Term) {u v : Word} → Linking (Equation m Of Own s) u v
      → Linking (Equation m Of Own s) (spell m s t u) (spell m s t v)
  within_all t done = done
  within_all t (more l c) = more (within t l) (within_all t c)

  -- after a type parameter that conforms to p
  pub inside : (t : Term) (p : ProtoId) {u v : Word}
      → ((y : Word) → Linking (Equation m Of Own s) (spell m s t (ProtoSymbol p.rank ∷ y)) (spell m s t y))
      → Linking (Equation m Of Own s) (ProtoSymbol p.rank ∷ u) (ProtoSymbol p.rank ∷ v)
      → Linking (Equation m Of Own s) (spell m s t u) (spell m s t v)
  inside t p {u = u} {v = v} e c = joined (turn_all (e u)) (joined (within_all t c) (e v))

  -- the equation of a requirement of p, or of the source, with something after it
  pub conf_link : (b : Source) (t : Term) (q : ProtoId) (y : Word)
      → Equation m Of Own s (left_side m b (Conforms t q)) (right_side m b (Conforms t q))
      → Link (Equation m Of Own s) (spell m b t (ProtoSymbol q.rank ∷ y)) (spell m b t y)
  conf_link b t q y e =
      subst₂ (Link (Equation m Of Own s)) (spell-append m b t (ProtoSymbol q.rank ∷ []) y) (spell-append m b t [] y) (forth y e)

  pub layout_link : (b : Source) (t : Term) (y : Word)
      → Equation m Of Own s (left_side m b (IsAnyObject t)) (right_side m b (IsAnyObject t))
      → Link (Equation m Of Own s) (spell m b t (LayoutSymbol ∷ y)) (spell m b t y)
  layout_link b t y e = subst₂ (Link (Equation m Of Own s)) (spell-append m b t (LayoutSymbol ∷ []) y) (spell-append m b t [] y) (forth y e)

  pub same_link : (b : Source) (t u : Term) (y : Word) → Equation m Of Own s (left_side m b (Equals t u)) (right_side m b (Equals t u))
      → Link (Equation m Of Own s) (spell m b t y) (spell m b u y)
  same_link b t u y e = subst₂ (Link (Equation m Of Own s)) (spell-append m b t [] y) (spell-append m b u [] y) (forth y e)

  -- `[P]·A` and `[P:A]`
  pub member_link : (f : TermFacts) (p : ProtoId) (a : NameId) (d : AssocId) (y : Word) → AreSymbolsOf m f → Declares f p a d
      → Link (Equation m Of Own s) (MemberSymbol (m.rank_of d) ∷ y) (ProtoSymbol p.rank ∷ NameSymbol a.rank ∷ y)
  member_link f p a d y fit h =
      let e : Link (Equation m Of Own s) (MemberSymbol (m.rank_of d) ∷ y)
      (ProtoSymbol (proto_of m (m.rank_of d)).rank ∷ NameSymbol (name_of m (m.rank_of d)).rank ∷ y)
      = back y (member (m.rank_of d) (fit p a d h).0) in
      subst₂ (λ q b. Link (Equation m Of Own s) (MemberSymbol (m.rank_of d) ∷ y) (ProtoSymbol q.rank ∷ NameSymbol b.rank ∷ y))
      (fit p a d h).1 (fit p a d h).2 e

  -- an equation over `[τ_0_0 : P]` is one over each source
  carry : {p : ProtoId} → IsOfText m p → {l r : Word} → Equation m Of Own (SelfOf p) l r → Equation m Of Own s l r
  carry h (twice q k) = twice q k
  carry h (member k i) = member k i
  carry h (of_protocol q r k) = of_protocol q r k
  carry {p = p} h (of_source r k) =
      subst (λ x. Equation m Of Own s (left_side m (SelfOf p) x) (right_side m (SelfOf p) x)) (sym k) (twice p h)

  carry_link : {p : ProtoId} → IsOfText m p → {u v : Word} → Link (Equation m Of Own (SelfOf p)) u v → Link (Equation m Of Own s) u v
  carry_link h (forth y e) = forth y (carry h e)
  carry_link h (back y e) = back y (carry h e)
  carry_link h (there x l) = there x (carry_link h l)

  pub carry_chain : {p : ProtoId} → IsOfText m p → {u v : Word} → Linking (Equation m Of Own (SelfOf p)) u v
      → Linking (Equation m Of Own s) u v
  carry_chain h done = done
  carry_chain h (more l c) = more (carry_link h l) (carry_chain h c)

  -- what is found over `[τ_0_0 : P]` is found with t for `Self`
  shown_for_self : (f : TermFacts) (t u : Term) (p : ProtoId) → IsOfText m p
      → ((y : Word) → Linking (Equation m Of Own s) (spell m s t (ProtoSymbol p.rank ∷ y)) (spell m s t y))
      → ShowsValid m f s (Linking (Equation m Of Own s)) t → ShowsValid m f (SelfOf p) (Linking (Equation m Of Own (SelfOf p))) u
      → ShowsValid m f s (Linking (Equation m Of Own s)) (for_self t u)
  shown_for_self f t (Generic g) p h e v w = v
  shown_for_self f t (Member u (Name a)) p h e v (w, (q, d, k, c)) = (
    shown_for_self f t u p h e v w,
    (
      q,
      d,
      k,
      subst₂ (Linking (Equation m Of Own s)) (sym (spell-for_self m s t u (ProtoSymbol q.rank ∷ []))) (sym (spell-for_self m s t u []))
          (inside t p e (carry_chain h c)),
    ),
  )
  shown_for_self f t (Member u (Bound d)) p h e v (w, (q, a, k, c)) = (
    shown_for_self f t u p h e v w,
    (
      q,
      a,
      k,
      subst₂ (Linking (Equation m Of Own s)) (sym (spell-for_self m s t u (ProtoSymbol q.rank ∷ []))) (sym (spell-for_self m s t u []))
          (inside t p e (carry_chain h c)),
    ),
  )

same_proto : {t u : Term} {p q : ProtoId} → Conforms t q ≡ Conforms u p → q ≡ p
same_proto e = cc

pub self_in_range : (m : Symbols) (p : ProtoId) → IsOfText m p → IsInText m (SelfOf p)
self_in_range m p h t q e = subst (λ x. IsOfText m x) (sym (same_proto e)) h

module _ (m : Symbols) (f : TermFacts) (Of : ProtoId → TermRequirement → Type 0) (Own : TermRequirement → Type 0) (fit : AreSymbolsOf m f)
    (ranges : AreOfText m f) where
  abbrev pub E : Source → Word → Word → Type 0
  E s u v = Equation m Of Own s u v

  -- a usable requirement of a protocol whose sides are found is picked
  abbrev pub OfIsClosed : Type 0
  OfIsClosed = (p : ProtoId) (r : TermRequirement) → Contains (f.of_protocol p) r → HasValidSides f (SelfOf p) r
      → ShowsUsable m f (SelfOf p) (Linking (E (SelfOf p))) r → Of p r

  abbrev pub OwnIsClosed : Source → Type 0
  OwnIsClosed s = (r : TermRequirement) → HasRequirement s r → HasValidSides f s r → ShowsUsable m f s (Linking (E s)) r → Gives Own s r

  self_is_closed : (p : ProtoId) → OwnIsClosed (SelfOf p)
  self_is_closed p r h w e = h

  pub chained : {s : Source} {st : TermStatement} → Derives f true s st → OfIsClosed → IsInText m s → OwnIsClosed s
      → Shows m f s (Linking (E s)) st
  chained (generic h) k n o = h
  chained {s = s} (conf {t = t} {p = p} h v) k n o =
      let w : ShowsValid m f s (Linking (E s)) t = chained (v refl) k n o in
      (n t p h, w, λ y. at_once (conf_link s t p y (of_source (Conforms t p) (o (Conforms t p) h (v refl) w))))
  chained {s = s} (layout {t = t} h v) k n o =
      let w : ShowsValid m f s (Linking (E s)) t = chained (v refl) k n o in
      (w, λ y. at_once (layout_link s t y (of_source (IsAnyObject t) (o (IsAnyObject t) h (v refl) w))))
  chained {s = s} (same {t = t} {u = u} h v x) k n o =
      let w : ShowsValid m f s (Linking (E s)) t = chained (v refl) k n o in
      let z : ShowsValid m f s (Linking (E s)) u = chained (x refl) k n o in
      (w, z, λ y. at_once (same_link s t u y (of_source (Equals t u) (o (Equals t u) h (v refl, x refl) (w, z)))))
  chained (assoc_name {p = p} {d = d} e h) k n o = let r = chained e k n o in (r.1, (p, d, h, r.2 []))
  chained (assoc_decl {p = p} {a = a} e h) k n o = let r = chained e k n o in (r.1, (p, a, h, r.2 []))
  chained (assoc_bind {t = t} {p = p} {a = a} {d = d} e h) k n o =
      let r = chained e k n o in
      ((r.1, (p, a, h, r.2 [])), (r.1, (p, d, h, r.2 [])), λ y. more (within t (member_link f p a d y fit h)) (r.2 (NameSymbol a.rank ∷ y)))
  chained {s = s} (assoc_conf {t = t} {u = u} {p = p} {q = q} e h v) k n o =
      let r = chained e k n o in
      let w : ShowsValid m f (SelfOf p) (Linking (E (SelfOf p))) u = chained (v refl) k (self_in_range m p r.0) (self_is_closed p) in (
        ranges.protocols p u q h,
        shown_for_self f t u p r.0 r.2 r.1 w,
        λ y.
            subst₂ (Linking (E s)) (sym (spell-for_self m s t u (ProtoSymbol q.rank ∷ y))) (sym (spell-for_self m s t u y))
            (inside t p r.2 (at_once (conf_link (SelfOf p) u q y (of_protocol p (Conforms u q) (k p (Conforms u q) h (v refl) w))))),
      )
  chained {s = s} (assoc_layout {t = t} {u = u} {p = p} e h v) k n o =
      let r = chained e k n o in
      let w : ShowsValid m f (SelfOf p) (Linking (E (SelfOf p))) u = chained (v refl) k (self_in_range m p r.0) (self_is_closed p) in (
        shown_for_self f t u p r.0 r.2 r.1 w,
        λ y.
            subst₂ (Linking (E s)) (sym (spell-for_self m s t u (LayoutSymbol ∷ y))) (sym (spell-for_self m s t u y))
            (inside t p r.2 (at_once (layout_link (SelfOf p) u y (of_protocol p (IsAnyObject u) (k p (IsAnyObject u) h (v refl) w))))),
      )
  chained {s = s} (assoc_same {t = t} {u = u} {v = x'} {p = p} e h v x) k n o =
      let r = chained e k n o in
      let w : ShowsValid m f (SelfOf p) (Linking (E (SelfOf p))) u = chained (v refl) k (self_in_range m p r.0) (self_is_closed p) in
      let z : ShowsValid m f (SelfOf p) (Linking (E (SelfOf p))) x' = chained (x refl) k (self_in_range m p r.0) (self_is_closed p) in (
        shown_for_self f t u p r.0 r.2 r.1 w,
        shown_for_self f t x' p r.0 r.2 r.1 z,
        λ y.
            subst₂ (Linking (E s)) (sym (spell-for_self m s t u y)) (sym (spell-for_self m s t x' y))
            (inside t p r.2
            (at_once (same_link (SelfOf p) u x' y (of_protocol p (Equals u x') (k p (Equals u x') h (v refl, x refl) (w, z)))))),
      )
  chained (reflex e) k n o = let r = chained e k n o in (r, r, λ y. done)
  chained (symm e) k n o = let r = chained e k n o in (r.1, r.0, λ y. turn_all (r.2 y))
  chained (trans e h) k n o = let r = chained e k n o in let q = chained h k n o in (r.0, q.1, λ y. joined (r.2 y) (q.2 y))
  chained (same_conf {p = p} e h) k n o =
      let r = chained e k n o in let q = chained h k n o in
      (r.0, q.0, λ y. joined (q.2 (ProtoSymbol p.rank ∷ y)) (joined (r.2 y) (turn_all (q.2 y))))
  chained (same_layout e h) k n o =
      let r = chained e k n o in let q = chained h k n o in
      (q.0, λ y. joined (q.2 (LayoutSymbol ∷ y)) (joined (r.1 y) (turn_all (q.2 y))))
  chained (same_name {p = p} {a = a} {d = d} e h c) k n o =
      let r = chained e k n o in let q = chained h k n o in (
        (q.0, (p, d, c, joined (q.2 (ProtoSymbol p.rank ∷ [])) (joined (r.2 []) (turn_all (q.2 []))))),
        (q.1, (p, d, c, r.2 [])),
        λ y. q.2 (NameSymbol a.rank ∷ y),
      )
  chained (same_decl {p = p} {a = a} {d = d} e h c) k n o =
      let r = chained e k n o in let q = chained h k n o in (
        (q.0, (p, a, c, joined (q.2 (ProtoSymbol p.rank ∷ [])) (joined (r.2 []) (turn_all (q.2 []))))),
        (q.1, (p, a, c, r.2 [])),
        λ y. q.2 (MemberSymbol (m.rank_of d) ∷ y),
      )

-- the equations of the usable requirements
pub chained_usable : {f : TermFacts} {s : Source} {st : TermStatement} → (m : Symbols) → AreSymbolsOf m f → AreOfText m f → IsInText m s
    → Derivable f s st → Shows m f s (Linking (Equation m (UsableOf f) (UsableIn f s) s)) st
chained_usable {f = f} {s = s} m fit ranges n e =
    chained m f (UsableOf f) (UsableIn f s) fit ranges e (λ p r h w x. (h, w)) n (gives s)
  where
    gives : (b : Source) (r : TermRequirement) → HasRequirement b r → HasValidSides f b r
        → ShowsUsable m f b (Linking (Equation m (UsableOf f) (UsableIn f s) b)) r → Gives (UsableIn f b) b r
    gives (Written ps ms) r h w x = (h, w)
    gives (SelfOf p) r h w x = h
