-- What is read off a rule of the reduced system is canonical, so a sorted list of all candidates is enough. A rule says at most one thing.
use Rattle.std.proofs.Common.{◌≡◌, ◌⊎◌, ℕ, List, [], ◌∷◌, ◌++◌, length, length-append, ap, ap₂, subst, sym, ◌∙◌, inl, inr, arith}
use Rattle.std.proofs.lemmas.List.{same_from_push}
use Rattle.swreq_canonical.proofs.swreq_lemmas.Elements.{same_heads}
use Rattle.swreq_canonical.specs.swreq_param.declared.ids.NameId.{NameId}
use Rattle.swreq_canonical.specs.swreq_param.declared.ids.ParamId.{ParamId}
use Rattle.swreq_canonical.specs.swreq_param.declared.ids.ProtoId.{ProtoId}
use Rattle.swreq_canonical.specs.swreq_param.declared.ids.Step.TheVariants.{Bound, Name}
use Rattle.swreq_canonical.specs.swreq_param.Terms.{Term}
use Rattle.swreq_canonical.specs.swreq_param.Terms.Term.{Generic, Member}
use Rattle.swreq_canonical.specs.swreq_derive.Derivation.{Derivable, Source, TermFacts, TermRequirement}
use Rattle.swreq_canonical.specs.swreq_derive.Derivation.Derives.{assoc_bind, same_conf, same_name, symm, trans}
use Rattle.swreq_canonical.specs.swreq_derive.Derivation.Source.{Written}
use Rattle.swreq_canonical.specs.swreq_derive.Derivation.TermRequirement.{Conforms, Equals, IsAnyObject}
use Rattle.swreq_canonical.specs.swreq_derive.Derivation.TermStatement.{IsValid, Requires}
use Rattle.swreq_canonical.specs.swreq_derive.Reduced.{IsReduced, IsReducedTypeOf}
use Rattle.swreq_canonical.specs.swreq_word.declared.symbols.Symbol.{Symbol}
use Rattle.swreq_canonical.specs.swreq_word.declared.symbols.Symbol.TheVariants.{Layout as LayoutSymbol, Member as MemberSymbol, Name as NameSymbol, Param as ParamSymbol, Proto as ProtoSymbol}
use Rattle.swreq_canonical.specs.swreq_word.Least.{IsLeast}
use Rattle.swreq_canonical.proofs.swreq_word.Chains.{joined}
use Rattle.swreq_canonical.specs.swreq_correspondence.Equations.{AreCongruent}
use Rattle.swreq_canonical.specs.swreq_correspondence.Readings.{CanRead, HasName, HasReading, after, first, reading}
use Rattle.swreq_canonical.specs.swreq_correspondence.Symbols.{Symbols, Word, spell}
use Rattle.swreq_canonical.specs.swreq_correspondence.Types.{IsFirstFor, IsTypeOf}
use Rattle.swreq_canonical.proofs.swreq_correspondence.Chained.{turn_all}
use Rattle.swreq_canonical.proofs.swreq_correspondence.Correspondence.{chain_leads, conforming_words, layout_words, word_is_read}
use Rattle.swreq_canonical.proofs.swreq_correspondence.OneType.{one_first, one_param, one_type, typed_length}
use Rattle.swreq_canonical.proofs.swreq_correspondence.Orders.{type_is_reduced}
use Rattle.swreq_canonical.proofs.swreq_correspondence.Readings.{valid_base}
use Rattle.swreq_canonical.specs.Canonical.{CanBePrincipal, IsCanonical, principal}
use Rattle.swreq_canonical.specs.Generators.{AreEnough, Follows, IsEarlier}
use Rattle.swreq_canonical.proofs.Following.{wider}
use Rattle.swreq_canonical.proofs.ReducedLemmas.{not_reduced}
use Rattle.swreq_canonical.proofs.Sides.{IsOfEarlierType}
use Rattle.swreq_candidates.specs.Candidates.{IsCandidate, IsCandidateList, IsNamed, IsReadOff, IsReducedRule, SpeaksOf}
use Rattle.swreq_candidates.proofs.Parts.{last_read, read_on-push}
use Rattle.swreq_candidates.proofs.Settled.{IsOverText, stands, stands_for}

reading-push : (m : Symbols) (f : TermFacts) (s : Source) (w : Word) (x : Symbol) → HasReading m f s w → HasReading m f s (w ++ (x ∷ []))
    → CanRead m f s (reading m w) x × (reading m (w ++ (x ∷ [])) ≡ after m (reading m w) x)
reading-push m f s [] x h c = absurd h
reading-push m f s (y ∷ w) x h c = ((last_read m f s (first m y) w x c.1).1, read_on-push m (first m y) w x)

named_member : (m : Symbols) (f : TermFacts) (s : Source) (t : Term) (x : Symbol) (a : NameId) → IsNamed m x a → CanRead m f s t x
    → HasName f s t a × (after m t x ≡ Member t (Name a))
named_member m f s t (MemberSymbol k) a e c = (subst (λ b. HasName f s t b) e.1 c.2, ap (λ b. Member t (Name b)) e.1)
named_member m f s t (NameSymbol b) a e c = (subst (λ y. HasName f s t y) e c, ap (λ y. Member t (Name y)) e)
named_member m f s t (ProtoSymbol p) a e c = absurd e
named_member m f s t (ParamSymbol d i) a e c = absurd e
named_member m f s t LayoutSymbol a e c = absurd e

-- ---- what is read off is canonical

module _ (m : Symbols) (f : TermFacts) (ps : List ParamId) (list : List TermRequirement) (text : IsOverText m f ps list) where
  abbrev L : Source
  L = Written ps list

  abbrev C : Word → Word → Type 0
  C = AreCongruent m f L

  typed_reduced : (t : Term) (u : Word) → Derivable f L (IsValid t) → IsTypeOf m f L u t → IsLeast C u → IsReduced f L t
  typed_reduced t u v h l = type_is_reduced m f ps list text.symbols text.of_text text.in_text text.ranked t t u v
      (turn_all (stands_for m f ps list text t u h)) l h

  read_equal : (t : Term) (w : Word) → Derivable f L (IsValid t) → C (spell m L t []) w
      → HasReading m f L w × Derivable f L (Requires (Equals t (reading m w)))
  read_equal t w v c =
      let (h, e) = word_is_read m f text.symbols L t v in
      let (k, g) = chain_leads m f text.symbols L c h in
      (k, trans e g)

  pub typed_read : (t : Term) (w : Word) → Derivable f L (IsValid t) → IsTypeOf m f L w t
      → HasReading m f L w × Derivable f L (Requires (Equals t (reading m w)))
  typed_read t w v h = read_equal t w v (turn_all (stands_for m f ps list text t w h))

  -- the left side is read as a type that equals the one of which it speaks
  spoken_equal : (v u : Term) (l r : Word) → Derivable f L (IsValid v) → Derivable f L (IsValid u) → IsReducedRule C l r
      → IsTypeOf m f L r u → SpeaksOf m f L v l
      → Derivable f L (Requires (Equals v u)) × CanBePrincipal f L v
  spoken_equal (Generic g) u l r vv vu (left, c, lr) h e =
      let (_, q) = read_equal (Generic g) r vv (subst (λ w. C w r) e c) in
      let (_, p) = typed_read u r vu h in
      (trans q (symm p), tt)
  spoken_equal (Member t (Name a)) u l r vv vu k h e = absurd e
  spoken_equal (Member t (Bound d)) u l r vv vu (left, c, lr) h (w, x, a, e, hw, na, i) =
      let vt : Derivable f L (IsValid t) = valid_base (Bound d) vv in
      let lw : IsLeast C w = left.factors [] w (x ∷ []) e (let j = ap length e in omega (arith, length-append w (x ∷ []))) in
      let (rw', q) = typed_read t w vt hw in
      let (rr, p) = typed_read u r vu h in
      let (rl, g) = chain_leads m f text.symbols L (turn_all c) rr in
      let (cx, z) = reading-push m f L w x rw' (subst (λ y. HasReading m f L y) e rl) in
      let (_, y) = named_member m f L (reading m w) x a na cx in
      let le : reading m l ≡ Member (reading m w) (Name a) = ap (reading m) e ∙ (z ∙ y) in
      let s1 : Derivable f L (Requires (Equals (Member t (Bound d)) (Member t (Name a)))) = assoc_bind i.conforms i.declares in
      let s2 : Derivable f L (Requires (Equals (Member t (Name a)) (Member (reading m w) (Name a)))) =
      same_name (same_conf i.conforms (symm q)) q i.declares in
      let s3 : Derivable f L (Requires (Equals (Member (reading m w) (Name a)) u)) =
      subst (λ b. Derivable f L (Requires (Equals b u))) le (symm (trans p g)) in
      (trans s1 (trans s2 s3), typed_reduced t w vt hw lw)

  pub candidate_is_canonical : (r : TermRequirement) → IsCandidate m f L r → IsCanonical f L r
  candidate_is_canonical (Conforms t p) (l, u, (left, c, k), (v, h, e)) = (
    (conforming_words m f text.symbols L text.of_text text.in_text t p v).1
        (joined (turn_all (stands m f ps list text t u h (ProtoSymbol p.rank ∷ [])))
        (joined (subst (λ x. C x u) e c) (stands_for m f ps list text t u h))),
    typed_reduced t u v h k,
  )
  candidate_is_canonical (IsAnyObject t) (l, u, (left, c, k), (v, h, e)) = (
    (layout_words m f text.symbols L text.of_text text.in_text t v).1
        (joined (turn_all (stands m f ps list text t u h (LayoutSymbol ∷ [])))
        (joined (subst (λ x. C x u) e c) (stands_for m f ps list text t u h))),
    typed_reduced t u v h k,
  )
  candidate_is_canonical (Equals u v) (l, r, k, (vu, vv, differ, h, s)) =
      let (q, o) = spoken_equal v u l r vv vu k h s in
      let b : IsReduced f L u = typed_reduced u r vu h k.2 in
      let reduced : IsReducedTypeOf f L v u = record { equal = q; least = λ w d x. b.least w (trans (symm q) d) x } in
      (symm q, (o, not_reduced reduced (λ e. differ (sym e)), reduced))

  pub candidates_are_enough : (candidates : List TermRequirement) → IsCandidateList m f L candidates
      → ((r : TermRequirement) → IsCanonical f L r
      → IsCandidate m f L r ⊎ Follows f ps (IsOfEarlierType f ps list (principal r)) (Requires r))
      → AreEnough f ps list candidates
  candidates_are_enough candidates all settled = record {
    sorted = all.sorted;
    canonical = λ r h. candidate_is_canonical r ((all.members r).0 h);
    covers = λ r c. elim (settled r c) [
      | inl h ↦ inl ((all.members r).1 h)
      | inr h ↦ inr (wider f ps (IsOfEarlierType f ps list (principal r)) (IsEarlier f L r) (λ q b. (b.0, inl b.1)) h)
    ];
  }

-- ---- a rule says at most one thing

pub not_empty : (u : Word) (x : Symbol) → [] ≡ u ++ (x ∷ []) → ⊥
not_empty [] x e = cc
not_empty (y ∷ u) x e = cc

one_proto : {p q : ProtoId} → ProtoSymbol p.rank ≡ ProtoSymbol q.rank → p ≡ q
one_proto {p = p} {q = q} e = λ j. record { rank = same_rank e j }
  where
    same_rank : ProtoSymbol p.rank ≡ ProtoSymbol q.rank → p.rank ≡ q.rank
    same_rank e = cc

no_layout : {p : ℕ} → ProtoSymbol p ≡ LayoutSymbol → ⊥
no_layout e = cc

pub one_name : (m : Symbols) (x : Symbol) (a b : NameId) → IsNamed m x a → IsNamed m x b → a ≡ b
one_name m (MemberSymbol k) a b h i = sym h.1 ∙ i.1
one_name m (NameSymbol c) a b h i = sym h ∙ i
one_name m (ProtoSymbol p) a b h i = absurd h
one_name m (ParamSymbol d j) a b h i = absurd h
one_name m LayoutSymbol a b h i = absurd h

module _ (m : Symbols) (f : TermFacts) (s : Source) where
  -- one symbol after a word of a type is more than one symbol
  not_single : (t : Term) (u : Word) (x y : Symbol) → IsTypeOf m f s u t → u ++ (x ∷ []) ≡ y ∷ [] → ⊥
  not_single t u x y h e = let n = ap length e in let k = typed_length m f s t [] u h in omega (arith, length-append u (x ∷ []))

  pub one_spoken : (v w : Term) (l : Word) → SpeaksOf m f s v l → SpeaksOf m f s w l → v ≡ w
  one_spoken (Generic g) (Generic h) l i k = ap Generic (one_param (same_heads (sym i ∙ k)))
  one_spoken (Generic g) (Member t (Bound e)) l h (u, x, a, q, r, o, i) =
      absurd (not_single t u x (ParamSymbol g.depth g.index) r (sym q ∙ h))
  one_spoken (Generic g) (Member t (Name a)) l h k = absurd k
  one_spoken (Member t (Bound e)) (Generic g) l (u, x, a, q, r, o, i) h =
      absurd (not_single t u x (ParamSymbol g.depth g.index) r (sym q ∙ h))
  one_spoken (Member t (Name a)) w l h k = absurd h
  one_spoken (Member t (Bound d)) (Member z (Name a)) l h k = absurd k
  one_spoken (Member t (Bound d)) (Member z (Bound e)) l (u, x, a, q, r, o, i) (v, y, b, q', r', o', i') =
      let (uv, xy) = same_from_push u v x y (sym q ∙ q') in
      let tz : t ≡ z = one_type m f s t z u r (subst (λ w. IsTypeOf m f s w z) (sym uv) r') in
      let ab : a ≡ b = one_name m x a b o (subst (λ y. IsNamed m y b) (sym xy) o') in
      ap₂ Member tz
      (ap Bound (one_first m f s t a d e i (subst (λ c. IsFirstFor f s t c e) (sym ab) (subst (λ w. IsFirstFor f s w b e) (sym tz) i'))))

  not_spoken : (v : Term) (l r : Word) (x : Symbol) (t : Term) → IsTypeOf m f s r t → l ≡ r ++ (x ∷ []) → ((a : NameId) → IsNamed m x a → ⊥)
      → SpeaksOf m f s v l → ⊥
  not_spoken (Generic g) l r x t h e none k = not_single t r x (ParamSymbol g.depth g.index) h (sym e ∙ k)
  not_spoken (Member z (Name a)) l r x t h e none k = k
  not_spoken (Member z (Bound d)) l r x t h e none (u, y, a, q, hu, o, i) =
      none a (subst (λ w. IsNamed m w a) (sym (same_from_push r u x y (sym e ∙ q)).1) o)

  pub one_read_off : (l r : Word) (q o : TermRequirement) → IsReadOff m f s l r q → IsReadOff m f s l r o → q ≡ o
  one_read_off l r (Conforms t p) (Conforms u g) (v, h, e) (w, k, i) =
      ap₂ Conforms (one_type m f s t u r h k) (one_proto (same_from_push r r (ProtoSymbol p.rank) (ProtoSymbol g.rank) (sym e ∙ i)).1)
  one_read_off l r (Conforms t p) (IsAnyObject u) (v, h, e) (w, k, i) =
      absurd (no_layout (same_from_push r r (ProtoSymbol p.rank) LayoutSymbol (sym e ∙ i)).1)
  one_read_off l r (IsAnyObject t) (Conforms u p) (v, h, e) (w, k, i) =
      absurd (no_layout (same_from_push r r (ProtoSymbol p.rank) LayoutSymbol (sym i ∙ e)).1)
  one_read_off l r (IsAnyObject t) (IsAnyObject u) (v, h, e) (w, k, i) = ap IsAnyObject (one_type m f s t u r h k)
  one_read_off l r (Conforms t p) (Equals u z) (v, h, e) (w, w', differ, k, i) =
      absurd (not_spoken z l r (ProtoSymbol p.rank) t h e (λ a y. y) i)
  one_read_off l r (IsAnyObject t) (Equals u z) (v, h, e) (w, w', differ, k, i) = absurd (not_spoken z l r LayoutSymbol t h e (λ a y. y) i)
  one_read_off l r (Equals u z) (Conforms t p) (w, w', differ, k, i) (v, h, e) =
      absurd (not_spoken z l r (ProtoSymbol p.rank) t h e (λ a y. y) i)
  one_read_off l r (Equals u z) (IsAnyObject t) (w, w', differ, k, i) (v, h, e) = absurd (not_spoken z l r LayoutSymbol t h e (λ a y. y) i)
  one_read_off l r (Equals u z) (Equals t y) (w, w', differ, k, i) (v, v', also, h, e) =
      ap₂ Equals (one_type m f s u t r k h) (one_spoken z y l i e)
