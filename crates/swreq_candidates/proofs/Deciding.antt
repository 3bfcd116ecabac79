-- Least words decide congruence, and so what is derivable.
use Rattle.std.proofs.Common.{◌≡◌, [], ◌∷◌, Contains, length, refl, subst, sym, inl, inr}
use Rattle.std.proofs.Math.Decide.{dec_lt}
use Rattle.swreq_canonical.specs.swreq_param.declared.ids.NameId.{NameId}
use Rattle.swreq_canonical.specs.swreq_param.declared.ids.ParamId.{ParamId}
use Rattle.swreq_canonical.specs.swreq_param.declared.ids.ProtoId.{ProtoId}
use Rattle.swreq_canonical.specs.swreq_param.declared.ids.Step.TheVariants.{Bound, Name}
use Rattle.swreq_canonical.specs.swreq_param.Terms.{Term, self_param}
use Rattle.swreq_canonical.specs.swreq_param.Terms.Term.{Generic, Member}
use Rattle.swreq_canonical.specs.swreq_derive.Derivation.{AssociatedType, Declares, Derivable, HasParam, Source, TermFacts, TermStatement}
use Rattle.swreq_canonical.specs.swreq_derive.Derivation.Derives.{assoc_decl, assoc_name, generic}
use Rattle.swreq_canonical.specs.swreq_derive.Derivation.Source.{SelfOf, Written}
use Rattle.swreq_canonical.specs.swreq_derive.Derivation.TermRequirement.{Conforms, Equals, IsAnyObject}
use Rattle.swreq_canonical.specs.swreq_derive.Derivation.TermStatement.{IsValid, Requires}
use Rattle.swreq_canonical.specs.swreq_word.declared.symbols.Symbol.{Symbol}
use Rattle.swreq_canonical.specs.swreq_word.declared.symbols.Symbol.TheVariants.{Layout as LayoutSymbol, Member as MemberSymbol, Name as NameSymbol, Param as ParamSymbol, Proto as ProtoSymbol}
use Rattle.swreq_canonical.proofs.swreq_word.Chains.{joined}
use Rattle.swreq_canonical.proofs.swreq_word.Comparing.{trichotomy}
use Rattle.swreq_canonical.specs.swreq_correspondence.Equations.{Linking, UsableEquation}
use Rattle.swreq_canonical.specs.swreq_correspondence.Equations.Equation.{member, of_protocol, of_source, twice}
use Rattle.swreq_canonical.specs.swreq_correspondence.Readings.{CanRead, HasName}
use Rattle.swreq_canonical.specs.swreq_correspondence.Symbols.{AreOfText, AreSymbolsOf, IsInText, IsOfText, Symbols, Word, left_side, name_of, proto_of, right_side, spell}
use Rattle.swreq_canonical.specs.swreq_correspondence.Types.{HasFirsts}
use Rattle.swreq_canonical.proofs.swreq_correspondence.Chained.{turn_all}
use Rattle.swreq_canonical.proofs.swreq_correspondence.Correspondence.{conforming_words, equal_words, layout_words}
use Rattle.swreq_canonical.proofs.swreq_correspondence.Orders.{none_less}
use Rattle.swreq_canonical.proofs.swreq_correspondence.Readings.{sides_of, valid_base, valid_bound, valid_generic, valid_name}
use Rattle.swreq_canonical.proofs.swreq_correspondence.Shown.{linking_to}
use Rattle.swreq_rounds.specs.Presents.{ProtocolEquation}
use Rattle.swreq_candidates.specs.Completed.{HasLeastWords}
use Rattle.swreq_canonical.proofs.swreq_param.DecidedIds.{names_decided, params_decided}
use Rattle.swreq_candidates.proofs.Searches.{assocs_decided, both_decided, least_member, some_member}

-- ---- congruence

congruent_decided : (E : Word → Word → Type 0) → HasLeastWords E → (u v : Word) → Dec (Linking E u v)
congruent_decided E least u v =
    let (a, ca, la) = least u in
    let (b, cb, lb) = least v in
    elim (trichotomy a b) [
      | inl l ↦ no (λ c. none_less (Linking E) b a lb (joined (turn_all cb) (joined (turn_all c) ca)) l)
      | inr (inl e) ↦ yes (joined ca (subst (λ x. Linking E x v) (sym e) (turn_all cb)))
      | inr (inr l) ↦ no (λ c. none_less (Linking E) a b la (joined (turn_all ca) (joined c cb)) l)
    ]

-- The equations over [τ_0_0 : P] are those of the protocols.
module _ (m : Symbols) (f : TermFacts) (p : ProtoId) (h : IsOfText m p) where
  into : {l r : Word} → ProtocolEquation m f l r → UsableEquation m f (SelfOf p) l r
  into (twice q k) = twice q k
  into (member k i) = member k i
  into (of_protocol q r k) = of_protocol q r k
  into (of_source r k) = absurd k

  out_of : {l r : Word} → UsableEquation m f (SelfOf p) l r → ProtocolEquation m f l r
  out_of (twice q k) = twice q k
  out_of (member k i) = member k i
  out_of (of_protocol q r k) = of_protocol q r k
  out_of (of_source r k) = subst (λ x. ProtocolEquation m f (left_side m (SelfOf p) x) (right_side m (SelfOf p) x)) (sym k) (twice p h)

  pub least_of_self : HasLeastWords (ProtocolEquation m f) → HasLeastWords (UsableEquation m f (SelfOf p))
  least_of_self least w = let (v, c, l) = least w in (v, linking_to (λ a b e. into e) c, λ u d. l u (linking_to (λ a b e. out_of e) d))

-- ---- derivations from one source

module _ (m : Symbols) (f : TermFacts) (s : Source) (fit : AreSymbolsOf m f) (ranges : AreOfText m f) (n : IsInText m s)
    (least : HasLeastWords (UsableEquation m f s)) where
  congruent : (u v : Word) → Dec (Linking (UsableEquation m f s) u v)
  congruent = congruent_decided (UsableEquation m f s) least

  valid_conforms : (t : Term) → Derivable f s (IsValid t) → (p : ProtoId) → Dec (Derivable f s (Requires (Conforms t p)))
  valid_conforms t v p = elim (congruent (spell m s t (ProtoSymbol p.rank ∷ [])) (spell m s t [])) [
    | yes c ↦ yes ((conforming_words m f fit s ranges n t p v).1 c)
    | no k ↦ no (λ e. k ((conforming_words m f fit s ranges n t p v).0 e))
  ]

  has_param : (b : Source) (g : ParamId) → Dec (HasParam b g)
  has_param (Written ps list) g = elim (some_member (λ x. x ≡ g) (λ x. params_decided x g) ps) [
    | inl (x, h, e) ↦ yes (subst (λ y. Contains ps y) e h)
    | inr none ↦ no (λ h. none g h refl)
  ]
  has_param (SelfOf p) g = params_decided g self_param

  valid : (t : Term) → Dec (Derivable f s (IsValid t))
  valid (Generic g) = elim (has_param s g) [ yes h ↦ yes (generic h) | no k ↦ no (λ e. k (valid_generic e)) ]
  valid (Member t (Name a)) = elim (valid t) [
    | no k ↦ no (λ e. k (valid_base (Name a) e))
    | yes v ↦ elim (some_member (λ (x : AssociatedType). (x.name ≡ a) × Derivable f s (Requires (Conforms t x.proto)))
        (λ (x : AssociatedType). both_decided (names_decided x.name a) (valid_conforms t v x.proto)) f.associated_types) [
          | inl (x, h, (e, c)) ↦ yes (assoc_name c (subst (λ y. Declares f x.proto y x.assoc) e h))
          | inr none ↦ no (λ e. let (p, d, c, h) = valid_name e in none (record { proto = p; name = a; assoc = d }) h (refl, c))
        ]
  ]
  valid (Member t (Bound d)) = elim (valid t) [
    | no k ↦ no (λ e. k (valid_base (Bound d) e))
    | yes v ↦ elim (some_member (λ (x : AssociatedType). (x.assoc ≡ d) × Derivable f s (Requires (Conforms t x.proto)))
        (λ (x : AssociatedType). both_decided (assocs_decided x.assoc d) (valid_conforms t v x.proto)) f.associated_types) [
          | inl (x, h, (e, c)) ↦ yes (assoc_decl c (subst (λ y. Declares f x.proto x.name y) e h))
          | inr none ↦ no (λ e. let (p, a, c, h) = valid_bound e in none (record { proto = p; name = a; assoc = d }) h (refl, c))
        ]
  ]

  conforms : (t : Term) (p : ProtoId) → Dec (Derivable f s (Requires (Conforms t p)))
  conforms t p = elim (valid t) [ yes v ↦ valid_conforms t v p | no k ↦ no (λ e. k (sides_of e)) ]

  layout : (t : Term) → Dec (Derivable f s (Requires (IsAnyObject t)))
  layout t = elim (valid t) [
    | no k ↦ no (λ e. k (sides_of e))
    | yes v ↦ elim (congruent (spell m s t (LayoutSymbol ∷ [])) (spell m s t [])) [
      | yes c ↦ yes ((layout_words m f fit s ranges n t v).1 c)
      | no k ↦ no (λ e. k ((layout_words m f fit s ranges n t v).0 e))
    ]
  ]

  pub derivable : (st : TermStatement) → Dec (Derivable f s st)
  derivable (IsValid t) = valid t
  derivable (Requires (Conforms t p)) = conforms t p
  derivable (Requires (IsAnyObject t)) = layout t
  derivable (Requires (Equals t u)) = elim (valid t) [
    | no k ↦ no (λ e. k (sides_of e).0)
    | yes v ↦ elim (valid u) [
      | no k ↦ no (λ e. k (sides_of e).1)
      | yes w ↦ elim (congruent (spell m s t []) (spell m s u [])) [
        | yes c ↦ yes ((equal_words m f fit s ranges n t u v w).1 c)
        | no k ↦ no (λ e. k ((equal_words m f fit s ranges n t u v w).0 e))
      ]
    ]
  ]

  -- ---- readings and first associated types

  -- a declared pair with the name, of a protocol to which t conforms
  abbrev Names : Term → NameId → AssociatedType → Type 0
  Names t a x = (x.name ≡ a) × Derivable f s (Requires (Conforms t x.proto))

  names : (t : Term) (a : NameId) (x : AssociatedType) → Dec (Names t a x)
  names t a x = both_decided (names_decided x.name a) (conforms t x.proto)

  pub has_name : (t : Term) (a : NameId) → Dec (HasName f s t a)
  has_name t a = elim (some_member (Names t a) (names t a) f.associated_types) [
    | inl (x, h, (e, c)) ↦ yes (x.proto, x.assoc, c, subst (λ n. Declares f x.proto n x.assoc) e h)
    | inr none ↦ no (λ h. none (record { proto = h.0; name = a; assoc = h.1 }) h.3 (refl, h.2))
  ]

  pub reads : (t : Term) (x : Symbol) → Dec (CanRead m f s t x)
  reads t (ProtoSymbol q) = conforms t (record { rank = q })
  reads t (MemberSymbol k) = elim (dec_lt k (length m.members)) [
    | no j ↦ no (λ h. j h.0)
    | yes l ↦ elim (conforms t (proto_of m k)) [
      | no j ↦ no (λ h. j h.1)
      | yes c ↦ elim (has_name t (name_of m k)) [ yes h ↦ yes (l, c, h) | no j ↦ no (λ h. j h.2) ]
    ]
  ]
  reads t (ParamSymbol e i) = no (λ h. h)
  reads t (NameSymbol a) = has_name t (record { rank = a })
  reads t LayoutSymbol = layout t

  pub firsts : HasFirsts f s
  firsts t a h = elim (least_member (Names t a) (names t a) (λ (x : AssociatedType). x.assoc.rank) f.associated_types) [
    | inl (x, i, (e, c), l) ↦ (
      x.assoc,
      record {
        proto = x.proto;
        declares = subst (λ n. Declares f x.proto n x.assoc) e i;
        conforms = c;
        first = λ q g o y. l (record { proto = q; name = a; assoc = g }) o (refl, y);
      },
    )
    | inr none ↦ absurd (none (record { proto = h.0; name = a; assoc = h.1 }) h.3 (refl, h.2))
  ]
