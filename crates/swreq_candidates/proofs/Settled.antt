-- A canonical conformance or layout is read off a rule of the reduced system, or follows from canonical requirements of earlier types.
use Rattle.std.proofs.Common.{◌≡◌, ◌⊎◌, ◌<◌, ℕ, List, [], ◌∷◌, ◌++◌, length, length-append, append-nil, refl, subst, sym, ◌∙◌, inl, inr, arith}
use Rattle.swreq_canonical.specs.swreq_param.declared.ids.ParamId.{ParamId}
use Rattle.swreq_canonical.specs.swreq_param.declared.ids.ProtoId.{ProtoId}
use Rattle.swreq_canonical.specs.swreq_param.declared.ids.Step.TheVariants.{Bound}
use Rattle.swreq_canonical.specs.swreq_param.Terms.{Term, member_count, self}
use Rattle.swreq_canonical.specs.swreq_param.Terms.Term.{Member}
use Rattle.swreq_canonical.specs.swreq_derive.Derivation.{Derivable, Source, TermFacts, TermRequirement}
use Rattle.swreq_canonical.specs.swreq_derive.Derivation.Derives.{symm, trans}
use Rattle.swreq_canonical.specs.swreq_derive.Derivation.Source.{SelfOf, Written}
use Rattle.swreq_canonical.specs.swreq_derive.Derivation.TermRequirement.{Conforms, Equals, IsAnyObject}
use Rattle.swreq_canonical.specs.swreq_derive.Derivation.TermStatement.{IsValid, Requires}
use Rattle.swreq_canonical.specs.swreq_derive.Reduced.{IsReduced, IsReducedTypeOf}
use Rattle.swreq_canonical.proofs.swreq_derive.ReducedTypes.{reduced_is_one}
use Rattle.swreq_canonical.specs.swreq_word.declared.symbols.Symbol.{Symbol}
use Rattle.swreq_canonical.specs.swreq_word.declared.symbols.Symbol.TheVariants.{Layout as LayoutSymbol, Member as MemberSymbol, Name as NameSymbol, Param as ParamSymbol, Proto as ProtoSymbol}
use Rattle.swreq_canonical.specs.swreq_word.Least.{IsLeast, IsMinimal}
use Rattle.swreq_canonical.proofs.swreq_word.Chains.{joined}
use Rattle.swreq_canonical.proofs.swreq_word.Comparing.{by_length}
use Rattle.swreq_canonical.specs.swreq_correspondence.Equations.{AreCongruent, UsableEquation}
use Rattle.swreq_canonical.specs.swreq_correspondence.Readings.{CanRead, CanReadAll, HasReading}
use Rattle.swreq_canonical.specs.swreq_correspondence.Symbols.{AreOfText, AreSymbolsOf, IsInText, IsRank, Symbols, Word, proto_of, spell}
use Rattle.swreq_canonical.specs.swreq_correspondence.Types.{AreRanked, HasFirsts, IsTypeOf}
use Rattle.swreq_canonical.proofs.swreq_correspondence.Chained.{chained_usable, turn_all}
use Rattle.swreq_canonical.proofs.swreq_correspondence.Correspondence.{to_self}
use Rattle.swreq_canonical.proofs.swreq_correspondence.Orders.{Stands, conf_chain, front, none_less, some_type, type_is_reduced}
use Rattle.swreq_canonical.proofs.swreq_correspondence.Readings.{sides_of}
use Rattle.swreq_canonical.specs.Canonical.{HasReducedTypes, principal}
use Rattle.swreq_canonical.specs.Generators.{Follows}
use Rattle.swreq_canonical.proofs.ReducedLemmas.{reduced_valid}
use Rattle.swreq_canonical.proofs.Sides.{IsOfEarlierType, shorter_is_earlier}
use Rattle.swreq_candidates.specs.Blocks.{AreMembersNamed, Cut, blocks, current}
use Rattle.swreq_candidates.specs.Blocks.Cut.{alone, at_end, on, opened}
use Rattle.swreq_candidates.specs.Blocks.Place.{Inside, Outside}
use Rattle.swreq_candidates.specs.Candidates.{IsCandidate}
use Rattle.swreq_candidates.specs.Completed.{HasLeastWords, IsSymbolOfText, IsWordOfText}
use Rattle.swreq_candidates.proofs.Ends.{layout_least, minimal_end, proto_least}
use Rattle.swreq_candidates.proofs.OneBlock.{one_block}
use Rattle.swreq_candidates.proofs.Parts.{HasTypeAt, Leads, conformance_follows, layout_follows, type_of_part}

pub push_of_text : (m : Symbols) (w : Word) (x : Symbol) → IsWordOfText m w → IsSymbolOfText m x → IsWordOfText m (w ++ (x ∷ []))
push_of_text m [] x h i = (i, tt)
push_of_text m (y ∷ w) x h i = (h.0, push_of_text m w x h.1 i)

-- The symbols are those of the protocols of the text, and the list speaks of no others.
pub record IsOverText (m : Symbols) (f : TermFacts) (ps : List ParamId) (list : List TermRequirement) : Type 0 where
  pub symbols : AreSymbolsOf m f
  pub of_text : AreOfText m f
  pub in_text : IsInText m (Written ps list)
  pub ranked : AreRanked m f

module _ (m : Symbols) (f : TermFacts) (ps : List ParamId) (list : List TermRequirement) (text : IsOverText m f ps list) where
  abbrev L : Source
  L = Written ps list

  abbrev C : Word → Word → Type 0
  C = AreCongruent m f L

  -- ---- words and their types

  -- the word of t may stand for a word of the type t, whatever follows
  pub stands : (t : Term) (u : Word) → IsTypeOf m f L u t → (z : Word) → C (u ++ z) (spell m L t z)
  unfolding Stands
  stands t u h z =
      let (pre, e, w) = front m f ps list text.symbols text.of_text text.in_text text.ranked t [] u h in
      subst (λ x. C (x ++ z) (spell m L t z)) (sym (e ∙ append-nil pre)) (w z)

  pub stands_for : (t : Term) (u : Word) → IsTypeOf m f L u t → C u (spell m L t [])
  stands_for t u h = subst (λ x. C x (spell m L t [])) (append-nil u) (stands t u h [])

  pub equal_spells : (t u : Term) → Derivable f L (Requires (Equals t u)) → (y : Word) → C (spell m L t y) (spell m L u y)
  equal_spells t u e y = (chained_usable m text.symbols text.of_text text.in_text e).2 y

  pub one_reduced : (t u r z : Term) → IsReducedTypeOf f L t r → IsReducedTypeOf f L u z → Derivable f L (Requires (Equals t u)) → r ≡ z
  one_reduced t u r z o q s =
      reduced_is_one f L t r z o (record { equal = trans s q.equal; least = λ w d b. q.least w (trans (symm s) d) b })

  -- a word of a type that is not reduced is not least
  pub not_least : (v r : Term) (w : Word) → IsTypeOf m f L w v → IsReducedTypeOf f L v r → (v ≡ r → ⊥) → IsLeast C w → ⊥
  not_least v r w h q d l =
      d (reduced_is_one f L v v r (type_is_reduced m f ps list text.symbols text.of_text text.in_text text.ranked v v w (sides_of q.equal).0
      (turn_all (stands_for v w h)) l h) q)

  pub member_of_text : (t : Term) (k : ℕ) → CanRead m f L t (MemberSymbol k) → IsSymbolOfText m (MemberSymbol k)
  member_of_text t k c = (c.0, (chained_usable m text.symbols text.of_text text.in_text c.1).0)

  pub leads_of_text : (x z : Term) (w : Word) → Leads m f ps list x w z → IsWordOfText m w
  unfolding Leads
  leads_of_text x z [] l = tt
  leads_of_text x z (MemberSymbol k ∷ w) (d, c, i, l) = (member_of_text x k c, leads_of_text (Member x (Bound d)) z w l)
  leads_of_text x z (ProtoSymbol q ∷ w) l = absurd l
  leads_of_text x z (LayoutSymbol ∷ w) l = absurd l
  leads_of_text x z (ParamSymbol d i ∷ w) l = absurd l
  leads_of_text x z (NameSymbol a ∷ w) l = absurd l

  -- ---- what least words tell

  module _ (least : HasLeastWords (UsableEquation m f L)) (firsts : HasFirsts f L) where
    pub leasts : (w : Word) → Dec (IsLeast C w)
    leasts w = let (v, c, l) = least w in elim (l w (turn_all c)) [
      | inl e ↦ yes (subst (IsLeast C) (sym e) l)
      | inr b ↦ no (λ h. none_less C w v h c b)
    ]

    type_of : (t : Term) → Derivable f L (IsValid t)
        → (r : Term) × IsReducedTypeOf f L t r × ((v : Word) × IsTypeOf m f L v r × IsLeast C v)
    type_of t e =
        let (v, c, l) = least (spell m L t []) in
        let (r, h) = some_type m f ps list text.symbols text.of_text text.in_text text.ranked firsts t v e c l in
        (r, type_is_reduced m f ps list text.symbols text.of_text text.in_text text.ranked t r v e c l h, (v, h, l))

    pub reduce : HasReducedTypes f L
    reduce t e = let (r, h, v) = type_of t e in (r, h)

    pub least_word : (r : Term) → IsReduced f L r → (v : Word) × IsTypeOf m f L v r × IsLeast C v
    least_word r h =
        let (z, k, (v, i, l)) = type_of r (reduced_valid h) in
        (v, subst (λ x. IsTypeOf m f L v x) (one_reduced r r z r k h h.equal) i, l)

  -- ---- minimal words that begin with a member symbol are one block

  module _ (named : AreMembersNamed m f) (cuts : (w : Word) → IsWordOfText m w → Cut m f L Outside w) where
    inner_read : {b : Source} {t : Term} {w : Word} → (r : Cut m f L (Inside b t) w) → blocks r ≡ [] → CanReadAll m f b t w
    inner_read at_end e = tt
    inner_read (on c r) e = (c, inner_read r e)
    inner_read (opened k c r) e = cc
    inner_read (alone k c r) e = cc

    none_later : {X : Type 0} (x y : X) (u : List X) → x ∷ u ≡ y ∷ [] → u ≡ []
    none_later x y u e = cc

    one_block_read : (k : ℕ) (w : Word) → IsRank m k → (c : Cut m f L Outside (MemberSymbol k ∷ w)) → blocks c ≡ (MemberSymbol k ∷ w) ∷ []
        → HasReading m f (SelfOf (proto_of m k)) (MemberSymbol k ∷ w)
    one_block_read k w h (opened o c r) e = (c, inner_read r (none_later (MemberSymbol k ∷ current r) (MemberSymbol k ∷ w) (blocks r) e))
    one_block_read k w h (alone o c r) e = absurd (c (refl, h, named k h))

    pub minimal_read : (k : ℕ) (w : Word) → IsWordOfText m (MemberSymbol k ∷ w) → IsMinimal C (MemberSymbol k ∷ w)
        → HasReading m f (SelfOf (proto_of m k)) (MemberSymbol k ∷ w)
    minimal_read k w h l =
        let c : Cut m f L Outside (MemberSymbol k ∷ w) = cuts (MemberSymbol k ∷ w) h in
        one_block_read k w h.0.0 c (one_block m f ps list text.symbols named (MemberSymbol k ∷ w) c l)

    module _ (least : HasLeastWords (UsableEquation m f L)) (firsts : HasFirsts f L) where
      abbrev pub IsSettled : TermRequirement → Type 0
      IsSettled r = IsCandidate m f L r ⊎ Follows f ps (IsOfEarlierType f ps list (principal r)) (Requires r)

      -- An end of the word begins with a member symbol of P and is read, with x after it, over `[τ_0_0 : P]`.
      abbrev HasMemberEnd : Symbol → Word → Type 0
      HasMemberEnd x u = (before w : Word) × (k : ℕ) × (u ≡ before ++ (MemberSymbol k ∷ w)) × (0 < length before)
          × CanReadAll m f (SelfOf (proto_of m k)) self ((MemberSymbol k ∷ w) ++ (x ∷ []))

      member_end : (x : Symbol) (r : Term) (u before e : Word) → IsSymbolOfText m x → IsLeast C (x ∷ []) → IsTypeOf m f L u r
          → u ≡ before ++ e → 0 < length before
          → IsMinimal C (e ++ (x ∷ [])) → HasMemberEnd x u
      unfolding Leads
      member_end x r u before [] o s h i some l = absurd (l.not_least s)
      member_end x r u before (y ∷ e) o s h i some l = at_symbol y i l (type_of_part m f ps list r u before (y ∷ e) h i some)
        where
          at_symbol : (y : Symbol) → u ≡ before ++ (y ∷ e) → IsMinimal C ((y ∷ e) ++ (x ∷ []))
              → HasTypeAt m f ps list r u (y ∷ e) → HasMemberEnd x u
          at_symbol (MemberSymbol k) i l (t, g, d) =
              let c : HasReading m f (SelfOf (proto_of m k)) (MemberSymbol k ∷ (e ++ (x ∷ [])))
              = minimal_read k (e ++ (x ∷ [])) (push_of_text m (MemberSymbol k ∷ e) x (leads_of_text t r (MemberSymbol k ∷ e) d) o) l in
              (before, e, k, i, some, (to_self m f (proto_of m k) text.symbols (MemberSymbol k ∷ (e ++ (x ∷ []))) c).1)
          at_symbol (ProtoSymbol k) i l (t, g, d) = absurd d
          at_symbol (ParamSymbol k j) i l (t, g, d) = absurd d
          at_symbol (NameSymbol k) i l (t, g, d) = absurd d
          at_symbol LayoutSymbol i l (t, g, d) = absurd d

      -- where a symbol after the least word of a type vanishes
      vanishes : (x : Symbol) (r : Term) (u : Word) → IsSymbolOfText m x → IsLeast C (x ∷ []) → IsTypeOf m f L u r
          → IsLeast C u → C (u ++ (x ∷ [])) u
          → IsMinimal C (u ++ (x ∷ [])) ⊎ HasMemberEnd x u
      vanishes x r u o s h l c = elim (minimal_end (UsableEquation m f L) (leasts least firsts) x u l) [
        | inl k ↦ absurd (none_less C (u ++ (x ∷ [])) u k c (by_length u (u ++ (x ∷ [])) (omega (arith, length-append u (x ∷ [])))))
        | inr (before, e, i, k) ↦ by_front before e i k
      ]
        where
          by_front : (before e : Word) → u ≡ before ++ e → IsMinimal C (e ++ (x ∷ [])) → IsMinimal C (u ++ (x ∷ [])) ⊎ HasMemberEnd x u
          by_front [] e i k = inl (subst (λ w. IsMinimal C (w ++ (x ∷ []))) (sym i) k)
          by_front (y ∷ before) e i k = inr (member_end x r u (y ∷ before) e o s h i (omega arith) k)

      pub conformance_settled : (r : Term) (p : ProtoId) → IsReduced f L r → Derivable f L (Requires (Conforms r p))
          → IsSettled (Conforms r p)
      conformance_settled r p c d =
          let (u, h, l) = least_word least firsts r c in
          let q : C (u ++ (ProtoSymbol p.rank ∷ [])) u
          = joined (stands r u h (ProtoSymbol p.rank ∷ []))
          (joined (conf_chain m f ps list text.symbols text.of_text text.in_text text.ranked r p d []) (turn_all (stands_for r u h))) in
          elim (vanishes (ProtoSymbol p.rank) r u (chained_usable m text.symbols text.of_text text.in_text d).0
          (proto_least m f ps list p) h l q) [
            | inl k ↦ inl (u ++ (ProtoSymbol p.rank ∷ []), u, (k, q, l), (sides_of d, h, refl))
            | inr (before, w, k, i, some, s) ↦ inr (shorter_is_earlier f ps list r (member_count r) (omega arith)
                (conformance_follows m f ps list r p u before w k c h i some s))
          ]

      pub layout_settled : (r : Term) → IsReduced f L r → Derivable f L (Requires (IsAnyObject r)) → IsSettled (IsAnyObject r)
      layout_settled r c d =
          let (u, h, l) = least_word least firsts r c in
          let q : C (u ++ (LayoutSymbol ∷ [])) u = joined (stands r u h (LayoutSymbol ∷ []))
          (joined ((chained_usable m text.symbols text.of_text text.in_text d).1 []) (turn_all (stands_for r u h))) in
          elim (vanishes LayoutSymbol r u tt (layout_least m f ps list) h l q) [
            | inl k ↦ inl (u ++ (LayoutSymbol ∷ []), u, (k, q, l), (sides_of d, h, refl))
            | inr (before, w, k, i, some, s) ↦
                inr (shorter_is_earlier f ps list r (member_count r) (omega arith) (layout_follows m f ps list r u before w k c h i some s))
          ]
