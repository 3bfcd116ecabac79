-- A canonical same-type requirement is read off a rule of the reduced system, or follows from canonical requirements of earlier types.
use Rattle.std.proofs.Common.{◌≡◌, ◌⊎◌, ◌<◌, ◌≤◌, ◌+◌, ℕ, List, [], ◌∷◌, ◌++◌, length, length-append, append-nil, refl, ap, subst, subst₂, sym, inl, inr, arith}
use Rattle.std.specs.declared.cmp.Ordering.TheVariants.{Less}
use Rattle.swreq_canonical.specs.swreq_param.declared.ids.AssocId.{AssocId}
use Rattle.swreq_canonical.specs.swreq_param.declared.ids.NameId.{NameId}
use Rattle.swreq_canonical.specs.swreq_param.declared.ids.ParamId.{ParamId}
use Rattle.swreq_canonical.specs.swreq_param.declared.ids.ProtoId.{ProtoId}
use Rattle.swreq_canonical.specs.swreq_param.declared.ids.Step.TheVariants.{Bound, Name}
use Rattle.swreq_canonical.specs.swreq_param.Order.{TermBefore}
use Rattle.swreq_canonical.specs.swreq_param.Terms.{Term, member_count, self}
use Rattle.swreq_canonical.specs.swreq_param.Terms.Term.{Generic, Member}
use Rattle.swreq_canonical.proofs.swreq_param.TotalOrder.{total, transitive}
use Rattle.swreq_canonical.specs.swreq_derive.Derivation.{Declares, Derivable, Source, TermFacts, TermRequirement, TermStatement}
use Rattle.swreq_canonical.specs.swreq_derive.Derivation.Derives.{assoc_bind, assoc_decl, reflex, same_conf, same_name, symm, trans}
use Rattle.swreq_canonical.specs.swreq_derive.Derivation.Source.{SelfOf, Written}
use Rattle.swreq_canonical.specs.swreq_derive.Derivation.TermRequirement.{Conforms, Equals}
use Rattle.swreq_canonical.specs.swreq_derive.Derivation.TermStatement.{IsValid, Requires}
use Rattle.swreq_canonical.specs.swreq_derive.Reduced.{IsReduced, IsReducedTypeOf}
use Rattle.swreq_canonical.proofs.swreq_derive.Substitution.{stands_for_self}
use Rattle.swreq_canonical.specs.swreq_word.declared.symbols.Symbol.{Symbol}
use Rattle.swreq_canonical.specs.swreq_word.declared.symbols.Symbol.TheVariants.{Layout as LayoutSymbol, Member as MemberSymbol, Name as NameSymbol, Param as ParamSymbol, Proto as ProtoSymbol}
use Rattle.swreq_canonical.specs.swreq_word.Least.{IsLeast, IsMinimal}
use Rattle.swreq_canonical.specs.swreq_word.Order.{WordLess, symbol_cmp}
use Rattle.swreq_canonical.specs.swreq_word.OrderLaws.{nat_less}
use Rattle.swreq_canonical.specs.swreq_word.Relations.Chain.{done}
use Rattle.swreq_canonical.proofs.swreq_word.Chains.{joined}
use Rattle.swreq_canonical.proofs.swreq_word.Comparing.{by_symbols, less_before, less_cases, less_trans}
use Rattle.swreq_canonical.specs.swreq_correspondence.Equations.{AreCongruent, UsableEquation}
use Rattle.swreq_canonical.specs.swreq_correspondence.Readings.{CanRead, CanReadAll, HasName, HasReading, after, read_on}
use Rattle.swreq_canonical.specs.swreq_correspondence.Symbols.{Symbols, Word, name_of, proto_of, spell}
use Rattle.swreq_canonical.specs.swreq_correspondence.Types.{BeginsAs, HasFirsts, IsFirstFor, IsTypeOf}
use Rattle.swreq_canonical.proofs.swreq_correspondence.Chained.{chained_usable, turn_all}
use Rattle.swreq_canonical.proofs.swreq_correspondence.Correspondence.{chain_leads, to_self}
use Rattle.swreq_canonical.proofs.swreq_correspondence.Orders.{Stands, as_name, conf_chain, front, none_less, type_order}
use Rattle.swreq_canonical.proofs.swreq_correspondence.Readings.{read_same, sides_of, valid_reading}
use Rattle.swreq_canonical.specs.Canonical.{HasReducedTypes, principal}
use Rattle.swreq_canonical.specs.Generators.{Follows}
use Rattle.swreq_canonical.proofs.Covering.{follows_in_list}
use Rattle.swreq_canonical.proofs.Following.{by_one, by_two}
use Rattle.swreq_canonical.proofs.ReducedLemmas.{member_before, reduced_valid, result_reduced}
use Rattle.swreq_canonical.proofs.Sides.{IsOfEarlierType, IsShorter, no_longer, shorter_is_earlier, valid_by_shorter}
use Rattle.swreq_canonical.proofs.swreq_correspondence.OneType.{one_assoc}
use Rattle.swreq_candidates.specs.Blocks.{AreMembersNamed, Cut}
use Rattle.swreq_candidates.specs.Blocks.Place.{Outside}
use Rattle.swreq_candidates.specs.Completed.{HasLeastWords, IsWordOfText}
use Rattle.swreq_candidates.proofs.Ends.{minimal_end}
use Rattle.swreq_candidates.proofs.LessParts.{SymbolsLess, less_at, symbols_in_parts}
use Rattle.swreq_candidates.proofs.Parts.{HasTypeAt, Leads, conformance, last_read, leads_longer, part_reduced, read_on-for_self, read_on-push, reads_as, type_of_part}
use Rattle.swreq_candidates.proofs.ReadOver.{chain_over, read_behind}
use Rattle.swreq_canonical.proofs.swreq_param.DecidedIds.{same_name_id}
use Rattle.swreq_candidates.proofs.Settled.{IsOverText, IsSettled, equal_spells, leads_of_text, least_word, leasts, member_of_text, minimal_read, not_least, one_reduced, push_of_text, reduce, stands_for}
use Rattle.swreq_candidates.proofs.ShorterTypes.{principal_follows, shorter_reduces}

-- a word is empty or has a last symbol
pub by_last : (w : Word) → (w ≡ []) ⊎ ((s : Word) × (x : Symbol) × (w ≡ s ++ (x ∷ [])))
by_last [] = inl refl
by_last (x ∷ w) = elim (by_last w) [ inl e ↦ inr ([], x, ap (λ z. x ∷ z) e) | inr (s, y, e) ↦ inr (x ∷ s, y, ap (λ z. x ∷ z) e) ]

no_more_members : (m : Symbols) (t : Term) (w : Word) → member_count (read_on m t w) ≤ member_count t + length w
no_more_members m t [] = omega arith
no_more_members m t (ProtoSymbol p ∷ w) = let h = no_more_members m t w in omega arith
no_more_members m t (MemberSymbol k ∷ w) = let h = no_more_members m (Member t (Name (name_of m k))) w in omega arith
no_more_members m t (ParamSymbol d i ∷ w) = let h = no_more_members m t w in omega arith
no_more_members m t (NameSymbol a ∷ w) = let h = no_more_members m (Member t (Name (record { rank = a }))) w in omega arith
no_more_members m t (LayoutSymbol ∷ w) = let h = no_more_members m t w in omega arith

-- a word that goes on begins as it did
pub begins_on : (m : Symbols) (f : TermFacts) (s : Source) (t : Term) (rest y u : Word) → BeginsAs m f s t rest u
    → BeginsAs m f s t (rest ++ y) (u ++ y)
begins_on m f s (Generic g) rest y u h = ap (λ w. w ++ y) h
begins_on m f s (Member t (Bound d)) rest y u (k, c, i, h) = (k, c, i, begins_on m f s t (MemberSymbol k ∷ rest) y u h)
begins_on m f s (Member t (Name a)) rest y u h = absurd h

module _ (m : Symbols) (f : TermFacts) (ps : List ParamId) (list : List TermRequirement) (text : IsOverText m f ps list) where
  abbrev L : Source
  L = Written ps list

  abbrev C : Word → Word → Type 0
  C = AreCongruent m f L

  -- the word of what is read
  read_spelled : (t : Term) (w : Word) → CanReadAll m f L t w → (z : Word) → C (spell m L t (w ++ z)) (spell m L (read_on m t w) z)
  read_spelled t [] c z = done
  read_spelled t (ProtoSymbol q ∷ w) c z = joined (conf_chain m f ps list text.symbols text.of_text text.in_text text.ranked t
      (record { rank = q }) c.0 (w ++ z)) (read_spelled t w c.1 z)
  read_spelled t (MemberSymbol k ∷ w) c z = joined (as_name m f ps list text.symbols text.of_text text.in_text text.ranked t k c.0 (w ++ z))
      (read_spelled (Member t (Name (name_of m k))) w c.1 z)
  read_spelled t (ParamSymbol d i ∷ w) c z = absurd c.0
  read_spelled t (NameSymbol a ∷ w) c z = read_spelled (Member t (Name (record { rank = a }))) w c.1 z
  read_spelled t (LayoutSymbol ∷ w) c z =
      joined ((chained_usable m text.symbols text.of_text text.in_text c.0).1 (w ++ z)) (read_spelled t w c.1 z)

  module _ (least : HasLeastWords (UsableEquation m f L)) (firsts : HasFirsts f L) where
    reduced_type : HasReducedTypes f L
    reduced_type = reduce m f ps list text least firsts

    -- Let r be a reduced type and u its least word, k the least member symbol of some name that is read after r, v the bound member of r
    -- with the first associated type of that name, and z the reduced type of v.
    module _ (r z : Term) (d : AssocId) (k : ℕ) (i : IsFirstFor f L r (name_of m k) d)
        (c : CanRead m f L r (MemberSymbol k)) (b : IsReduced f L r)
        (q : IsReducedTypeOf f L (Member r (Bound d)) z)
        (none : (j : ℕ) → j < k → CanRead m f L r (MemberSymbol j) → name_of m j ≡ name_of m k → ⊥)
        (u : Word) (hu : IsTypeOf m f L u r) (lu : IsLeast C u) where
      abbrev v : Term
      v = Member r (Bound d)

      abbrev size : ℕ
      size = member_count r + 1

      abbrev IsEarlierType : TermRequirement → Type 0
      IsEarlierType = IsOfEarlierType f ps list v

      abbrev Earlier : TermStatement → Type 0
      Earlier st = Follows f ps IsEarlierType st

      abbrev Shorter : TermStatement → Type 0
      Shorter st = Follows f ps (IsShorter f ps list size) st

      earlier : {st : TermStatement} → Shorter st → Earlier st
      earlier h = shorter_is_earlier f ps list v size (omega arith) h

      -- ---- what equals v equals z by earlier requirements

      shorter_case : (t : Term) → Derivable f L (IsValid t) → member_count t < size → Derivable f L (Requires (Equals v t))
          → Earlier (Requires (Equals t z))
      shorter_case t o l e =
          let (w, p, g) = shorter_reduces f ps list reduced_type size t o l in
          subst (λ y. Earlier (Requires (Equals t y))) (one_reduced m f ps list text t v w z p q (symm e)) (earlier g)

      -- a member by name, where the bound member of the base's reduced type comes before v
      name_case : (t : Term) (a : NameId) → Derivable f L (IsValid t) → HasName f L t a → member_count t < size
          → Derivable f L (Requires (Equals v (Member t (Name a))))
          → ((w : Term) (e : AssocId) → IsReducedTypeOf f L t w → IsFirstFor f L w a e → TermBefore (Member w (Bound e)) v)
          → Earlier (Requires (Equals (Member t (Name a)) z))
      name_case t a o h l s claim =
          let (w, p, g) = shorter_reduces f ps list reduced_type size t o l in
          let le : member_count w ≤ member_count t = no_longer f ps list t w p in
          let (e, ie) = firsts w a (h.0, h.1, same_conf h.2 (symm p.equal), h.3) in
          let bw : IsReduced f L w = result_reduced p in
          let cw : Earlier (Requires (Conforms w ie.proto)) =
          earlier (conformance m f ps list size w ie.proto bw ie.conforms (omega arith)) in
          let (y, yo) = reduced_type (Member w (Bound e)) (assoc_decl ie.conforms ie.declares) in
          let before : TermBefore (Member w (Bound e)) v = claim w e p ie in
          let to : Derivable f L (Requires (Equals (Member t (Name a)) (Member w (Bound e))))
          = trans (same_name ie.conforms p.equal ie.declares) (symm (assoc_bind ie.conforms ie.declares)) in
          let same_z : y ≡ z = one_reduced m f ps list text (Member w (Bound e)) v y z yo q (symm (trans s to)) in
          let last : Earlier (Requires (Equals (Member w (Bound e)) y))
          = principal_follows f ps list IsEarlierType (Member w (Bound e)) y
          (λ x j. (j.0, transitive (principal x) (Member w (Bound e)) v j.1 before)) (λ j. (j, before))
          yo bw (by_one f ps IsEarlierType cw (λ rs x. assoc_decl x ie.declares)) in
          let first : Earlier (Requires (Equals (Member t (Name a)) (Member w (Bound e))))
          = by_two f ps IsEarlierType cw (earlier g) (λ rs x y. trans (same_name x y ie.declares) (symm (assoc_bind x ie.declares))) in
          by_two f ps IsEarlierType first
          (subst (λ x. Earlier (Requires (Equals (Member w (Bound e)) x))) same_z last) (λ rs x y. trans x y)

      -- Where a word is less than the rest of u, what it is read as, after the part of u before that, reduces to a type before r.
      less_word : (x : Term) (e s : Word) → BeginsAs m f L x e u → length s ≡ length e → SymbolsLess s e → CanReadAll m f L x s
          → (w : Term) → IsReducedTypeOf f L (read_on m x s) w → TermBefore w r
      unfolding Stands
      less_word x e s hx len less rd w o =
          let (pre, eu, st) = front m f ps list text.symbols text.of_text text.in_text text.ranked x e u hx in
          let c0 : C (pre ++ s) (spell m L (read_on m x s) [])
          = joined (st s) (subst (λ y. C (spell m L x y) (spell m L (read_on m x s) [])) (append-nil s) (read_spelled x s rd [])) in
          let c1 : C (pre ++ s) (spell m L w []) = joined c0 (equal_spells m f ps list text (read_on m x s) w o.equal []) in
          let l : WordLess (pre ++ s) u = subst (λ y. WordLess (pre ++ s) y) (sym eu) (less_before pre s e (by_symbols s e len less)) in
          elim (total w r) [
            | inl h ↦ h
            | inr (inl j) ↦ absurd (none_less C u (pre ++ s) lu
                (joined (stands_for m f ps list text r u hu) (turn_all (subst (λ y. C (pre ++ s) (spell m L y [])) j c1))) l)
            | inr (inr j) ↦ (let (y, hy, ly) = least_word m f ps list text least firsts w (result_reduced o) in
                absurd (none_less C y (pre ++ s) ly (joined (stands_for m f ps list text w y hy) (turn_all c1))
                (less_trans (pre ++ s) u y l
                (type_order m f ps list text.symbols text.of_text text.in_text text.ranked r w u y hu hy lu ly j))))
          ]

      -- a lesser member symbol that is read after r has an earlier name
      less_symbol : (t : Term) (j : ℕ) → j < k → CanRead m f L t (MemberSymbol j) → Derivable f L (Requires (Equals t r))
          → (w : Term) (e : AssocId) → IsReducedTypeOf f L t w → IsFirstFor f L w (name_of m j) e → TermBefore (Member w (Bound e)) v
      less_symbol t j l cj s w e o ie =
          let wr : w ≡ r = one_reduced m f ps list text t r w r o b s in
          let neq : (name_of m j).rank ≡ (name_of m k).rank → ⊥ =
          λ h. none j l (read_same m f L t r (MemberSymbol j) s cj).0 (same_name_id h) in
          let le : (name_of m j).rank ≤ (name_of m k).rank = text.ranked.symbols j k l c.0 in
          let not_after : d.rank < e.rank → ⊥ = λ h.
          let y : (name_of m k).rank ≤ (name_of m j).rank =
          text.ranked.assocs i.proto (name_of m k) d ie.proto (name_of m j) e i.declares ie.declares h in neq (omega arith) in
          let not_same : e.rank ≡ d.rank → ⊥ = λ h. neq (ap (λ (y : NameId). y.rank)
          (text.ranked.one_name ie.proto (name_of m j) i.proto (name_of m k) d
          (subst (λ y. Declares f ie.proto (name_of m j) y) (one_assoc h) ie.declares) i.declares)) in
          let before : e.rank < d.rank = omega arith in
          subst (λ y. TermBefore (Member y (Bound e)) v) (sym wr) (inr (refl, inr (refl, before)))

      -- the last symbol of a word, after what reduces to a type before r, and after what equals r
      behind_earlier : (t : Term) (x : Symbol) → Derivable f L (IsValid t) → member_count t < size → CanRead m f L t x
          → Derivable f L (Requires (Equals v (after m t x)))
          → ((w : Term) → IsReducedTypeOf f L t w → TermBefore w r) → Earlier (Requires (Equals (after m t x) z))
      behind_earlier t (ProtoSymbol p) o l h s claim = shorter_case t o l s
      behind_earlier t LayoutSymbol o l h s claim = shorter_case t o l s
      behind_earlier t (ParamSymbol p j) o l h s claim = absurd h
      behind_earlier t (NameSymbol a) o l h s claim =
          name_case t (record { rank = a }) o h l s (λ w e p ie. member_before w r (Bound e) (Bound d) (claim w p))
      behind_earlier t (MemberSymbol j) o l h s claim =
          name_case t (name_of m j) o h.2 l s (λ w e p ie. member_before w r (Bound e) (Bound d) (claim w p))

      behind_equal : (t : Term) (x : Symbol) → Derivable f L (IsValid t) → member_count t < size → CanRead m f L t x
          → Derivable f L (Requires (Equals v (after m t x)))
          → Derivable f L (Requires (Equals t r)) → symbol_cmp x (MemberSymbol k) ≡ Less → Earlier (Requires (Equals (after m t x) z))
      behind_equal t (ProtoSymbol p) o l h s e y = shorter_case t o l s
      behind_equal t LayoutSymbol o l h s e y = shorter_case t o l s
      behind_equal t (ParamSymbol p j) o l h s e y = absurd h
      behind_equal t (NameSymbol a) o l h s e y = cc
      behind_equal t (MemberSymbol j) o l h s e y = name_case t (name_of m j) o h.2 l s (less_symbol t j (nat_less j k y) h e)

      -- what a word is read as, after x, where it is less than the rest of u and then k
      less_case : (x : Term) (e s : Word) (y : Symbol) → BeginsAs m f L x e u → Leads m f ps list x e r → Derivable f L (IsValid x)
          → CanReadAll m f L x (s ++ (y ∷ [])) → WordLess (s ++ (y ∷ [])) (e ++ (MemberSymbol k ∷ []))
          → Derivable f L (Requires (Equals v (read_on m x (s ++ (y ∷ []))))) → Derivable f L (Requires (Equals (read_on m x e) r))
          → Earlier (Requires (Equals (read_on m x (s ++ (y ∷ []))) z))
      less_case x e s y hx lead vx rd less g1 g2 = elim (less_cases (s ++ (y ∷ [])) (e ++ (MemberSymbol k ∷ [])) less) [
        | inl h ↦ (let a : member_count (read_on m x (s ++ (y ∷ []))) ≤ member_count x + length (s ++ (y ∷ [])) =
            no_more_members m x (s ++ (y ∷ [])) in
            shorter_case (read_on m x (s ++ (y ∷ []))) (sides_of g1).1 (omega (arith, o, length-append e (MemberSymbol k ∷ []))) g1)
        | inr (len, h) ↦ same_length (omega (arith, len, length-append e (MemberSymbol k ∷ []), length-append s (y ∷ []))) h
      ]
        where
          o : member_count r ≡ member_count x + length e
          o = leads_longer m f ps list x r e lead

          same_length : length s ≡ length e → SymbolsLess (s ++ (y ∷ [])) (e ++ (MemberSymbol k ∷ []))
              → Earlier (Requires (Equals (read_on m x (s ++ (y ∷ []))) z))
          same_length len h =
              let (rs, ry) = last_read m f L x s y rd in
              let vt : Derivable f L (IsValid (read_on m x s)) = valid_reading m f L x s vx rs in
              let a : member_count (read_on m x s) ≤ member_count x + length s = no_more_members m x s in
              let p : member_count r ≡ member_count x + length e = o in
              let eq : read_on m x (s ++ (y ∷ [])) ≡ after m (read_on m x s) y = read_on-push m x s y in
              let g3 : Derivable f L (Requires (Equals v (after m (read_on m x s) y))) =
              subst (λ t. Derivable f L (Requires (Equals v t))) eq g1 in
              subst (λ t. Earlier (Requires (Equals t z))) (sym eq)
              (elim (symbols_in_parts s e (y ∷ []) (MemberSymbol k ∷ []) len h) [
                | inl j ↦ behind_earlier (read_on m x s) y vt (omega arith) ry g3 (less_word x e s hx len j rs)
                | inr (es, j) ↦ elim (less_at y (MemberSymbol k) [] [] j) [
                  | inl w ↦ behind_equal (read_on m x s) y vt (omega arith) ry g3
                      (subst (λ t. Derivable f L (Requires (Equals (read_on m x t) r))) (sym es) g2) w
                  | inr w ↦ (let none_left = w.1 in cc)
                ]
              ])

      module _ (named : AreMembersNamed m f) (cuts : (w : Word) → IsWordOfText m w → Cut m f L Outside w) where
        -- The end e of u and then k are minimal, and begin with a member symbol j that is read after x.
        end_follows : (x : Term) (e : Word) (j : ℕ) (w : Word) → BeginsAs m f L x e u → Leads m f ps list x e r
            → e ++ (MemberSymbol k ∷ []) ≡ MemberSymbol j ∷ w
            → CanRead m f L x (MemberSymbol j) → IsReduced f L x → IsMinimal C (e ++ (MemberSymbol k ∷ []))
            → Earlier (Requires (Equals z v))
        end_follows x e j w hx lead eq cj bx minimal =
            let o : member_count r ≡ member_count x + length e = leads_longer m f ps list x r e lead in
            let whole : Word = e ++ (MemberSymbol k ∷ []) in
            let P : ProtoId = proto_of m j in
            let of_text : IsWordOfText m whole
            = push_of_text m e (MemberSymbol k) (leads_of_text m f ps list text x r e lead) (member_of_text m f ps list text r k c) in
            let rd : HasReading m f (SelfOf P) whole
            = subst (λ y. HasReading m f (SelfOf P) y) (sym eq) (minimal_read m f ps list text named cuts j w
            (subst (λ y. IsWordOfText m y) eq of_text) (subst (λ y. IsMinimal C y) eq minimal)) in
            let (s, c0, ls) = least whole in
            let less : WordLess s whole =
            elim (ls whole (turn_all c0)) [ inl h ↦ absurd (minimal.not_least (subst (IsLeast C) (sym h) ls)) | inr h ↦ h ] in
            let (rs, g) = chain_leads m f text.symbols (SelfOf P) (chain_over m f ps list text.symbols P c0 rd) rd in
            let (_, _, a1) = to_self m f P text.symbols whole rd in
            let (_, rs1, a2) = to_self m f P text.symbols s rs in
            let gs : Derivable f (SelfOf P) (Requires (Equals (read_on m self whole) (read_on m self s)))
            = subst₂ (λ y y'. Derivable f (SelfOf P) (Requires (Equals y y'))) a1 a2 g in
            let rx : CanReadAll m f L x s = read_behind m f ps list text.symbols x P cj.1 self s rs1 in
            let al : Shorter (Requires (Equals (read_on m x e) r))
            = reads_as m f ps list size x r x e lead b (omega arith)
            (by_one f ps (IsShorter f ps list size) (valid_by_shorter f ps list size x bx (omega arith)) (λ rs v. reflex v)) in
            let read_whole : read_on m x whole ≡ Member (read_on m x e) (Name (name_of m k)) = read_on-push m x e (MemberSymbol k) in
            let s1 : Shorter (Requires (Equals v (read_on m x whole)))
            = subst (λ y. Shorter (Requires (Equals v y))) (sym read_whole)
            (by_two f ps (IsShorter f ps list size) (conformance m f ps list size r i.proto b i.conforms (omega arith)) al
            (λ rs h y. trans (assoc_bind h i.declares) (symm (same_name h y i.declares)))) in
            let s2 : Shorter (Requires (Equals (read_on m x whole) (read_on m x s)))
            = by_one f ps (IsShorter f ps list size) (conformance m f ps list size x P bx cj.1 (omega arith))
            (λ rs h. subst₂ (λ y y'. Derivable f (Written ps rs) (Requires (Equals y y'))) (read_on-for_self m x self whole)
            (read_on-for_self m x self s)
            (stands_for_self f (Written ps rs) x P (Requires (Equals (read_on m self whole) (read_on m self s))) h gs)) in
            let s3 : Shorter (Requires (Equals v (read_on m x s))) = by_two f ps (IsShorter f ps list size) s1 s2 (λ rs h y. trans h y) in
            by_two f ps IsEarlierType (earlier s3) (by_end s rs less rx (holds s3) (holds al)) (λ rs h y. symm (trans h y))
          where
            holds : {st : TermStatement} → Shorter st → Derivable f L st
            holds {st = st} h = follows_in_list f ps list (IsShorter f ps list size) st (λ x o. o.0) h

            by_end : (s : Word) → HasReading m f (SelfOf (proto_of m j)) s → WordLess s (e ++ (MemberSymbol k ∷ [])) → CanReadAll m f L x s
                → Derivable f L (Requires (Equals v (read_on m x s))) → Derivable f L (Requires (Equals (read_on m x e) r))
                → Earlier (Requires (Equals (read_on m x s) z))
            by_end s rs less rx g1 g2 = elim (by_last s) [
              | inl h ↦ absurd (subst (λ y. HasReading m f (SelfOf (proto_of m j)) y) h rs)
              | inr (t, y, h) ↦ subst (λ w. Earlier (Requires (Equals (read_on m x w) z))) (sym h)
                  (less_case x e t y hx lead (reduced_valid bx) (subst (λ w. CanReadAll m f L x w) h rx)
                  (subst (λ w. WordLess w (e ++ (MemberSymbol k ∷ []))) h less)
                  (subst (λ w. Derivable f L (Requires (Equals v (read_on m x w)))) h g1) g2)
            ]

        -- [z == v] is read off a rule, or follows
        pub first_settled : (v ≡ z → ⊥) → IsSettled m f ps list text named cuts least firsts (Equals z v)
        unfolding Leads
        first_settled differ = elim (minimal_end (UsableEquation m f L) (leasts m f ps list text least firsts) (MemberSymbol k) u lu) [
          | inl h ↦ absurd (not_least m f ps list text v z (u ++ (MemberSymbol k ∷ [])) typed q differ h)
          | inr (before, e, h, l) ↦ by_front before e h l
        ]
          where
            typed : IsTypeOf m f L (u ++ (MemberSymbol k ∷ [])) v
            typed = (k, c, i, begins_on m f L r [] (MemberSymbol k ∷ []) u hu)

            at_symbol : (x : Symbol) (e : Word) → IsMinimal C ((x ∷ e) ++ (MemberSymbol k ∷ [])) → HasTypeAt m f ps list r u (x ∷ e)
                → IsSettled m f ps list text named cuts least firsts (Equals z v)
            at_symbol (MemberSymbol j) e l (t, ht, ld) =
                inr (end_follows t (MemberSymbol j ∷ e) j (e ++ (MemberSymbol k ∷ [])) ht ld refl ld.1
                (part_reduced m f ps list t r (MemberSymbol j ∷ e) ld b) l)
            at_symbol (ProtoSymbol j) e l (t, ht, ld) = absurd ld
            at_symbol (ParamSymbol j y) e l (t, ht, ld) = absurd ld
            at_symbol (NameSymbol j) e l (t, ht, ld) = absurd ld
            at_symbol LayoutSymbol e l (t, ht, ld) = absurd ld

            by_front : (before e : Word) → u ≡ before ++ e → IsMinimal C (e ++ (MemberSymbol k ∷ []))
                → IsSettled m f ps list text named cuts least firsts (Equals z v)
            by_front [] e h l =
                let (y, hy, ly) = least_word m f ps list text least firsts z (result_reduced q) in
                inl (
                  u ++ (MemberSymbol k ∷ []),
                  y,
                  (
                    subst (λ w. IsMinimal C (w ++ (MemberSymbol k ∷ []))) (sym h) l,
                    joined (stands_for m f ps list text v (u ++ (MemberSymbol k ∷ [])) typed)
                        (joined (equal_spells m f ps list text v z q.equal []) (turn_all (stands_for m f ps list text z y hy))),
                    ly,
                  ),
                  (
                    (sides_of q.equal).1,
                    (sides_of q.equal).0,
                    (λ e. differ (sym e)),
                    hy,
                    (u, MemberSymbol k, name_of m k, refl, hu, (c.0, refl), i),
                  ),
                )
            by_front (g ∷ before) [] h l = inr (end_follows r [] k [] hu refl refl c b l)
            by_front (g ∷ before) (x ∷ e) h l = at_symbol x e l (type_of_part m f ps list r u (g ∷ before) (x ∷ e) hu h (omega arith))
