-- Least words and their types are ordered alike, and the type of a least word is the reduced type.
use Rattle.std.proofs.Common.{◌≡◌, ℕ, suc, ◌+◌, ◌<◌, ◌≤◌, List, [], ◌∷◌, ◌++◌, length, append_assoc, refl, ap, subst, subst₂, sym, ◌∙◌, inl, inr, arith}
use Rattle.std.specs.declared.cmp.Ordering.TheVariants.{Less}
use Rattle.std.specs.Cmp.Lexicographic.{slice_cmp}
use Rattle.std.proofs.lemmas.Cmp.{nat_cmp_total, tied_itself}
use Rattle.swreq_derive.specs.Derivation.{Declares, Derivable, Source, TermFacts, TermRequirement, HasParam}
use Rattle.swreq_derive.specs.Derivation.Derives.{assoc_bind, generic, reflex, symm, trans}
use Rattle.swreq_derive.specs.Derivation.Source.{Written}
use Rattle.swreq_derive.specs.Derivation.TermRequirement.{Conforms, Equals}
use Rattle.swreq_derive.specs.Derivation.TermStatement.{IsValid, Requires}
use Rattle.swreq_derive.specs.Reduced.{IsReducedTypeOf}
use Rattle.swreq_derive.proofs.swreq_param.TotalOrder.{total}
use Rattle.swreq_derive.specs.swreq_param.Order.{AlikeBefore, ParamBefore, TermBefore}
use Rattle.swreq_derive.specs.swreq_param.Terms.{Term, head, member_count}
use Rattle.swreq_derive.specs.swreq_param.Terms.Term.{Generic, Member}
use Rattle.swreq_derive.specs.swreq_param.declared.ids.AssocId.{AssocId}
use Rattle.swreq_derive.specs.swreq_param.declared.ids.NameId.{NameId}
use Rattle.swreq_derive.specs.swreq_param.declared.ids.ParamId.{ParamId}
use Rattle.swreq_derive.specs.swreq_param.declared.ids.ProtoId.{ProtoId}
use Rattle.swreq_derive.specs.swreq_param.declared.ids.Step.TheVariants.{Bound, Name}
use Rattle.swreq_correspondence.proofs.Chained.{chained_usable, member_link, turn, turn_all, within}
use Rattle.swreq_correspondence.proofs.Correspondence.{chain_leads, equal_words, word_is_read}
use Rattle.swreq_correspondence.proofs.OneType.{typed_length}
use Rattle.swreq_correspondence.proofs.Readings.{read_same, sides_of, valid_after, valid_base, valid_bound}
use Rattle.swreq_correspondence.specs.Types.{AreRanked, BeginsAs, IsFirstFor, IsTypeOf}
use Rattle.swreq_correspondence.specs.Equations.{AreCongruent}
use Rattle.swreq_correspondence.specs.Equations.Equation.{member}
use Rattle.swreq_correspondence.specs.Equations.Link.{back}
use Rattle.swreq_correspondence.specs.Readings.{CanRead, CanReadAll, HasName, HasReading, read_on, reading}
use Rattle.swreq_correspondence.specs.Symbols.{AreOfText, AreSymbolsOf, IsInText, IsRank, Symbols, Word, name_of, proto_of, spell, steps, symbol}
use Rattle.swreq_word.proofs.Chains.{at_once, joined}
use Rattle.swreq_word.proofs.Comparing.{by_length, by_symbols, nat_cmp_less, not_below_itself, not_both_below}
use Rattle.swreq_word.specs.Least.{IsLeast}
use Rattle.swreq_word.specs.Order.{WordLess, symbol_cmp}
use Rattle.swreq_word.specs.OrderLaws.{symbol_total}
use Rattle.swreq_word.specs.Relations.Chain.{done, more}
use Rattle.swreq_word.specs.declared.symbols.Symbol.{Symbol}
use Rattle.swreq_word.specs.declared.symbols.Symbol.TheVariants.{Layout as LayoutSymbol, Member as MemberSymbol, Name as NameSymbol, Param as ParamSymbol, Proto as ProtoSymbol}

-- symbols from the left
abbrev Lex : Word → Word → Type 0
Lex u v = slice_cmp symbol_cmp u v ≡ Less

lex_at : (pre : Word) (x y : Symbol) (w w' : Word) → symbol_cmp x y ≡ Less → Lex (pre ++ (x ∷ w)) (pre ++ (y ∷ w'))
lex_at [] x y w w' h = rw h refl
lex_at (a ∷ pre) x y w w' h = rw (tied_itself symbol_total a) (lex_at pre x y w w' h)

same_length : (pre : Word) (x y : Symbol) (w w' : Word) → length w ≡ length w' → length (pre ++ (x ∷ w)) ≡ length (pre ++ (y ∷ w'))
same_length [] x y w w' h = ap suc h
same_length (a ∷ pre) x y w w' h = ap suc (same_length pre x y w w' h)

before_member : (k j : ℕ) → k < j → symbol_cmp (MemberSymbol k) (MemberSymbol j) ≡ Less
before_member k j h = nat_cmp_less k j h

before_param : (i j : ParamId) → ParamBefore i j → symbol_cmp (ParamSymbol i.depth i.index) (ParamSymbol j.depth j.index) ≡ Less
before_param i j (inl h) = rw (nat_cmp_less i.depth j.depth h) refl
before_param i j (inr (e, h)) = rw (e, tied_itself nat_cmp_total j.depth) (nat_cmp_less i.index j.index h)

-- a least word has no lesser one in its class
pub none_less : (Class : Word → Word → Type 0) (u v : Word) → IsLeast Class u → Class u v → WordLess v u → ⊥
none_less Class u v l c h = elim (l v c) [
  | inl e ↦ not_below_itself u (subst (λ w. WordLess w u) e h)
  | inr k ↦ not_both_below u v k h
]

-- a list of a function
module _ (m : Symbols) (f : TermFacts) (ps : List ParamId) (ms : List TermRequirement) (fit : AreSymbolsOf m f) (ranges : AreOfText m f)
    (n : IsInText m (Written ps ms)) (ranked : AreRanked m f) where
  abbrev L : Source
  L = Written ps ms

  abbrev C : Word → Word → Type 0
  C u v = AreCongruent m f L u v

  abbrev Least : Word → Type 0
  Least u = IsLeast C u

  pub conf_chain : (t : Term) (p : ProtoId) → Derivable f L (Requires (Conforms t p)) → (y : Word)
      → C (spell m L t (ProtoSymbol p.rank ∷ y)) (spell m L t y)
  conf_chain t p e y = (chained_usable m fit ranges n e).2 y

  -- a member symbol that is read is as good as its name
  pub as_name : (t : Term) (k : ℕ) → CanRead m f L t (MemberSymbol k) → (y : Word)
      → C (spell m L t (MemberSymbol k ∷ y)) (spell m L t (NameSymbol (name_of m k).rank ∷ y))
  as_name t k c y = more (within t (back y (member k c.0))) (conf_chain t (proto_of m k) c.1 (NameSymbol (name_of m k).rank ∷ y))

  -- pre is as good as the word of t
  unfoldable pub Stands : Word → Term → Type 0
  Stands pre t = (z : Word) → C (pre ++ z) (spell m L t z)

  stands_on : (pre : Word) (t : Term) (k : ℕ) (d : AssocId) → Stands pre t → CanRead m f L t (MemberSymbol k)
      → IsFirstFor f L t (name_of m k) d
      → Stands (pre ++ (MemberSymbol k ∷ [])) (Member t (Bound d))
  unfolding Stands
  stands_on pre t k d w c i = λ z.
      subst (λ v. C v (spell m L (Member t (Bound d)) z)) (sym (append_assoc pre (MemberSymbol k ∷ []) z))
      (joined (w (MemberSymbol k ∷ z))
      (joined (as_name t k c z) (joined (turn_all (conf_chain t i.proto i.conforms (NameSymbol (name_of m k).rank ∷ z)))
      (at_once (turn (within t (member_link f i.proto (name_of m k) d z fit i.declares)))))))

  pub front : (t : Term) (rest u : Word) → BeginsAs m f L t rest u → (pre : Word) × (u ≡ pre ++ rest) × Stands pre t
  unfolding Stands
  front (Generic i) rest u h = (ParamSymbol i.depth i.index ∷ [], h, λ z. done)
  front (Member t (Name a)) rest u h = absurd h
  front (Member t (Bound d)) rest u (k, c, i, h) =
      let (pre, e, w) = front t (MemberSymbol k ∷ rest) u h in
      (pre ++ (MemberSymbol k ∷ []), e ∙ sym (append_assoc pre (MemberSymbol k ∷ []) rest), stands_on pre t k d w c i)

  -- two member symbols with one name, read after the same type
  alike : (pre : Word) (t : Term) (k j : ℕ) (rest : Word) → Stands pre t → CanRead m f L t (MemberSymbol k)
      → CanRead m f L t (MemberSymbol j)
      → name_of m k ≡ name_of m j → C (pre ++ (MemberSymbol k ∷ rest)) (pre ++ (MemberSymbol j ∷ rest))
  unfolding Stands
  alike pre t k j rest w c d e =
      joined (w (MemberSymbol k ∷ rest)) (joined (as_name t k c rest)
      (subst (λ a. C (spell m L t (NameSymbol a.rank ∷ rest)) (pre ++ (MemberSymbol j ∷ rest))) (sym e)
      (turn_all (joined (w (MemberSymbol j ∷ rest)) (as_name t j d rest)))))

  -- in a least word the member symbol is the least with its name
  none_smaller : (pre : Word) (t : Term) (k j : ℕ) (rest : Word) → Stands pre t → Least (pre ++ (MemberSymbol k ∷ rest))
      → CanRead m f L t (MemberSymbol k) → CanRead m f L t (MemberSymbol j) → name_of m k ≡ name_of m j → j < k → ⊥
  none_smaller pre t k j rest w l c d e h =
      none_less C _ _ l (alike pre t k j rest w c d e)
      (by_symbols _ _ (same_length pre (MemberSymbol j) (MemberSymbol k) rest rest refl)
      (lex_at pre (MemberSymbol j) (MemberSymbol k) rest rest (before_member j k h)))

  -- the words of one type, at the fronts of least words, are one
  same_front : (t : Term) (rest rest' u v : Word) → BeginsAs m f L t rest u → BeginsAs m f L t rest' v → Least u → Least v
      → (pre : Word) × (u ≡ pre ++ rest) × (v ≡ pre ++ rest') × Stands pre t
  unfolding Stands
  same_front (Generic i) rest rest' u v h h' l l' = (ParamSymbol i.depth i.index ∷ [], h, h', λ z. done)
  same_front (Member t (Name a)) rest rest' u v h h' l l' = absurd h
  same_front (Member t (Bound d)) rest rest' u v (k, c, i, h) (k', c', i', h') l l' =
      let (pre, e, e', w) = same_front t (MemberSymbol k ∷ rest) (MemberSymbol k' ∷ rest') u v h h' l l' in
      let a : name_of m k ≡ name_of m k' = ranked.one_name i.proto (name_of m k) i'.proto (name_of m k') d i.declares i'.declares in
      let z : k' < k → ⊥ = none_smaller pre t k k' rest w (subst (λ x. Least x) e l) c c' a in
      let z' : k < k' → ⊥ = none_smaller pre t k' k rest' w (subst (λ x. Least x) e' l') c' c (sym a) in
      let q : k' ≡ k = omega arith in (
        pre ++ (MemberSymbol k ∷ []),
        e ∙ sym (append_assoc pre (MemberSymbol k ∷ []) rest),
        e' ∙ (ap (λ x. pre ++ (MemberSymbol x ∷ rest')) q ∙ sym (append_assoc pre (MemberSymbol k ∷ []) rest')),
        stands_on pre t k d w c i,
      )

  name_less : (t : Term) (p : ProtoId) (a : NameId) (d : AssocId) (b : NameId) (e : AssocId) → Declares f p a d
      → Derivable f L (Requires (Conforms t p)) → IsFirstFor f L t b e → d.rank < e.rank → a.rank < b.rank
  name_less t p a d b e k c i h =
      let x : a.rank ≤ b.rank = ranked.assocs p a d i.proto b e k i.declares h in
      let y : a.rank ≡ b.rank → ⊥ =
      λ q. let z : e.rank ≤ d.rank = i.first p d (subst (λ c. Declares f p c d) (λ j. record { rank = q j }) k) c in omega arith in
      omega arith

  symbol_less : (k j : ℕ) → IsRank m k → (name_of m k).rank < (name_of m j).rank → k < j
  symbol_less k j o h =
      let x : j < k → ⊥ = λ q. let z : (name_of m j).rank ≤ (name_of m k).rank = ranked.symbols j k q o in omega arith in
      let y : k ≡ j → ⊥ = λ q. let z : (name_of m k).rank ≡ (name_of m j).rank = ap (λ i. (name_of m i).rank) q in omega arith in
      omega arith

  -- what comes before by type comes before by word
  bases_lex : (t t' : Term) (rest rest' u v : Word) → BeginsAs m f L t rest u → BeginsAs m f L t' rest' v → Least u → Least v
      → AlikeBefore t t' → Lex u v
  bases_lex (Generic i) (Generic j) rest rest' u v h h' l l' b =
      subst₂ Lex (sym h) (sym h') (lex_at [] (ParamSymbol i.depth i.index) (ParamSymbol j.depth j.index) rest rest' (before_param i j b))
  bases_lex (Generic i) (Member t' y) rest rest' u v h h' l l' b = absurd b
  bases_lex (Member t x) (Generic j) rest rest' u v h h' l l' b = absurd b
  bases_lex (Member t (Name a)) (Member t' y) rest rest' u v h h' l l' b = absurd h
  bases_lex (Member t (Bound d)) (Member t' (Name a)) rest rest' u v h h' l l' b = absurd h'
  bases_lex (Member t (Bound d)) (Member t' (Bound d')) rest rest' u v (k, c, i, h) (k', c', i', h') l l' (inl b) =
      bases_lex t t' (MemberSymbol k ∷ rest) (MemberSymbol k' ∷ rest') u v h h' l l' b
  bases_lex (Member t (Bound d)) (Member t' (Bound d')) rest rest' u v (k, c, i, h) (k', c', i', h') l l' (inr b) =
      let h'' : BeginsAs m f L t (MemberSymbol k' ∷ rest') v = subst (λ x. BeginsAs m f L x (MemberSymbol k' ∷ rest') v) (sym b.0) h' in
      let (pre, e, e', w) = same_front t (MemberSymbol k ∷ rest) (MemberSymbol k' ∷ rest') u v h h'' l l' in
      subst₂ Lex (sym e) (sym e') (lex_at pre (MemberSymbol k) (MemberSymbol k') rest rest' (before_member k k'
      (symbol_less k k' c.0 (name_less t i.proto (name_of m k) d (name_of m k') d' i.declares i.conforms
      (subst (λ x. IsFirstFor f L x (name_of m k') d') (sym b.0) i') b.1))))

  -- A type parameter whose word is congruent to a least word does not come before its type.
  none_before : (t : Term) (w : Term) (rest z u : Word) → BeginsAs m f L t rest u → Least u
      → Derivable f L (IsValid w) → C u (spell m L w z)
      → length z ≡ length rest → AlikeBefore w t → ⊥
  unfolding Stands
  none_before (Generic i) (Generic j) rest z u h l v c g b =
      none_less C _ _ l c (subst (λ x. WordLess (ParamSymbol j.depth j.index ∷ z) x) (sym h)
      (by_symbols (ParamSymbol j.depth j.index ∷ z) (ParamSymbol i.depth i.index ∷ rest) (ap suc g)
      (lex_at [] (ParamSymbol j.depth j.index) (ParamSymbol i.depth i.index) z rest (before_param j i b))))
  none_before (Generic i) (Member w y) rest z u h l v c g b = b
  none_before (Member t (Name a)) w rest z u h l v c g b = absurd h
  none_before (Member t (Bound d)) (Generic j) rest z u h l v c g b = b
  none_before (Member t (Bound d)) (Member w y) rest z u (k, c, i, h) l v r g (inl b) =
      none_before t w (MemberSymbol k ∷ rest) (symbol m y ∷ z) u h l (valid_base y v) r (ap suc g) b
  none_before (Member t (Bound d)) (Member w (Name a)) rest z u (k, c, i, h) l v r g (inr b) = b.1
  none_before (Member t (Bound d)) (Member w (Bound e)) rest z u (k, c, i, h) l v r g (inr b) =
      let (pre, q, s) = front t (MemberSymbol k ∷ rest) u h in
      let (p, a, o, o') = valid_bound v in
      let x : a.rank < (name_of m k).rank =
      name_less t p a e (name_of m k) d o' (subst (λ x. Derivable f L (Requires (Conforms x p))) b.0 o) i b.1 in
      let y : (name_of m (m.rank_of e)).rank ≡ a.rank = ap (λ z. z.rank) (fit p a e o').2 in
      let y' : (name_of m (m.rank_of e)).rank < (name_of m k).rank = omega arith in
      let r' : C u (pre ++ (MemberSymbol (m.rank_of e) ∷ z)) =
      joined (subst (λ x. C u (spell m L x (MemberSymbol (m.rank_of e) ∷ z))) b.0 r) (turn_all (s (MemberSymbol (m.rank_of e) ∷ z))) in
      none_less C _ _ l r'
      (subst (λ x. WordLess (pre ++ (MemberSymbol (m.rank_of e) ∷ z)) x) (sym q)
      (by_symbols _ _ (same_length pre (MemberSymbol (m.rank_of e)) (MemberSymbol k) z rest g)
      (lex_at pre (MemberSymbol (m.rank_of e)) (MemberSymbol k) z rest
      (before_member (m.rank_of e) k (symbol_less (m.rank_of e) k (fit p a e o').0 y')))))

  steps_length : (w : Term) (z : Word) → length (steps m w z) ≡ member_count w + length z
  steps_length (Generic i) z = omega arith
  steps_length (Member w x) z = let y = steps_length w (symbol m x ∷ z) in omega arith

  -- the type of a least word comes before no type parameter that is derivably equal to it, nor after one
  pub type_is_least : (t w : Term) (u : Word) → BeginsAs m f L t [] u → Least u → Derivable f L (IsValid w)
      → C u (spell m L w []) → TermBefore w t → ⊥
  type_is_least t w u h l v c (inl b) =
      let x = typed_length m f L t [] u h in
      let y = steps_length w [] in
      none_less C u (spell m L w []) l c (by_length (spell m L w []) u (omega arith))
  type_is_least t w u h l v c (inr b) = none_before t w [] [] u h l v c refl b.1

  -- the order of types is the order of words
  pub type_order : (t t' : Term) (u v : Word) → BeginsAs m f L t [] u → BeginsAs m f L t' [] v → Least u → Least v
      → TermBefore t t' → WordLess u v
  type_order t t' u v h h' l l' (inl b) =
      let x = typed_length m f L t [] u h in
      let y = typed_length m f L t' [] v h' in
      by_length u v (omega arith)
  type_order t t' u v h h' l l' (inr b) =
      let x = typed_length m f L t [] u h in
      let y = typed_length m f L t' [] v h' in
      by_symbols u v (omega arith) (bases_lex t t' [] [] u v h h' l l' b.1)

  -- least words of one type are one
  one_word : (t : Term) (u v : Word) → IsTypeOf m f L u t → IsTypeOf m f L v t → Least u → Least v → u ≡ v
  one_word t u v h k l l' = let (pre, e, e', w) = same_front t [] [] u v h k l l' in e ∙ sym e'

  -- and the order of words is the order of types
  pub word_order : (t w : Term) (u v : Word) → IsTypeOf m f L u t → IsTypeOf m f L v w → Least u → Least v → WordLess u v → TermBefore t w
  word_order t w u v h k l l' less = elim (total t w) [
    | inl b ↦ b
    | inr (inl e) ↦
        absurd (not_below_itself v (subst (λ x. WordLess x v) (one_word w u v (subst (λ x. IsTypeOf m f L u x) e h) k l l') less))
    | inr (inr b) ↦ absurd (not_both_below u v less (type_order w t v u k h l' l b))
  ]

  -- a word of a type begins with the type's generic parameter
  begins : (t : Term) (rest u : Word) → BeginsAs m f L t rest u → (w : Word) × (u ≡ ParamSymbol (head t).depth (head t).index ∷ w)
  begins (Generic g) rest u h = (rest, h)
  begins (Member t (Name a)) rest u h = absurd h
  begins (Member t (Bound d)) rest u (k, c, i, h) = begins t (MemberSymbol k ∷ rest) u h

  -- what it is read as is derivably equal to the type
  read_as : (t : Term) (rest u : Word) → BeginsAs m f L t rest u → Derivable f L (IsValid (Generic (head t)))
      → (r : Term) × (reading m u ≡ read_on m r rest) × Derivable f L (Requires (Equals r t))
  read_as (Generic g) rest u h v = (Generic g, ap (reading m) h, reflex v)
  read_as (Member t (Name a)) rest u h v = absurd h
  read_as (Member t (Bound d)) rest u (k, c, i, h) v =
      let (r, e, q) = read_as t (MemberSymbol k ∷ rest) u h v in (
        Member r (Name (name_of m k)),
        e,
        trans (symm (read_same m f L t r (MemberSymbol k) (symm q) c).1) (symm (assoc_bind i.conforms i.declares)),
      )

  pub reading_type : (t : Term) (u : Word) → IsTypeOf m f L u t → HasReading m f L u → Derivable f L (Requires (Equals (reading m u) t))
  reading_type t u h r =
      let (w, e) = begins t [] u h in
      let has : HasParam L (head t) = (subst (HasReading m f L) e r).0 in
      let (z, q, k) = read_as t [] u h (generic has) in
      subst (λ x. Derivable f L (Requires (Equals x t))) (sym q) k

  -- The type of the least word of a class is the reduced type of each type parameter whose word is in the class.
  pub type_is_reduced : (t r : Term) (u : Word) → Derivable f L (IsValid t) → C (spell m L t []) u → Least u → IsTypeOf m f L u r
      → IsReducedTypeOf f L t r
  type_is_reduced t r u v c l h =
      let (w, e) = word_is_read m f fit L t v in
      let (z, q) = chain_leads m f fit L c w in
      record {
        equal = trans e (trans q (reading_type r u h z));
        least = λ x k b.
            let y : Derivable f L (IsValid x) = (sides_of k).1 in
            type_is_least r x u h l y (joined (turn_all c) ((equal_words m f fit L ranges n t x v y).0 k)) b;
      }

  -- all symbols are member symbols
  OnlyMembers : Word → Type 0
  OnlyMembers [] = Unit {0}
  OnlyMembers (MemberSymbol k ∷ w) = OnlyMembers w
  OnlyMembers (_ ∷ w) = ⊥

  shorter : (pre : Word) (x : Symbol) (w : Word) → length (pre ++ w) < length (pre ++ (x ∷ w))
  shorter [] x w = omega arith
  shorter (a ∷ pre) x w = let h = shorter pre x w in omega arith

  -- in a least word no `[Q]`, no layout and no name stands after a part that is read
  least_shape : (pre : Word) (t : Term) (w : Word) → Stands pre t → Derivable f L (IsValid t) → Least (pre ++ w)
      → CanReadAll m f L t w → OnlyMembers w
  unfolding Stands OnlyMembers
  least_shape pre t [] s v l c = tt
  least_shape pre t (ProtoSymbol q ∷ w) s v l c =
      none_less C _ _ l (joined (s (ProtoSymbol q ∷ w)) (joined (conf_chain t (record { rank = q }) c.0 w) (turn_all (s w))))
      (by_length _ _ (shorter pre (ProtoSymbol q) w))
  least_shape pre t (LayoutSymbol ∷ w) s v l c =
      none_less C _ _ l (joined (s (LayoutSymbol ∷ w)) (joined ((chained_usable m fit ranges n c.0).1 w) (turn_all (s w))))
      (by_length _ _ (shorter pre LayoutSymbol w))
  least_shape pre t (ParamSymbol d i ∷ w) s v l c = c.0
  least_shape pre t (NameSymbol a ∷ w) s v l ((p, d, e, h), c) =
      none_less C _ _ l
      (joined (s (NameSymbol a ∷ w)) (joined (turn_all (conf_chain t p e (NameSymbol a ∷ w)))
      (joined (at_once (turn (within t (member_link f p (record { rank = a }) d w fit h))))
      (turn_all (s (MemberSymbol (m.rank_of d) ∷ w))))))
      (by_symbols _ _ (same_length pre (MemberSymbol (m.rank_of d)) (NameSymbol a) w w refl)
      (lex_at pre (MemberSymbol (m.rank_of d)) (NameSymbol a) w w refl))
  least_shape pre t (MemberSymbol k ∷ w) s v l c =
      least_shape (pre ++ (MemberSymbol k ∷ [])) (Member t (Name (name_of m k))) w
      (λ z. subst (λ x. C x (spell m L t (NameSymbol (name_of m k).rank ∷ z))) (sym (append_assoc pre (MemberSymbol k ∷ []) z))
      (joined (s (MemberSymbol k ∷ z)) (as_name t k c.0 z)))
      (valid_after m f L t (MemberSymbol k) v c.0) (subst (λ x. Least x) (sym (append_assoc pre (MemberSymbol k ∷ []) w)) l) c.1

  -- Where the first associated type is found, such a word has a type, derivably equal to what it is read as.
  module _ (firsts : (t : Term) (a : NameId) → HasName f L t a → (d : AssocId) × IsFirstFor f L t a d) where
    typed : (w u : Word) (t b : Term) → Derivable f L (Requires (Equals t b)) → OnlyMembers w → CanReadAll m f L t w → BeginsAs m f L b w u
        → (z : Term) × BeginsAs m f L z [] u × Derivable f L (Requires (Equals (read_on m t w) z))
    unfolding OnlyMembers
    typed [] u t b e o c h = (b, h, e)
    typed (ProtoSymbol q ∷ w) u t b e o c h = absurd o
    typed (LayoutSymbol ∷ w) u t b e o c h = absurd o
    typed (ParamSymbol d i ∷ w) u t b e o c h = absurd o
    typed (NameSymbol a ∷ w) u t b e o c h = absurd o
    typed (MemberSymbol k ∷ w) u t b e o (c, r) h =
        let (q, g) = read_same m f L t b (MemberSymbol k) e c in
        let (d, i) = firsts b (name_of m k) q.2 in
        typed w u (Member t (Name (name_of m k))) (Member b (Bound d)) (trans g (symm (assoc_bind i.conforms i.declares))) o r (k, q, i, h)

    -- a least word that is read has a type
    pub has_type : (u : Word) → HasReading m f L u → Least u
        → (t : Term) × BeginsAs m f L t [] u × Derivable f L (Requires (Equals (reading m u) t))
    unfolding Stands
    has_type [] c l = absurd c
    has_type (ParamSymbol d i ∷ u) (c, r) l =
        typed u (ParamSymbol d i ∷ u) (Generic (record { depth = d; index = i }))
        (Generic (record { depth = d; index = i })) (reflex (generic c))
        (least_shape (ParamSymbol d i ∷ []) (Generic (record { depth = d; index = i })) u (λ z. done) (generic c) l r) r refl
    has_type (ProtoSymbol q ∷ u) (c, r) l = absurd c
    has_type (LayoutSymbol ∷ u) (c, r) l = absurd c
    has_type (NameSymbol a ∷ u) (c, r) l = absurd c
    has_type (MemberSymbol k ∷ u) (c, r) l = absurd c

    -- the least word of the class of a valid type parameter's word has a type
    pub some_type : (t : Term) (u : Word) → Derivable f L (IsValid t) → C (spell m L t []) u → Least u → (r : Term) × IsTypeOf m f L u r
    some_type t u v c l =
        let w = word_is_read m f fit L t v in
        let found = has_type u (chain_leads m f fit L c w.0).0 l in
        (found.0, found.1)
