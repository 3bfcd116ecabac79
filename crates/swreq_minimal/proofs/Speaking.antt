-- What a rule says.
use Rattle.std.proofs.Common.{◌≡◌, ◌∙◌, ◌⊎◌, inl, inr, refl, sym, ap, ap₂, subst, ℕ, suc, ◌<◌, ◌+◌, arith, List, [], ◌∷◌, ◌++◌, Option, Some, None, MatchOption, length, take, drop, get_or, length-take-le}
use Rattle.std.proofs.lemmas.List.{drop_all, take-append-drop, same_from_push}
use Rattle.swreq_machine.specs.swreq_param.declared.ids.AssocId.{AssocId}
use Rattle.swreq_machine.specs.swreq_param.declared.ids.NameId.{NameId}
use Rattle.swreq_machine.specs.swreq_param.declared.ids.ProtoId.{ProtoId}
use Rattle.swreq_machine.specs.swreq_param.declared.ids.Step.TheVariants.{Bound, Name}
use Rattle.swreq_machine.specs.swreq_param.declared.ids.TermId.{TermId}
use Rattle.swreq_machine.specs.swreq_param.Tables.{Extends, IsOf, term_at}
use Rattle.swreq_machine.specs.swreq_param.Terms.{Term}
use Rattle.swreq_machine.specs.swreq_param.Terms.Term.{Generic, Member}
use Rattle.swreq_machine.specs.swreq_derive.declared.known.Params.{Params}
use Rattle.swreq_machine.specs.swreq_derive.declared.requirements.Requirement.{Requirement}
use Rattle.swreq_machine.specs.swreq_derive.declared.requirements.Requirement.TheVariants.{Conf, Layout as LayoutOf, Same}
use Rattle.swreq_machine.specs.swreq_derive.Derivation.{TermRequirement}
use Rattle.swreq_machine.specs.swreq_derive.Derivation.TermRequirement.{Conforms, IsAnyObject, Equals}
use Rattle.swreq_machine.specs.swreq_derive.Facts.{requirement_of}
use Rattle.swreq_homotopy.specs.swreq_word.declared.symbols.Symbol.{Symbol}
use Rattle.swreq_homotopy.specs.swreq_word.declared.symbols.Symbol.TheVariants.{Proto, Layout, Param}
use Rattle.swreq_homotopy.specs.swreq_word.Least.{IsLeast, IsMinimal}
use Rattle.swreq_machine.specs.swreq_rule.declared.rules.Rule.{Rule}
use Rattle.swreq_machine.specs.swreq_lexicon.Views.{IsProtocol, LexiconView}
use Rattle.swreq_machine.specs.swreq_correspondence.Symbols.{Word}
use Rattle.swreq_candidates.specs.Candidates.{IsNamed}
use Rattle.std.proofs.lemmas.List.{same_from_push}
use Rattle.swreq_machine.proofs.swreq_symbols.LeastWords.{one_first}
use Rattle.swreq_candidates.proofs.ReadOff.{not_empty, one_name}
use Rattle.swreq_machine.specs.swreq_symbols.Known.{IsRequirementIn}
use Rattle.swreq_machine.specs.swreq_symbols.Meaning.{symbols_of}
use Rattle.swreq_machine.specs.swreq_world.Closed.{IsTermOf}
use Rattle.swreq_machine.proofs.swreq_lowering.Growing.{of_stays}
use Rattle.swreq_machine.specs.swreq_symbols.Vanishing.{IsFirstBehind, IsGivenBehind}
use Rattle.swreq_minimal.specs.Typed.{Finds, Identifies, IsTypeBy, IsRequirementOfRule, IsSubjectOf}
use Rattle.swreq_minimal.proofs.Passing.{parted}
use Rattle.swreq_minimal.proofs.Typing.{given_of_text, none_of_nothing, nothing_before, one_type, type_of_text}

-- ---- the last symbol of a word

pub with_last : (l : Word) (k : ℕ) (d : Symbol) → length l ≡ k + 1 → l ≡ take k l ++ get_or l k d ∷ []
with_last l k d e =
    parted l k d (omega (arith, e)) ∙ ap (λ z. take k l ++ get_or l k d ∷ z) (drop_all (suc k) l (omega (arith, e)))

pub front_differs : (l r : Word) (k : ℕ) (d : Symbol) → length l ≡ k + 1 → (take k l ≡ r → ⊥) → (y : Symbol) → l ≡ r ++ y ∷ [] → ⊥
front_differs l r k d e n y h = n (same_from_push (take k l) r (get_or l k d) y (sym (with_last l k d e) ∙ h)).0

pub nothing_behind : (l r : Word) → length l ≡ 0 → (y : Symbol) → l ≡ r ++ y ∷ [] → ⊥
nothing_behind [] r e y h = not_empty r y h
nothing_behind (z ∷ l) r e y h = absurd (omega arith)

-- the part of a minimal word before its last symbol is least
pub front_least : (Class : Word → Word → Type 0) (l : Word) (k : ℕ) → IsMinimal Class l → k < length l → IsLeast Class (take k l)
front_least Class l k minimal w =
    minimal.factors [] (take k l) (drop k l) (sym (take-append-drop k l))
    (let e = length-take-le k l (omega (arith, w)) in omega (arith, e, w))

module _ (x : LexiconView) (rules : List Rule) (params : Params) where
  -- ---- of what a left side speaks

  pub nothing_spoken : (t : Term) → IsSubjectOf x rules params [] t → ⊥
  nothing_spoken (Generic g) (c, e) = cc
  nothing_spoken (Member t (Bound d)) (front, y, a, e, h, n, f) = not_empty front y e
  nothing_spoken (Member t (Name a)) h = absurd h

  spoken_typed : (z : Symbol) (t : Term) → IsSubjectOf x rules params (z ∷ []) t → IsTypeBy x rules params (z ∷ []) t
  spoken_typed z (Generic g) h = h
  spoken_typed z (Member t (Bound d)) (front, y, a, e, h, n, f) =
      absurd (none_of_nothing x rules params t (subst (λ u. IsTypeBy x rules params u t) (nothing_before z y front e).0 h))
  spoken_typed z (Member t (Name a)) h = absurd h

  typed_spoken : (z : Symbol) (t : Term) → IsTypeBy x rules params (z ∷ []) t → IsSubjectOf x rules params (z ∷ []) t
  typed_spoken z (Generic g) h = h
  typed_spoken z (Member t (Bound d)) (front, y, e, h, m) =
      absurd (none_of_nothing x rules params t (subst (λ u. IsTypeBy x rules params u t) (nothing_before z y front e).0 h))
  typed_spoken z (Member t (Name a)) h = absurd h

  pub one_symbol_spoken : (z : Symbol) (terms : List Term) (o : Option TermId) → Identifies (IsTypeBy x rules params (z ∷ [])) terms o
      → Identifies (IsSubjectOf x rules params (z ∷ [])) terms o
  one_symbol_spoken z terms None n = λ t h. n t (spoken_typed z t h)
  one_symbol_spoken z terms (Some id) (of, h) = (of, typed_spoken z (term_at terms id) h)

  pub spoken_empty : (l : Word) → length l ≡ 0 → (t : Term) → IsSubjectOf x rules params l t → ⊥
  spoken_empty [] e = nothing_spoken
  spoken_empty (z ∷ l) e = absurd (omega arith)

  pub spoken_single : (l : Word) (d : Symbol) → length l ≡ 1 → (terms : List Term) (o : Option TermId)
      → Identifies (IsTypeBy x rules params (get_or l 0 d ∷ [])) terms o → Identifies (IsSubjectOf x rules params l) terms o
  spoken_single [] d e terms o h = absurd (omega arith)
  spoken_single (z ∷ []) d e terms o h = one_symbol_spoken z terms o h
  spoken_single (z ∷ y ∷ l) d e terms o h = absurd (omega arith)

  -- the first associated type of the name for which a symbol stands
  pub named_first : (front : Word) (y : Symbol) (a : NameId) → IsNamed (symbols_of x) y a → (o : Option AssocId)
      → MatchOption o ((d : AssocId) → IsGivenBehind x rules front a d → ⊥) (IsFirstBehind x rules front a)
      → MatchOption o ((b : NameId) (d : AssocId) → IsNamed (symbols_of x) y b → IsFirstBehind x rules front b d → ⊥)
      (λ d. (b : NameId) × IsNamed (symbols_of x) y b × IsFirstBehind x rules front b d)
  named_first front y a named None n =
      λ b d m f. n d (subst (λ z. IsGivenBehind x rules front z d) (one_name (symbols_of x) y b a m named) f.given)
  named_first front y a named (Some d) f = (a, named, f)

  member_subject : (front : Word) (y : Symbol) (t : Term) → 0 < length front → IsSubjectOf x rules params (front ++ y ∷ []) t
      → (z : Term) × (d : AssocId) × (a : NameId) × (t ≡ Member z (Bound d)) × IsTypeBy x rules params front z × IsNamed (symbols_of x) y a
      × IsFirstBehind x rules front a d
  member_subject front y (Generic g) l (c, e) =
      let (f, s) = nothing_before (Param g.depth g.index) y front (sym e) in
      absurd (let n : length front ≡ 0 = ap length f in omega (arith, l, n))
  member_subject front y (Member z (Bound d)) l (other, s, a, e, h, n, m) =
      let (f, q) = same_from_push front other y s e in (
        z,
        d,
        a,
        refl,
        subst (λ v. IsTypeBy x rules params v z) (sym f) h,
        subst (λ v. IsNamed (symbols_of x) v a) (sym q) n,
        subst (λ v. IsFirstBehind x rules v a d) (sym f) m,
      )
  member_subject front y (Member z (Name a)) l h = absurd h

  pub none_behind : (front : Word) (y : Symbol) → 0 < length front → ((t : Term) → IsTypeBy x rules params front t → ⊥)
      → (t : Term) → IsSubjectOf x rules params (front ++ y ∷ []) t → ⊥
  none_behind front y l n t h = let (z, d, a, e, k, m, f) = member_subject front y t l h in n z k

  pub some_behind : (front : Word) (y : Symbol) → 0 < length front → (old new : List Term) (id : TermId)
      → IsTypeBy x rules params front (term_at old id) → (o : Option TermId)
      → MatchOption o ((a : NameId) (d : AssocId) → IsNamed (symbols_of x) y a → IsFirstBehind x rules front a d → ⊥)
      (λ u. (a : NameId) × (d : AssocId) × IsNamed (symbols_of x) y a × IsFirstBehind x rules front a d × IsOf new u
      × (term_at new u ≡ Member (term_at old id) (Bound d)))
      → Identifies (IsSubjectOf x rules params (front ++ y ∷ [])) new o
  some_behind front y l old new id h None n = λ t k. let (z, d, a, e, j, m, f) = member_subject front y t l k in n a d m f
  some_behind front y l old new id h (Some u) (a, d, n, f, of, is) =
      (of, subst (IsSubjectOf x rules params (front ++ y ∷ [])) (sym is) (front, y, a, refl, h, n, f))

  -- a left side speaks of one type parameter
  pub one_spoken : (v w : Term) (l : Word) → IsSubjectOf x rules params l v → IsSubjectOf x rules params l w → v ≡ w
  one_spoken (Generic g) (Generic h) l p q = one_type x rules params (Generic g) (Generic h) l p q
  one_spoken (Generic g) (Member t (Bound d)) l (c, e) (front, y, a, k, h, n, f) =
      absurd (none_of_nothing x rules params t
      (subst (λ u. IsTypeBy x rules params u t) (nothing_before (Param g.depth g.index) y front (sym e ∙ k)).0 h))
  one_spoken (Member t (Bound d)) (Generic g) l (front, y, a, k, h, n, f) (c, e) =
      absurd (none_of_nothing x rules params t
      (subst (λ u. IsTypeBy x rules params u t) (nothing_before (Param g.depth g.index) y front (sym e ∙ k)).0 h))
  one_spoken (Member t (Bound d)) (Member z (Bound b)) l (front, y, a, e, h, n, f) (other, s, c, k, j, m, g) =
      let (p, q) = same_from_push front other y s (sym e ∙ k) in
      let j' : IsTypeBy x rules params front z = subst (λ v. IsTypeBy x rules params v z) (sym p) j in
      let m' : IsNamed (symbols_of x) y c = subst (λ v. IsNamed (symbols_of x) v c) (sym q) m in
      let names : c ≡ a = one_name (symbols_of x) y c a m' n in
      let g' : IsFirstBehind x rules front a b = subst (λ v. IsFirstBehind x rules front v b) names
      (subst (λ v. IsFirstBehind x rules v c b) (sym p) g) in
      λ i. Member (one_type x rules params t z front h j' i) (Bound (one_first x rules front a d b f g' i))
  one_spoken (Member t (Name a)) w l h k = absurd h
  one_spoken (Generic g) (Member t (Name a)) l h k = absurd k
  one_spoken (Member t (Bound d)) (Member z (Name a)) l h k = absurd k

  spoken_of_text : (v : Term) (l : Word) → IsSubjectOf x rules params l v → IsTermOf x v
  spoken_of_text (Generic g) l h = tt
  spoken_of_text (Member t (Bound d)) l (front, y, a, e, h, n, f) =
      (type_of_text x rules params t front h, given_of_text x rules params front a d f)
  spoken_of_text (Member t (Name a)) l h = absurd h

  -- ---- what the rule says

  -- the same-type requirement, or that there is none
  abbrev pub SaysSame : Word → List Term → List Term → TermId → Option Requirement → Type 0
  SaysSame l old new t o = MatchOption o
      ((v : Term) → IsSubjectOf x rules params l v → term_at old t ≡ v)
      (λ r. (v : TermId) × (r ≡ Same t v) × IsOf new v × IsSubjectOf x rules params l (term_at new v) × (term_at old t ≡ term_at new v → ⊥))

  pub none_same : (l : Word) (old new : List Term) (t : TermId) → ((v : Term) → IsSubjectOf x rules params l v → ⊥)
      → SaysSame l old new t None
  none_same l old new t n v h = absurd (n v h)

  pub some_same : (l : Word) (old new : List Term) (t v : TermId) → Extends old new → IsOf old t → IsOf new v
      → IsSubjectOf x rules params l (term_at new v) → (o : Option Requirement)
      → MatchOption o (term_at new t ≡ term_at new v) (λ r. (r ≡ Same t v) × (term_at new t ≡ term_at new v → ⊥)) → SaysSame l old new t o
  some_same l old new t v b of ov h None e = λ w k. sym (b.stands t of) ∙ (e ∙ one_spoken (term_at new v) w l h k)
  some_same l old new t v b of ov h (Some r) (i, n) = (v, i, ov, h, λ e. n (b.stands t of ∙ e))

  pub nothing_said : (l r : Word) → ((t : Term) → IsTypeBy x rules params r t → ⊥) → (q : TermRequirement)
      → IsRequirementOfRule x rules params l r q → ⊥
  nothing_said l r n (Conforms t p) h = n t h.0
  nothing_said l r n (IsAnyObject t) h = n t h.0
  nothing_said l r n (Equals t v) h = n t h.0

  -- the property that the rule says of t, or that it says none
  abbrev pub SaysProperty : Word → Word → TermId → Option Requirement → Type 0
  SaysProperty l r t o = MatchOption o
      (((p : ProtoId) → l ≡ r ++ Proto p.rank ∷ [] → IsProtocol x p → ⊥) × (l ≡ r ++ Layout ∷ [] → ⊥))
      (λ q. ((p : ProtoId) × (l ≡ r ++ Proto p.rank ∷ []) × IsProtocol x p × (q ≡ Conf t p)) ⊎ ((l ≡ r ++ Layout ∷ []) × (q ≡ LayoutOf t)))

  pub property_requirement : (l r : Word) (terms : List Term) (t : TermId) → IsOf terms t → IsTypeBy x rules params r (term_at terms t)
      → (q : Requirement)
      → SaysProperty l r t (Some q) → IsRequirementIn terms x q × IsRequirementOfRule x rules params l r (requirement_of terms q)
  property_requirement l r terms t of h q (inl (p, e, i, s)) =
      subst (λ z. IsRequirementIn terms x z × IsRequirementOfRule x rules params l r (requirement_of terms z)) (sym s)
      ((of, (type_of_text x rules params (term_at terms t) r h, i)), (h, i, e))
  property_requirement l r terms t of h q (inr (e, s)) =
      subst (λ z. IsRequirementIn terms x z × IsRequirementOfRule x rules params l r (requirement_of terms z)) (sym s)
      ((of, type_of_text x rules params (term_at terms t) r h), (h, e))

  pub same_type_requirement : (l r : Word) (old new : List Term) (t : TermId) → Extends old new → IsOf old t
      → IsTypeBy x rules params r (term_at old t)
      → SaysProperty l r t None → (o : Option Requirement) → SaysSame l old new t o → Finds (IsRequirementOfRule x rules params l r) new x o
  same_type_requirement l r old new t b of h none None n = unsaid
    where
      unsaid : (q : TermRequirement) → IsRequirementOfRule x rules params l r q → ⊥
      unsaid (Conforms z p) (k, i, e) = none.0 p e i
      unsaid (IsAnyObject z) (k, e) = none.1 e
      unsaid (Equals z v) (k, s, d) = d (one_type x rules params z (term_at old t) r k h ∙ n v s)
  same_type_requirement l r old new t b of h none (Some q) (v, e, ov, s, d) =
      let is = b.stands t of in
      let typed : IsTypeBy x rules params r (term_at new t) = subst (IsTypeBy x rules params r) (sym is) h in
      subst (λ z. IsRequirementIn new x z × IsRequirementOfRule x rules params l r (requirement_of new z)) (sym e) (
        ((of_stays old new t b of, ov), (type_of_text x rules params (term_at new t) r typed, spoken_of_text (term_at new v) l s)),
        (typed, s, λ k. d (sym is ∙ k)),
      )

  -- ---- a rule says at most one thing

  not_spoken : (l r : Word) (y : Symbol) (t v : Term) → IsTypeBy x rules params r t → l ≡ r ++ y ∷ []
      → ((a : NameId) → IsNamed (symbols_of x) y a → ⊥)
      → IsSubjectOf x rules params l v → ⊥
  not_spoken l r y t (Generic g) h e none (c, k) =
      none_of_nothing x rules params t
      (subst (λ u. IsTypeBy x rules params u t) (nothing_before (Param g.depth g.index) y r (sym k ∙ e)).0 h)
  not_spoken l r y t (Member z (Bound d)) h e none (front, s, a, k, j, n, f) =
      none a (subst (λ u. IsNamed (symbols_of x) u a) (same_from_push front r s y (sym k ∙ e)).1 n)
  not_spoken l r y t (Member z (Name a)) h e none k = k

  one_proto : {p q : ProtoId} → Proto p.rank ≡ Proto q.rank → p ≡ q
  one_proto {p = p} {q = q} e = λ j. record { rank = same_rank e j }
    where
      same_rank : Proto p.rank ≡ Proto q.rank → p.rank ≡ q.rank
      same_rank e = cc

  no_layout : {p : ProtoId} → Proto p.rank ≡ Layout → ⊥
  no_layout e = cc

  pub one_said : (l r : Word) (q o : TermRequirement) → IsRequirementOfRule x rules params l r q → IsRequirementOfRule x rules params l r o
      → q ≡ o
  one_said l r (Conforms t p) (Conforms u g) (h, i, e) (k, j, s) =
      ap₂ Conforms (one_type x rules params t u r h k) (one_proto (same_from_push r r (Proto p.rank) (Proto g.rank) (sym e ∙ s)).1)
  one_said l r (Conforms t p) (IsAnyObject u) (h, i, e) (k, s) =
      absurd (no_layout {p = p} (same_from_push r r (Proto p.rank) Layout (sym e ∙ s)).1)
  one_said l r (Conforms t p) (Equals u v) (h, i, e) (k, s, n) = absurd (not_spoken l r (Proto p.rank) t v h e (λ a m. m) s)
  one_said l r (IsAnyObject t) (Conforms u p) (h, e) (k, i, s) =
      absurd (no_layout {p = p} (same_from_push r r (Proto p.rank) Layout (sym s ∙ e)).1)
  one_said l r (IsAnyObject t) (IsAnyObject u) (h, e) (k, s) = ap IsAnyObject (one_type x rules params t u r h k)
  one_said l r (IsAnyObject t) (Equals u v) (h, e) (k, s, n) = absurd (not_spoken l r Layout t v h e (λ a m. m) s)
  one_said l r (Equals t v) (Conforms u p) (h, s, n) (k, i, e) = absurd (not_spoken l r (Proto p.rank) u v k e (λ a m. m) s)
  one_said l r (Equals t v) (IsAnyObject u) (h, s, n) (k, e) = absurd (not_spoken l r Layout u v k e (λ a m. m) s)
  one_said l r (Equals t v) (Equals u z) (h, s, n) (k, o, m) = ap₂ Equals (one_type x rules params t u r h k) (one_spoken v z l s o)
