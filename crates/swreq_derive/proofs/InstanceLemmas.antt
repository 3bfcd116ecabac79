-- The table of rules, over the ids of a table of type parameters: what each rule says of the statements of lines.
use Rattle.std.proofs.Common.{◌≡◌, ℕ, nat_eq, true, ◌-◌, List, [], ◌∷◌, Some, Contains, map, refl, sym, ap, subst, ◌∙◌, ◌↔◌}
use Rattle.std.proofs.lemmas.Bool.{eqb-true, eq-eqb}
use Rattle.std.proofs.lemmas.Option.{slice_get_within, get_or_from_slice_get}
use Rattle.swreq_param.specs.declared.ids.ParamId.{ParamId}
use Rattle.swreq_param.specs.declared.ids.ProtoId.{ProtoId}
use Rattle.swreq_param.specs.declared.ids.TermId.{TermId}
use Rattle.swreq_param.specs.Terms.{Term}
use Rattle.swreq_param.specs.Terms.Term.{Generic, Member}
use Rattle.swreq_param.specs.Tables.{term_at, AreDistinct}
use Rattle.swreq_derive.specs.declared.requirements.Requirement.{Requirement}
use Rattle.swreq_derive.specs.declared.requirements.Requirement.TheVariants.{Conf, Layout, Same}
use Rattle.swreq_derive.specs.declared.requirements.Statement.{Statement}
use Rattle.swreq_derive.specs.declared.requirements.Statement.TheVariants.{Valid, Holds}
use Rattle.swreq_derive.specs.declared.lines.DerivRule.TheVariants as Rule
use Rattle.swreq_derive.specs.Derivation.{TermRequirement}
use Rattle.swreq_derive.specs.Derivation.TermRequirement.{Conforms, IsAnyObject, Equals}
use Rattle.swreq_derive.specs.Derivation.TermStatement.{IsValid, Requires}
use Rattle.swreq_derive.specs.Facts.{requirement_of, statement_of, IdFacts, generic_params, IsRequirementOver, IsStatementOver, AreFactsOf}
use Rattle.swreq_derive.specs.Instances.{HasNumber}
use Rattle.swreq_derive.specs.Lines.{IsGiven}
use Rattle.swreq_param.proofs.swreq_lemmas.Elements.{get_map, get_of_map}

-- ---- equal type parameters have equal ids

pub same_requirement : (terms : List Term) (m : IdFacts) → AreDistinct terms → (a b : Requirement) → IsRequirementOver terms m a
    → IsRequirementOver terms m b
    → requirement_of terms a ≡ requirement_of terms b → a ≡ b
same_requirement terms m d (Conf x p) (Conf y q) h k e = let i : x ≡ y = d x y h.0 k.0 (cc) in let j : p ≡ q = cc in cc
same_requirement terms m d (Conf x p) (Layout y) h k e = absurd cc
same_requirement terms m d (Conf x p) (Same y z) h k e = absurd cc
same_requirement terms m d (Layout x) (Conf y q) h k e = absurd cc
same_requirement terms m d (Layout x) (Layout y) h k e = ap Layout (d x y h k (cc))
same_requirement terms m d (Layout x) (Same y z) h k e = absurd cc
same_requirement terms m d (Same x w) (Conf y q) h k e = absurd cc
same_requirement terms m d (Same x w) (Layout y) h k e = absurd cc
same_requirement terms m d (Same x w) (Same y z) h k e = let i : x ≡ y = d x y h.0 k.0 (cc) in let j : w ≡ z = d w z h.1 k.1 (cc) in cc

pub same_statement : (terms : List Term) (m : IdFacts) → AreDistinct terms → (a b : Statement) → IsStatementOver terms m a
    → IsStatementOver terms m b
    → statement_of terms a ≡ statement_of terms b → a ≡ b
same_statement terms m d (Valid x) (Valid y) h k e = ap Valid (d x y h k (cc))
same_statement terms m d (Valid x) (Holds r) h k e = absurd cc
same_statement terms m d (Holds r) (Valid y) h k e = absurd cc
same_statement terms m d (Holds r) (Holds q) h k e = ap Holds (same_requirement terms m d r q h k (cc))

-- ---- shapes

pub valid_shape : (terms : List Term) (a : Statement) (t : Term) → statement_of terms a ≡ IsValid t
    → (x : TermId) × (a ≡ Valid x) × (term_at terms x ≡ t)
valid_shape terms (Valid x) t e = (x, refl, cc)
valid_shape terms (Holds r) t e = absurd cc

pub conf_shape : (terms : List Term) (a : Statement) (t : Term) (p : ProtoId) → statement_of terms a ≡ Requires (Conforms t p)
    → (x : TermId) × (a ≡ Holds (Conf x p)) × (term_at terms x ≡ t)
conf_shape terms (Valid x) t p e = absurd cc
conf_shape terms (Holds (Conf x q)) t p e = let i : q ≡ p = cc in (x, ap (λ z. Holds (Conf x z)) i, cc)
conf_shape terms (Holds (Layout x)) t p e = absurd cc
conf_shape terms (Holds (Same x y)) t p e = absurd cc

pub layout_shape : (terms : List Term) (a : Statement) (t : Term) → statement_of terms a ≡ Requires (IsAnyObject t)
    → (x : TermId) × (a ≡ Holds (Layout x)) × (term_at terms x ≡ t)
layout_shape terms (Valid x) t e = absurd cc
layout_shape terms (Holds (Conf x q)) t e = absurd cc
layout_shape terms (Holds (Layout x)) t e = (x, refl, cc)
layout_shape terms (Holds (Same x y)) t e = absurd cc

pub same_shape : (terms : List Term) (a : Statement) (t u : Term) → statement_of terms a ≡ Requires (Equals t u)
    → (x : TermId) × (y : TermId) × (a ≡ Holds (Same x y)) × (term_at terms x ≡ t) × (term_at terms y ≡ u)
same_shape terms (Valid x) t u e = absurd cc
same_shape terms (Holds (Conf x q)) t u e = absurd cc
same_shape terms (Holds (Layout x)) t u e = absurd cc
same_shape terms (Holds (Same x y)) t u e = (x, y, refl, (cc), cc)

-- ---- numbers in lists

pub number_map : {A B : Type 0} (f : A → B) (n : ℕ) (xs : List A) (y : B) → HasNumber n (map f xs) y
    → (x : A) × HasNumber n xs x × (f x ≡ y)
number_map f n xs y h = let k = get_of_map f xs (n - 1) y h.1 in (k.0, (h.0, k.1), k.2)

pub map_number : {A B : Type 0} (f : A → B) (n : ℕ) (xs : List A) (x : A) → HasNumber n xs x → HasNumber n (map f xs) (f x)
map_number f n xs x h = (h.0, get_map f xs (n - 1) x h.1)

pub contains_number : {A : Type 0} (n : ℕ) (xs : List A) (x : A) → HasNumber n xs x → Contains xs x
contains_number n xs x h = (n - 1, slice_get_within xs (n - 1) x h.1, get_or_from_slice_get xs (n - 1) x x h.1)

pub one_number : {A : Type 0} (n : ℕ) (xs : List A) (x y : A) → HasNumber n xs x → HasNumber n xs y → x ≡ y
one_number n xs x y h k = let e : Some x ≡ Some y = sym h.1 ∙ k.1 in cc

-- ---- generic parameters

pub generic_given : (terms : List Term) (m : IdFacts) (t : TermId) (g : ParamId) (c : Statement) → c ≡ Valid t → term_at terms t ≡ Generic g
    → Contains (generic_params m.params) g ↔ IsGiven terms m Rule.Generic [] c
generic_given terms m t g c e k = (
  (λ w. (g, refl, ap (statement_of terms) e ∙ ap IsValid k, w)),
  λ w. (let i : g ≡ w.0 = inner (sym (ap (statement_of terms) e ∙ ap IsValid k) ∙ w.2) in
      subst (Contains (generic_params m.params)) (sym i) w.3),
)
  where
    inner : {g h : ParamId} → IsValid (Generic g) ≡ IsValid (Generic h) → g ≡ h
    inner e = cc

pub member_given : (terms : List Term) (m : IdFacts) (t : TermId) (u : Term) (s : _) (c : Statement) → c ≡ Valid t
    → term_at terms t ≡ Member u s → IsGiven terms m Rule.Generic [] c → ⊥
member_given terms m t u s c e k w =
    (let i : IsValid (Member u s) ≡ IsValid (Generic w.0) = sym (ap (statement_of terms) e ∙ ap IsValid k) ∙ w.2 in cc)

-- ---- what is written in the list

abbrev pub IsListed : List Requirement → ℕ → Statement → Type 0
IsListed ws n c = (r : Requirement) × HasNumber n ws r × (c ≡ Holds r)

-- a statement of the table that stands for the n-th requirement is the n-th requirement
listed : (terms : List Term) (m : IdFacts) (ws : List Requirement) (n : ℕ) (c : Statement) (r : TermRequirement) → AreDistinct terms
    → ((q : Requirement) → Contains ws q → IsRequirementOver terms m q) → IsStatementOver terms m c
    → statement_of terms c ≡ Requires r → HasNumber n (map (requirement_of terms) ws) r → IsListed ws n c
listed terms m ws n c r d of h e w =
    let k = number_map (requirement_of terms) n ws r w in
    (k.0, k.1, same_statement terms m d c (Holds k.0) h (of k.0 (contains_number n ws k.0 k.1)) (e ∙ ap Requires (sym k.2)))

unlisted : (terms : List Term) (ws : List Requirement) (n : ℕ) (c : Statement) (r : TermRequirement) → IsListed ws n c
    → statement_of terms c ≡ Requires r
    → HasNumber n (map (requirement_of terms) ws) r
unlisted terms ws n c r w e =
    let i : requirement_of terms w.0 ≡ r = inner (ap (statement_of terms) (sym w.2) ∙ e) in
    subst (λ z. HasNumber n (map (requirement_of terms) ws) z) i (map_number (requirement_of terms) n ws w.0 w.1)
  where
    inner : {a b : TermRequirement} → Requires a ≡ Requires b → a ≡ b
    inner e = cc

pub conf_given : (terms : List Term) (m : IdFacts) (n : ℕ) (c : Statement) (x : TermId) (p : ProtoId) → AreDistinct terms
    → AreFactsOf terms m → IsStatementOver terms m c
    → c ≡ Holds (Conf x p) → IsListed m.written n c ↔ IsGiven terms m (Rule.Conf n) [] c
conf_given terms m n c x p d f h e = (
  (λ w. (
    term_at terms x,
    p,
    refl,
    ap (statement_of terms) e,
    unlisted terms m.written n c (Conforms (term_at terms x) p) w (ap (statement_of terms) e),
  )),
  λ w. listed terms m m.written n c (Conforms w.0 w.1) d f.list h w.3 w.4,
)

pub same_given : (terms : List Term) (m : IdFacts) (n : ℕ) (c : Statement) (x y : TermId) → AreDistinct terms → AreFactsOf terms m
    → IsStatementOver terms m c
    → c ≡ Holds (Same x y) → IsListed m.written n c ↔ IsGiven terms m (Rule.Same n) [] c
same_given terms m n c x y d f h e = (
  (λ w. (
    term_at terms x,
    term_at terms y,
    refl,
    ap (statement_of terms) e,
    unlisted terms m.written n c (Equals (term_at terms x) (term_at terms y)) w (ap (statement_of terms) e),
  )),
  λ w. listed terms m m.written n c (Equals w.0 w.1) d f.list h w.3 w.4,
)

pub layout_given : (terms : List Term) (m : IdFacts) (n : ℕ) (c : Statement) (x : TermId) → AreDistinct terms → AreFactsOf terms m
    → IsStatementOver terms m c
    → c ≡ Holds (Layout x) → IsListed m.written n c ↔ IsGiven terms m (Rule.Layout n) [] c
layout_given terms m n c x d f h e = (
  (λ w. (
    term_at terms x,
    refl,
    ap (statement_of terms) e,
    unlisted terms m.written n c (IsAnyObject (term_at terms x)) w (ap (statement_of terms) e),
  )),
  λ w. listed terms m m.written n c (IsAnyObject w.0) d f.list h w.2 w.3,
)

-- ---- equality

pub reflex_given : (terms : List Term) (m : IdFacts) (a c : Statement) (t : TermId) → AreDistinct terms → IsStatementOver terms m a
    → IsStatementOver terms m c
    → a ≡ Valid t → (c ≡ Holds (Same t t)) ↔ IsGiven terms m Rule.Reflex (a ∷ []) c
reflex_given terms m a c t d h k e =
    let s : statement_of terms a ≡ IsValid (term_at terms t) = ap (statement_of terms) e in
    let o : IsStatementOver terms m (Valid t) = subst (λ z. IsStatementOver terms m z) e h in (
      (λ i. (term_at terms t, ap (λ z. z ∷ []) s, ap (statement_of terms) i)),
      λ w. same_statement terms m d c (Holds (Same t t)) k (o, o)
          (let i : statement_of terms a ∷ [] ≡ IsValid w.0 ∷ [] = w.1 in
          let j : statement_of terms c ≡ Requires (Equals w.0 w.0) = w.2 in cc),
    )

pub symm_given : (terms : List Term) (m : IdFacts) (a c : Statement) (t u : TermId) → AreDistinct terms → IsStatementOver terms m a
    → IsStatementOver terms m c
    → a ≡ Holds (Same t u) → (c ≡ Holds (Same u t)) ↔ IsGiven terms m Rule.Symm (a ∷ []) c
symm_given terms m a c t u d h k e =
    let s : statement_of terms a ≡ Requires (Equals (term_at terms t) (term_at terms u)) = ap (statement_of terms) e in
    let o : IsStatementOver terms m (Holds (Same t u)) = subst (λ z. IsStatementOver terms m z) e h in (
      (λ i. (term_at terms t, term_at terms u, ap (λ z. z ∷ []) s, ap (statement_of terms) i)),
      λ w. same_statement terms m d c (Holds (Same u t)) k (o.1, o.0)
          (let i : statement_of terms a ∷ [] ≡ Requires (Equals w.0 w.1) ∷ [] = w.2 in
          let j : statement_of terms c ≡ Requires (Equals w.1 w.0) = w.3 in cc),
    )

pub trans_given : (terms : List Term) (m : IdFacts) (a b c : Statement) (t u w v : TermId) → AreDistinct terms → IsStatementOver terms m a
    → IsStatementOver terms m b → IsStatementOver terms m c
    → a ≡ Holds (Same t u) → b ≡ Holds (Same w v) → ((u ≡ w) × (c ≡ Holds (Same t v))) ↔ IsGiven terms m Rule.Trans (a ∷ b ∷ []) c
trans_given terms m a b c t u w v d h k l e f =
    let s : statement_of terms a ≡ Requires (Equals (term_at terms t) (term_at terms u)) = ap (statement_of terms) e in
    let r : statement_of terms b ≡ Requires (Equals (term_at terms w) (term_at terms v)) = ap (statement_of terms) f in
    let o : IsStatementOver terms m (Holds (Same t u)) = subst (λ z. IsStatementOver terms m z) e h in
    let n : IsStatementOver terms m (Holds (Same w v)) = subst (λ z. IsStatementOver terms m z) f k in (
      (λ i. (
        term_at terms t,
        term_at terms u,
        term_at terms v,
        (let j : term_at terms u ≡ term_at terms w = ap (term_at terms) i.0 in cc),
        ap (statement_of terms) i.1,
      )),
      λ q. (let i : statement_of terms a ∷ statement_of terms b ∷ [] ≡ Requires (Equals q.0 q.1) ∷ Requires (Equals q.1 q.2) ∷ [] = q.3 in
          let j : statement_of terms c ≡ Requires (Equals q.0 q.2) = q.4 in
          (d u w o.1 n.0 (cc), same_statement terms m d c (Holds (Same t v)) l (o.0, n.1) (cc))),
    )

pub same_conf_given : (terms : List Term) (m : IdFacts) (p : ProtoId) (a b c : Statement) (t u : TermId) → AreDistinct terms
    → IsStatementOver terms m a → IsStatementOver terms m b → IsStatementOver terms m c
    → b ≡ Holds (Same t u) → ((a ≡ Holds (Conf u p)) × (c ≡ Holds (Conf t p))) ↔ IsGiven terms m (Rule.SameConf p) (a ∷ b ∷ []) c
same_conf_given terms m p a b c t u d h k l f =
    let r : statement_of terms b ≡ Requires (Equals (term_at terms t) (term_at terms u)) = ap (statement_of terms) f in
    let n : IsStatementOver terms m (Holds (Same t u)) = subst (λ z. IsStatementOver terms m z) f k in (
      (λ i. (
        term_at terms t,
        term_at terms u,
        (let j : statement_of terms a ≡ Requires (Conforms (term_at terms u) p) = ap (statement_of terms) i.0 in cc),
        ap (statement_of terms) i.1,
      )),
      λ q. (let i : statement_of terms a ∷ statement_of terms b ∷ [] ≡ Requires (Conforms q.1 p) ∷ Requires (Equals q.0 q.1) ∷ [] = q.2 in
          let j : statement_of terms c ≡ Requires (Conforms q.0 p) = q.3 in
          let x = conf_shape terms a q.1 p (cc) in
          let y = conf_shape terms c q.0 p j in
          let ox : IsStatementOver terms m (Holds (Conf x.0 p)) = subst (λ z. IsStatementOver terms m z) x.1 h in
          let oy : IsStatementOver terms m (Holds (Conf y.0 p)) = subst (λ z. IsStatementOver terms m z) y.1 l in (
            x.1 ∙ ap (λ z. Holds (Conf z p)) (d x.0 u ox.0 n.1 (let z = x.2 in cc)),
            y.1 ∙ ap (λ z. Holds (Conf z p)) (d y.0 t oy.0 n.0 (let z = y.2 in cc)),
          )),
    )

pub same_layout_given : (terms : List Term) (m : IdFacts) (a b c : Statement) (t u : TermId) → AreDistinct terms → IsStatementOver terms m a
    → IsStatementOver terms m b → IsStatementOver terms m c
    → b ≡ Holds (Same t u) → ((a ≡ Holds (Layout u)) × (c ≡ Holds (Layout t))) ↔ IsGiven terms m Rule.SameLayout (a ∷ b ∷ []) c
same_layout_given terms m a b c t u d h k l f =
    let r : statement_of terms b ≡ Requires (Equals (term_at terms t) (term_at terms u)) = ap (statement_of terms) f in
    let n : IsStatementOver terms m (Holds (Same t u)) = subst (λ z. IsStatementOver terms m z) f k in (
      (λ i. (
        term_at terms t,
        term_at terms u,
        (let j : statement_of terms a ≡ Requires (IsAnyObject (term_at terms u)) = ap (statement_of terms) i.0 in cc),
        ap (statement_of terms) i.1,
      )),
      λ q. (let i : statement_of terms a ∷ statement_of terms b ∷ [] ≡ Requires (IsAnyObject q.1) ∷ Requires (Equals q.0 q.1) ∷ [] = q.2 in
          let j : statement_of terms c ≡ Requires (IsAnyObject q.0) = q.3 in
          (same_statement terms m d a (Holds (Layout u)) h n.1 (cc), same_statement terms m d c (Holds (Layout t)) l n.0 (cc))),
    )

-- ---- tests of ids

pub same_id : (a b : TermId) → nat_eq a.place b.place ≡ true → a ≡ b
same_id a b e = let n = eqb-true a.place b.place e in λ i. record { place = n i }

pub id_same : (a b : TermId) → a ≡ b → nat_eq a.place b.place ≡ true
id_same a b e = eq-eqb a.place b.place (ap (λ (z : TermId). z.place) e)

pub same_proto : (p q : ProtoId) → nat_eq p.rank q.rank ≡ true → p ≡ q
same_proto p q e = let n = eqb-true p.rank q.rank e in λ i. record { rank = n i }

pub proto_same : (p q : ProtoId) → p ≡ q → nat_eq p.rank q.rank ≡ true
proto_same p q e = eq-eqb p.rank q.rank (ap (λ (z : ProtoId). z.rank) e)
