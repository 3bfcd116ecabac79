-- The rules that take something from a protocol, over the ids of a table of type parameters.
use Rattle.std.proofs.Common.{◌≡◌, ℕ, ◌<◌, List, [], ◌∷◌, Contains, map, refl, sym, ap, subst, ◌∙◌, ◌↔◌}
use Rattle.swreq_param.specs.declared.ids.AssocId.{AssocId}
use Rattle.swreq_param.specs.declared.ids.NameId.{NameId}
use Rattle.swreq_param.specs.declared.ids.ProtoId.{ProtoId}
use Rattle.swreq_param.specs.declared.ids.TermId.{TermId}
use Rattle.swreq_param.specs.declared.ids.Step.{Step}
use Rattle.swreq_param.specs.declared.ids.Step.TheVariants.{Bound, Name}
use Rattle.swreq_param.specs.Terms.{Term}
use Rattle.swreq_param.specs.Terms.Term.{Member}
use Rattle.swreq_param.specs.Tables.{term_at, AreDistinct}
use Rattle.swreq_derive.specs.declared.requirements.Requirement.{Requirement}
use Rattle.swreq_derive.specs.declared.requirements.Requirement.TheVariants.{Conf, Layout, Same}
use Rattle.swreq_derive.specs.declared.requirements.Statement.{Statement}
use Rattle.swreq_derive.specs.declared.requirements.Statement.TheVariants.{Valid, Holds}
use Rattle.swreq_derive.specs.declared.lines.DerivRule.TheVariants as Rule
use Rattle.swreq_derive.specs.Derivation.{TermRequirement, for_self}
use Rattle.swreq_derive.specs.Derivation.TermRequirement.{Conforms, IsAnyObject, Equals}
use Rattle.swreq_derive.specs.Derivation.TermStatement.{IsValid, Requires}
use Rattle.swreq_derive.specs.Facts.{requirement_of, statement_of, IdFacts, AreOneToOne, AreFactsOf, IsRequirementOver, IsStatementOver}
use Rattle.swreq_derive.specs.Instances.{HasNumber}
use Rattle.swreq_derive.specs.Lines.{IsGiven}
use Rattle.swreq_derive.proofs.InstanceLemmas.{conf_shape, layout_shape, same_shape, number_map, map_number, one_number, contains_number}

-- P declares A, as d
abbrev pub IsDeclared : IdFacts → ProtoId → NameId → AssocId → Type 0
IsDeclared m p a d = Contains m.associated_types (record { proto = p; name = a; assoc = d })

pub assoc_name_given : (terms : List Term) (m : IdFacts) (p q : ProtoId) (a : NameId) (x : AssocId) (f c : Statement) (t v : TermId)
    → f ≡ Holds (Conf t q) → c ≡ Valid v → IsDeclared m p a x
    → ((q ≡ p) × (term_at terms v ≡ Member (term_at terms t) (Name a))) ↔ IsGiven terms m (Rule.AssocName p a) (f ∷ []) c
assoc_name_given terms m p q a x f c t v e g k =
    let s : statement_of terms f ≡ Requires (Conforms (term_at terms t) q) = ap (statement_of terms) e in
    let r : statement_of terms c ≡ IsValid (term_at terms v) = ap (statement_of terms) g in (
      (λ i. (term_at terms t, x, (let j : q ≡ p = i.0 in cc), r ∙ ap IsValid i.1, k)),
      λ w. (let i : statement_of terms f ∷ [] ≡ Requires (Conforms w.0 p) ∷ [] = w.2 in
          let j : statement_of terms c ≡ IsValid (Member w.0 (Name a)) = w.3 in ((cc), cc)),
    )

pub assoc_decl_given : (terms : List Term) (m : IdFacts) (p q : ProtoId) (a : NameId) (x : AssocId) (f c : Statement) (t v : TermId)
    → AreOneToOne m.associated_types
    → f ≡ Holds (Conf t q) → c ≡ Valid v → IsDeclared m p a x
    → ((q ≡ p) × (term_at terms v ≡ Member (term_at terms t) (Bound x))) ↔ IsGiven terms m (Rule.AssocDecl p a) (f ∷ []) c
assoc_decl_given terms m p q a x f c t v one e g k =
    let s : statement_of terms f ≡ Requires (Conforms (term_at terms t) q) = ap (statement_of terms) e in
    let r : statement_of terms c ≡ IsValid (term_at terms v) = ap (statement_of terms) g in (
      (λ i. (term_at terms t, x, (let j : q ≡ p = i.0 in cc), r ∙ ap IsValid i.1, k)),
      λ w. (let i : statement_of terms f ∷ [] ≡ Requires (Conforms w.0 p) ∷ [] = w.2 in
          let j : statement_of terms c ≡ IsValid (Member w.0 (Bound w.1)) = w.3 in
          let y : x ≡ w.1 = one.of_pair p a x w.1 k w.4 in ((cc), cc)),
    )

pub assoc_bind_given : (terms : List Term) (m : IdFacts) (p q : ProtoId) (a : NameId) (x : AssocId) (f c : Statement) (t l r : TermId)
    → AreOneToOne m.associated_types
    → f ≡ Holds (Conf t q) → c ≡ Holds (Same l r) → IsDeclared m p a x
    → ((q ≡ p) × (term_at terms l ≡ Member (term_at terms t) (Bound x)) × (term_at terms r ≡ Member (term_at terms t) (Name a)))
    ↔ IsGiven terms m (Rule.AssocBind p a) (f ∷ []) c
assoc_bind_given terms m p q a x f c t l r one e g k =
    let s : statement_of terms f ≡ Requires (Conforms (term_at terms t) q) = ap (statement_of terms) e in
    let h : statement_of terms c ≡ Requires (Equals (term_at terms l) (term_at terms r)) = ap (statement_of terms) g in (
      (λ i. (
        term_at terms t,
        x,
        (let j : q ≡ p = i.0 in cc),
        (let y = i.1 in let z = i.2 in cc),
        k,
      )),
      λ w. (let i : statement_of terms f ∷ [] ≡ Requires (Conforms w.0 p) ∷ [] = w.2 in
          let j : statement_of terms c ≡ Requires (Equals (Member w.0 (Bound w.1)) (Member w.0 (Name a))) = w.3 in
          let y : x ≡ w.1 = one.of_pair p a x w.1 k w.4 in ((cc), (cc), cc)),
    )

pub assoc_conf_given : (terms : List Term) (m : IdFacts) (p q s z : ProtoId) (n : ℕ) (f c : Statement) (t u v : TermId)
    → f ≡ Holds (Conf t q) → c ≡ Holds (Conf v s) → HasNumber n (m.of_protocol p) (Conf u z)
    → ((q ≡ p) × (s ≡ z) × (term_at terms v ≡ for_self (term_at terms t) (term_at terms u)))
    ↔ IsGiven terms m (Rule.AssocConf p n) (f ∷ []) c
assoc_conf_given terms m p q s z n f c t u v e g k =
    let h : statement_of terms f ≡ Requires (Conforms (term_at terms t) q) = ap (statement_of terms) e in
    let r : statement_of terms c ≡ Requires (Conforms (term_at terms v) s) = ap (statement_of terms) g in (
      (λ i. (
        term_at terms t,
        term_at terms u,
        z,
        (let j : q ≡ p = i.0 in cc),
        (let j : s ≡ z = i.1 in let y = i.2 in cc),
        map_number (requirement_of terms) n (m.of_protocol p) (Conf u z) k,
      )),
      λ w. (let i : statement_of terms f ∷ [] ≡ Requires (Conforms w.0 p) ∷ [] = w.3 in
          let j : statement_of terms c ≡ Requires (Conforms (for_self w.0 w.1) w.2) = w.4 in
          let y : Conforms (term_at terms u) z ≡ Conforms w.1 w.2 = one_number n (map (requirement_of terms) (m.of_protocol p))
          (Conforms (term_at terms u) z) (Conforms w.1 w.2) (map_number (requirement_of terms) n (m.of_protocol p) (Conf u z) k) w.5 in
          ((cc), (cc), cc)),
    )

pub assoc_layout_given : (terms : List Term) (m : IdFacts) (p q : ProtoId) (n : ℕ) (f c : Statement) (t u v : TermId)
    → f ≡ Holds (Conf t q) → c ≡ Holds (Layout v) → HasNumber n (m.of_protocol p) (Layout u)
    → ((q ≡ p) × (term_at terms v ≡ for_self (term_at terms t) (term_at terms u))) ↔ IsGiven terms m (Rule.AssocLayout p n) (f ∷ []) c
assoc_layout_given terms m p q n f c t u v e g k =
    let h : statement_of terms f ≡ Requires (Conforms (term_at terms t) q) = ap (statement_of terms) e in
    let r : statement_of terms c ≡ Requires (IsAnyObject (term_at terms v)) = ap (statement_of terms) g in (
      (λ i. (
        term_at terms t,
        term_at terms u,
        (let j : q ≡ p = i.0 in cc),
        (let y = i.1 in cc),
        map_number (requirement_of terms) n (m.of_protocol p) (Layout u) k,
      )),
      λ w. (let i : statement_of terms f ∷ [] ≡ Requires (Conforms w.0 p) ∷ [] = w.2 in
          let j : statement_of terms c ≡ Requires (IsAnyObject (for_self w.0 w.1)) = w.3 in
          let y : IsAnyObject (term_at terms u) ≡ IsAnyObject w.1 = one_number n (map (requirement_of terms) (m.of_protocol p))
          (IsAnyObject (term_at terms u)) (IsAnyObject w.1) (map_number (requirement_of terms) n (m.of_protocol p) (Layout u) k) w.4 in
          ((cc), cc)),
    )

pub assoc_same_given : (terms : List Term) (m : IdFacts) (p q : ProtoId) (n : ℕ) (f c : Statement) (t u v x y : TermId)
    → f ≡ Holds (Conf t q) → c ≡ Holds (Same x y) → HasNumber n (m.of_protocol p) (Same u v)
    → ((q ≡ p) × (term_at terms x ≡ for_self (term_at terms t) (term_at terms u))
    × (term_at terms y ≡ for_self (term_at terms t) (term_at terms v)))
    ↔ IsGiven terms m (Rule.AssocSame p n) (f ∷ []) c
assoc_same_given terms m p q n f c t u v x y e g k =
    let h : statement_of terms f ≡ Requires (Conforms (term_at terms t) q) = ap (statement_of terms) e in
    let r : statement_of terms c ≡ Requires (Equals (term_at terms x) (term_at terms y)) = ap (statement_of terms) g in (
      (λ i. (
        term_at terms t,
        term_at terms u,
        term_at terms v,
        (let j : q ≡ p = i.0 in cc),
        (let a = i.1 in let b = i.2 in cc),
        map_number (requirement_of terms) n (m.of_protocol p) (Same u v) k,
      )),
      λ w. (let i : statement_of terms f ∷ [] ≡ Requires (Conforms w.0 p) ∷ [] = w.3 in
          let j : statement_of terms c ≡ Requires (Equals (for_self w.0 w.1) (for_self w.0 w.2)) = w.4 in
          let z : Equals (term_at terms u) (term_at terms v) ≡ Equals w.1 w.2 =
          one_number n (map (requirement_of terms) (m.of_protocol p)) (Equals (term_at terms u) (term_at terms v)) (Equals w.1 w.2)
          (map_number (requirement_of terms) n (m.of_protocol p) (Same u v) k) w.5 in
          ((cc), (cc), cc)),
    )

-- a premise that says that something conforms to P is of P
pub same_protocol : (terms : List Term) (p q : ProtoId) (t : TermId) (f : Statement) (u : Term) → f ≡ Holds (Conf t q)
    → map (statement_of terms) (f ∷ []) ≡ Requires (Conforms u p) ∷ [] → q ≡ p
same_protocol terms p q t f u e g =
    let s : statement_of terms f ≡ Requires (Conforms (term_at terms t) q) = ap (statement_of terms) e in
    let i : statement_of terms f ∷ [] ≡ Requires (Conforms u p) ∷ [] = g in cc

-- From [U : P] and [T == U] the members T.X and U.X are equal, where X is what P makes of a declared name.
same_member_given : (terms : List Term) (m : IdFacts) (member : AssocId → Step) (p : ProtoId) (a : NameId) (x : AssocId)
    (f s c : Statement) (t u l r : TermId)
    → AreDistinct terms → IsStatementOver terms m f → IsStatementOver terms m s → s ≡ Holds (Same t u) → c ≡ Holds (Same l r)
    → IsDeclared m p a x → ((d : AssocId) → IsDeclared m p a d → member x ≡ member d)
    → ((f ≡ Holds (Conf u p)) × (term_at terms l ≡ Member (term_at terms t) (member x))
    × (term_at terms r ≡ Member (term_at terms u) (member x)))
    ↔ ((v : Term) × (w : Term) × (d : AssocId)
    × (map (statement_of terms) (f ∷ s ∷ []) ≡ Requires (Conforms w p) ∷ Requires (Equals v w) ∷ [])
    × (statement_of terms c ≡ Requires (Equals (Member v (member d)) (Member w (member d)))) × IsDeclared m p a d)
same_member_given terms m member p a x f s c t u l r d h o e g k one =
    let n : statement_of terms s ≡ Requires (Equals (term_at terms t) (term_at terms u)) = ap (statement_of terms) e in
    let b : statement_of terms c ≡ Requires (Equals (term_at terms l) (term_at terms r)) = ap (statement_of terms) g in (
      (λ i. (
        term_at terms t,
        term_at terms u,
        x,
        (let j : statement_of terms f ≡ Requires (Conforms (term_at terms u) p) = ap (statement_of terms) i.0 in cc),
        (let y = i.1 in let z = i.2 in cc),
        k,
      )),
      λ w. (let i : statement_of terms f ∷ statement_of terms s ∷ [] ≡ Requires (Conforms w.1 p) ∷ Requires (Equals w.0 w.1) ∷ [] = w.3 in
          let j : statement_of terms c ≡ Requires (Equals (Member w.0 (member w.2)) (Member w.1 (member w.2))) = w.4 in
          let v : member x ≡ member w.2 = one w.2 w.5 in
          let y = conf_shape terms f w.1 p (cc) in
          let oy : IsStatementOver terms m (Holds (Conf y.0 p)) = subst (λ z. IsStatementOver terms m z) y.1 h in
          let ou : IsStatementOver terms m (Holds (Same t u)) = subst (λ z. IsStatementOver terms m z) e o in
          (y.1 ∙ ap (λ z. Holds (Conf z p)) (d y.0 u oy.0 ou.1 (let z = y.2 in cc)), (cc), cc)),
    )

pub same_name_given : (terms : List Term) (m : IdFacts) (p : ProtoId) (a : NameId) (x : AssocId) (f s c : Statement) (t u l r : TermId)
    → AreDistinct terms
    → IsStatementOver terms m f → IsStatementOver terms m s
    → s ≡ Holds (Same t u) → c ≡ Holds (Same l r) → IsDeclared m p a x
    → ((f ≡ Holds (Conf u p)) × (term_at terms l ≡ Member (term_at terms t) (Name a))
    × (term_at terms r ≡ Member (term_at terms u) (Name a))) ↔ IsGiven terms m (Rule.SameName p a) (f ∷ s ∷ []) c
same_name_given terms m p a x f s c t u l r d h o e g k =
    same_member_given terms m (λ _. Name a) p a x f s c t u l r d h o e g k (λ y i. refl)

pub same_decl_given : (terms : List Term) (m : IdFacts) (p : ProtoId) (a : NameId) (x : AssocId) (f s c : Statement) (t u l r : TermId)
    → AreDistinct terms → AreOneToOne m.associated_types
    → IsStatementOver terms m f → IsStatementOver terms m s
    → s ≡ Holds (Same t u) → c ≡ Holds (Same l r) → IsDeclared m p a x
    → ((f ≡ Holds (Conf u p)) × (term_at terms l ≡ Member (term_at terms t) (Bound x))
    × (term_at terms r ≡ Member (term_at terms u) (Bound x))) ↔ IsGiven terms m (Rule.SameDecl p a) (f ∷ s ∷ []) c
same_decl_given terms m p a x f s c t u l r d one h o e g k =
    same_member_given terms m Bound p a x f s c t u l r d h o e g k (λ y i. ap Bound (one.of_pair p a x y k i))

-- ---- requirements of a protocol that are not there, or of another kind

pub requirement_same : {r x : Requirement} → Holds r ≡ Holds x → r ≡ x
requirement_same e = cc

-- what is read as a requirement of a protocol by its number is one
pub number_read : (m : IdFacts) (p : ProtoId) (n : ℕ) (r : Requirement) {list : List Requirement} → list ≡ m.of_protocol p
    → HasNumber n list r → HasNumber n (m.of_protocol p) r
number_read m p n r e h = subst (λ z. HasNumber n z r) e h

pub number_used : (m : IdFacts) (p : ProtoId) (n : ℕ) (r x : Requirement) {list : List Requirement} → list ≡ m.of_protocol p
    → HasNumber n list r → Holds r ≡ Holds x → HasNumber n (m.of_protocol p) x
number_used m p n r x e h same =
    subst (λ z. HasNumber n (m.of_protocol p) z) (requirement_same same) (number_read m p n r e h)

pub used_is_of : (terms : List Term) (m : IdFacts) (p : ProtoId) (n : ℕ) (x : Requirement) → AreFactsOf terms m → p.rank < m.protocols
    → HasNumber n (m.of_protocol p) x → IsRequirementOver terms m x
used_is_of terms m p n x f h k = f.protocols p x h (contains_number n (m.of_protocol p) x k)

pub no_requirement : (terms : List Term) (m : IdFacts) (p : ProtoId) (n : ℕ) {list : List Requirement} → list ≡ m.of_protocol p
    → ((r : Requirement) → HasNumber n list r → ⊥)
    → (x : TermRequirement) → HasNumber n (map (requirement_of terms) (m.of_protocol p)) x → ⊥
no_requirement terms m p n e none x h =
    let k = number_map (requirement_of terms) n (m.of_protocol p) x h in none k.0 (subst (λ z. HasNumber n z k.0) (sym e) k.1)

used : (terms : List Term) (m : IdFacts) (p : ProtoId) (n : ℕ) (r : Requirement) (x : TermRequirement) → HasNumber n (m.of_protocol p) r
    → HasNumber n (map (requirement_of terms) (m.of_protocol p)) x → statement_of terms (Holds r) ≡ Requires x
used terms m p n r x h k =
    ap Requires (one_number n (map (requirement_of terms) (m.of_protocol p)) (requirement_of terms r) x
    (map_number (requirement_of terms) n (m.of_protocol p) r h) k)

pub no_conf : (terms : List Term) (m : IdFacts) (p : ProtoId) (n : ℕ) (r : Requirement) (f c : Statement) → HasNumber n (m.of_protocol p) r
    → ((x : TermId) (q : ProtoId) → Holds r ≡ Holds (Conf x q) → ⊥) → IsGiven terms m (Rule.AssocConf p n) (f ∷ []) c → ⊥
no_conf terms m p n r f c h none w =
    let s = conf_shape terms (Holds r) w.1 w.2 (used terms m p n r (Conforms w.1 w.2) h w.5) in none s.0 w.2 s.1

pub no_layout : (terms : List Term) (m : IdFacts) (p : ProtoId) (n : ℕ) (r : Requirement) (f c : Statement)
    → HasNumber n (m.of_protocol p) r
    → ((x : TermId) → Holds r ≡ Holds (Layout x) → ⊥) → IsGiven terms m (Rule.AssocLayout p n) (f ∷ []) c → ⊥
no_layout terms m p n r f c h none w =
    let s = layout_shape terms (Holds r) w.1 (used terms m p n r (IsAnyObject w.1) h w.4) in none s.0 s.1

pub no_same : (terms : List Term) (m : IdFacts) (p : ProtoId) (n : ℕ) (r : Requirement) (f c : Statement) → HasNumber n (m.of_protocol p) r
    → ((x y : TermId) → Holds r ≡ Holds (Same x y) → ⊥) → IsGiven terms m (Rule.AssocSame p n) (f ∷ []) c → ⊥
no_same terms m p n r f c h none w =
    let s = same_shape terms (Holds r) w.1 w.2 (used terms m p n r (Equals w.1 w.2) h w.5) in none s.0 s.1 s.2
