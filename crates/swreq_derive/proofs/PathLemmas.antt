-- Each derivable conformance has a conformance path, and what a path leads to is derivable.
use Rattle.std.proofs.Common.{◌≡◌, ℕ, suc, ◌-◌, ◌≤◌, ◌⊎◌, inl, inr, true, List, [], ◌∷◌, ◌++◌, length, Some, Contains, slice_get, refl, sym, ap, subst, ◌∙◌, arith}
use Rattle.std.proofs.lemmas.Bool.{cases_order}
use Rattle.std.proofs.lemmas.Option.{slice_get-get_or}
use Rattle.swreq_param.proofs.swreq_lemmas.Elements.{same_heads, same_tails}
use Rattle.swreq_param.specs.declared.ids.ParamId.{ParamId}
use Rattle.swreq_param.specs.declared.ids.ProtoId.{ProtoId}
use Rattle.swreq_param.specs.declared.ids.AssocId.{AssocId}
use Rattle.swreq_param.specs.declared.ids.NameId.{NameId}
use Rattle.swreq_param.specs.declared.ids.Step.TheVariants.{Bound, Name}
use Rattle.swreq_param.specs.Terms.{Term}
use Rattle.swreq_param.specs.Terms.Term.{Generic, Member}
use Rattle.swreq_derive.specs.Derivation.{TermRequirement, TermStatement, TermFacts, Source, Derives, Derivable, Declares, HasRequirement, for_self}
use Rattle.swreq_derive.specs.Derivation.TermRequirement.{Conforms, IsAnyObject, Equals}
use Rattle.swreq_derive.specs.Derivation.TermStatement.{IsValid, Requires}
use Rattle.swreq_derive.specs.Derivation.Source.{Written, SelfOf}
use Rattle.swreq_derive.specs.Derivation.Derives.{generic, conf, same, layout, assoc_name, assoc_decl, assoc_bind, assoc_conf, assoc_same, assoc_layout, reflex, symm, trans, same_conf, same_layout, same_name, same_decl}
use Rattle.swreq_derive.specs.WellFormed.{AreProtocolsWellFormed, IsListWellFormed}
use Rattle.swreq_derive.specs.Instances.{HasNumber}
use Rattle.swreq_derive.specs.Paths.{LeadsOn, IsConformancePath, NumbersBefore, IsGivenPath}
use Rattle.swreq_derive.proofs.Substitution.{stands_for_self, valid_sides}
use Rattle.swreq_derive.proofs.Inversion.{bound_member}
use Rattle.swreq_derive.proofs.InstanceLemmas.{contains_number}

-- what makes the member with a name valid
record IsNamedFor (f : TermFacts) (s : Source) (t : Term) (a : NameId) : Type 0 where
  pub proto : ProtoId
  pub assoc : AssocId
  pub conforms : Derivable f s (Requires (Conforms t proto))
  pub declares : Declares f proto a assoc

named_member : {f : TermFacts} {s : Source} {t : Term} {a : NameId} → Derives f true s (IsValid (Member t (Name a))) → IsNamedFor f s t a
named_member (assoc_name {p = p} {d = d} e h) = record { proto = p; assoc = d; conforms = e; declares = h }

-- Where T equals U, and U conforms to P, what is valid from [τ_0_0 : P] is equal with T and with U for `Self`.
pub same_for_self : (f : TermFacts) (s : Source) (t u : Term) (p : ProtoId) (v : Term) → Derivable f s (Requires (Conforms u p))
    → Derivable f s (Requires (Equals t u))
    → Derivable f (SelfOf p) (IsValid v) → Derivable f s (Requires (Equals (for_self t v) (for_self u v)))
same_for_self f s t u p (Generic g) c e h = e
same_for_self f s t u p (Member v (Name a)) c e h =
    let k = named_member h in
    let i = same_for_self f s t u p v c e (valid_sides f (SelfOf p) (Conforms v k.proto) k.conforms) in
    same_name (stands_for_self f s u p (Requires (Conforms v k.proto)) c k.conforms) i k.declares
same_for_self f s t u p (Member v (Bound d)) c e h =
    let k = bound_member h in
    let i = same_for_self f s t u p v c e (valid_sides f (SelfOf p) (Conforms v k.proto) k.conforms) in
    same_decl (stands_for_self f s u p (Requires (Conforms v k.proto)) c k.conforms) i k.declares

pub number_of : {A : Type 0} (xs : List A) (x : A) → Contains xs x → (n : ℕ) × HasNumber n xs x
number_of xs x h =
    let e : suc h.0 - 1 ≡ h.0 = omega arith in
    (suc h.0, (omega arith, subst (λ k. slice_get xs k ≡ Some x) (sym e) (slice_get-get_or xs h.0 x h.1 ∙ ap Some h.2)))

leads_further : (f : TermFacts) (u t : Term) (q p : ProtoId) (ns : List ℕ) (n : ℕ) (v : Term) (r : ProtoId) → LeadsOn f u q ns t p
    → HasNumber n (f.of_protocol p) (Conforms v r)
    → LeadsOn f u q (ns ++ n ∷ []) (for_self t v) r
leads_further f u t q p [] n v r h k =
    (v, r, subst (λ z. HasNumber n (f.of_protocol z) (Conforms v r)) (sym h.1) k, (ap (λ z. for_self z v) h.0, refl))
leads_further f u t q p (m ∷ ns) n v r h k = (h.0, h.1, h.2, leads_further f (for_self u h.0) t h.1 p ns n v r h.3 k)

-- some conformance path
abbrev pub HasPath : TermFacts → List ParamId → List TermRequirement → Term → ProtoId → Type 0
HasPath f params written t p = (first : ℕ) × (steps : List ℕ) × IsConformancePath f params written first steps t p

abbrev Says : TermFacts → List ParamId → List TermRequirement → TermStatement → Type 0
Says f gs ws (IsValid t) = Unit {0}
Says f gs ws (Requires (Conforms t p)) = HasPath f gs ws t p
Says f gs ws (Requires (IsAnyObject t)) = Unit {0}
Says f gs ws (Requires (Equals t u)) = Unit {0}

-- A path for [T : P] goes on by a requirement of P.
further : (f : TermFacts) (gs : List ParamId) (ws : List TermRequirement) (t u : Term) (p q : ProtoId) → HasPath f gs ws t p
    → Derivable f (Written gs ws) (Requires (Conforms t p)) → Contains (f.of_protocol p) (Conforms u q) → Derivable f (SelfOf p) (IsValid u)
    → HasPath f gs ws (for_self t u) q
further f gs ws t u p q (first, steps, w) c h v =
    let n = number_of (f.of_protocol p) (Conforms u q) h in (
      first,
      steps ++ n.0 ∷ [],
      record {
        start = w.start;
        proto = w.proto;
        is_written = w.is_written;
        subject = for_self w.subject u;
        leads = leads_further f w.start w.subject w.proto p steps n.0 u q w.leads n.1;
        equal = same_for_self f (Written gs ws) w.subject t p u c w.equal v;
      },
    )

-- A path for [U : P] is one for [T : P] where T equals U.
along : (f : TermFacts) (gs : List ParamId) (ws : List TermRequirement) (t u : Term) (p : ProtoId) → HasPath f gs ws u p
    → Derivable f (Written gs ws) (Requires (Equals t u)) → HasPath f gs ws t p
along f gs ws t u p (first, steps, w) e = (
  first,
  steps,
  record {
    start = w.start;
    proto = w.proto;
    is_written = w.is_written;
    subject = w.subject;
    leads = w.leads;
    equal = trans w.equal (symm e);
  },
)

says : {f : TermFacts} {s : Source} {st : TermStatement} → Derives f true s st → (gs : List ParamId) (ws : List TermRequirement)
    → s ≡ Written gs ws → Says f gs ws st
says (generic h) gs ws e = tt
says {f = f} (conf {t = t} {p = p} h v) gs ws e =
    let n = number_of ws (Conforms t p) (subst (λ z. HasRequirement z (Conforms t p)) e h) in (
      n.0,
      [],
      record {
        start = t;
        proto = p;
        is_written = n.1;
        subject = t;
        leads = (refl, refl);
        equal = reflex (subst (λ z. Derivable f z (IsValid t)) e (v refl));
      },
    )
says (same h v w) gs ws e = tt
says (layout h v) gs ws e = tt
says (assoc_name d h) gs ws e = tt
says (assoc_decl d h) gs ws e = tt
says (assoc_bind d h) gs ws e = tt
says {f = f} (assoc_conf {t = t} {u = u} {p = p} {q = q} d h v) gs ws e =
    further f gs ws t u p q (says d gs ws e) (subst (λ z. Derivable f z (Requires (Conforms t p))) e d) h (v refl)
says (assoc_same d h v w) gs ws e = tt
says (assoc_layout d h v) gs ws e = tt
says (reflex d) gs ws e = tt
says (symm d) gs ws e = tt
says (trans d h) gs ws e = tt
says {f = f} (same_conf {t = t} {u = u} {p = p} d h) gs ws e =
    along f gs ws t u p (says d gs ws e) (subst (λ z. Derivable f z (Requires (Equals t u))) e h)
says (same_layout d h) gs ws e = tt
says (same_name d h k) gs ws e = tt
says (same_decl d h k) gs ws e = tt

pub has_path : (f : TermFacts) (gs : List ParamId) (ws : List TermRequirement) (t : Term) (p : ProtoId)
    → Derivable f (Written gs ws) (Requires (Conforms t p)) → HasPath f gs ws t p
has_path f gs ws t p e = says e gs ws refl

-- ---- what a path leads to is derivable, where the protocols are well formed

led : (f : TermFacts) (s : Source) (u : Term) (q : ProtoId) (ns : List ℕ) (t : Term) (p : ProtoId) → AreProtocolsWellFormed f
    → Derivable f s (Requires (Conforms u q)) → LeadsOn f u q ns t p → Derivable f s (Requires (Conforms t p))
led f s u q [] t p w e h =
    subst (λ z. Derivable f s (Requires (Conforms z p))) h.0 (subst (λ z. Derivable f s (Requires (Conforms u z))) h.1 e)
led f s u q (n ∷ ns) t p w e h =
    let k = contains_number n (f.of_protocol q) (Conforms h.0 h.1) h.2 in
    led f s (for_self u h.0) h.1 ns t p w (assoc_conf e k (λ i. w q (Conforms h.0 h.1) k)) h.3

pub path_derives : (f : TermFacts) (gs : List ParamId) (ws : List TermRequirement) (first : ℕ) (steps : List ℕ) (t : Term) (p : ProtoId)
    → AreProtocolsWellFormed f
    → IsListWellFormed f (Written gs ws) → IsConformancePath f gs ws first steps t p → Derivable f (Written gs ws) (Requires (Conforms t p))
path_derives f gs ws first steps t p w usable h =
    let k = contains_number first ws (Conforms h.start h.proto) h.is_written in
    same_conf (led f (Written gs ws) h.start h.proto steps h.subject p w (conf k (λ i. usable (Conforms h.start h.proto) k)) h.leads)
    (symm h.equal)

-- ---- the path that is given is one

one_before : (xs ys : List ℕ) → length xs ≡ length ys → NumbersBefore xs ys ⊎ ((xs ≡ ys) ⊎ NumbersBefore ys xs)
one_before [] [] h = inr (inl refl)
one_before [] (y ∷ ys) h = absurd (omega arith)
one_before (x ∷ xs) [] h = absurd (omega arith)
one_before (x ∷ xs) (y ∷ ys) h = elim (cases_order x y) [
  | inl e ↦ elim (one_before xs ys (omega arith)) [
    | inl b ↦ inl (inr (e, b))
    | inr b ↦ inr (elim b [ inl i ↦ inl (λ j. e j ∷ i j) | inr c ↦ inr (inr (sym e, c)) ])
  ]
  | inr k ↦ elim k [ inl b ↦ inl (inl b) | inr b ↦ inr (inr (inl b)) ]
]

pub given_once : (f : TermFacts) (gs : List ParamId) (ws : List TermRequirement) (t : Term) (p : ProtoId)
    (first other : ℕ) (steps others : List ℕ)
    → IsGivenPath f gs ws first steps t p → IsGivenPath f gs ws other others t p → (first ≡ other) × (steps ≡ others)
given_once f gs ws t p first other steps others a b =
    let short : length steps ≤ length others = a.shortest other others b.path in
    let long : length others ≤ length steps = b.shortest first steps a.path in
    let len : length (first ∷ steps) ≡ length (other ∷ others) = ap suc (at_most_both (length steps) (length others) short long) in
    elim (one_before (first ∷ steps) (other ∷ others) len) [
      | inl h ↦ absurd (b.least first steps a.path (omega arith) h)
      | inr h ↦ elim h [ inl e ↦ (same_heads e, same_tails e) | inr k ↦ absurd (a.least other others b.path (omega arith) k) ]
    ]
  where
    at_most_both : (m n : ℕ) → m ≤ n → n ≤ m → m ≡ n
    at_most_both m n h k = omega arith
