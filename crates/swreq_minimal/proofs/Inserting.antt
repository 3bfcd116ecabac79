-- One requirement more in a strictly sorted list.
use Rattle.std.proofs.Common.{◌≡◌, ◌⊎◌, ◌↔◌, ◌∙◌, ◌<◌, ◌≤◌, ◌+◌, ℕ, List, [], ◌∷◌, ◌++◌, take, drop, get_or, length, Contains, refl, sym, ap, subst, inl, inr, arith, drop-cons, length-take-le, length-append, append-nil}
use Rattle.std.specs.Prelude.{insert}
use Rattle.std.proofs.Math.Seq.{take-append_seam, drop-append_seam}
use Rattle.std.proofs.lemmas.List.{take-append-drop, take_more, take_all, map-append}
use Rattle.std.proofs.lemmas.List.Elements.{Contains-append_left, Contains-append_right, Contains-append_cases, Contains-push_cases}
use Rattle.swreq_machine.specs.swreq_param.Order.{TermBefore}
use Rattle.swreq_machine.specs.swreq_param.Tables.{AreDistinct}
use Rattle.swreq_machine.specs.swreq_param.Terms.{Term}
use Rattle.swreq_candidates.proofs.swreq_param.TotalOrder.{strict, transitive}
use Rattle.swreq_machine.specs.swreq_derive.declared.requirements.Requirement.{Requirement}
use Rattle.swreq_machine.specs.swreq_derive.declared.requirements.Requirement.TheVariants.{Conf, Layout, Same}
use Rattle.swreq_machine.specs.swreq_derive.Derivation.{Source, TermFacts, TermRequirement}
use Rattle.swreq_machine.specs.swreq_derive.Facts.{requirement_of}
use Rattle.swreq_machine.proofs.swreq_lemmas.Elements.{same_heads}
use Rattle.swreq_machine.proofs.swreq_lemmas.Members.{first_member, later_member, member_cases, no_member}
use Rattle.swreq_machine.specs.swreq_lowering.ByTable.{HasIdsOf}
use Rattle.swreq_candidates.specs.swreq_canonical.Canonical.{IsCanonical, principal}
use Rattle.swreq_candidates.specs.swreq_canonical.CanonicalOrder.{IsStrictlySorted, KindBefore, RequirementBefore}
use Rattle.swreq_candidates.proofs.swreq_canonical.Ordered.{canonical_total, transitive_requirements}
use Rattle.swreq_machine.specs.swreq_valid.Plans.{listed}
use Rattle.swreq_minimal.specs.Sorted.{BelongsAt}

-- what stands where nothing is
abbrev pub any : Requirement
any = Conf (record { place = 0 }) (record { rank = 0 })

-- ---- the order of two requirements

pub not_after : (r q : TermRequirement) → TermBefore (principal q) (principal r) → RequirementBefore r q → ⊥
not_after r q b (inl h) = strict (principal r) (transitive (principal r) (principal q) (principal r) h b)
not_after r q b (inr h) = strict (principal r) (subst (λ t. TermBefore t (principal r)) (sym h.0) b)

pub by_kinds : (r q : TermRequirement) → principal r ≡ principal q → RequirementBefore r q → KindBefore r q
by_kinds r q e (inl h) = absurd (strict (principal q) (subst (λ t. TermBefore t (principal q)) e h))
by_kinds r q e (inr h) = h.1

-- ---- equal requirements have equal ids

pub one_requirement : (terms : List Term) → AreDistinct terms → (r q : Requirement) → HasIdsOf terms r → HasIdsOf terms q
    → requirement_of terms r ≡ requirement_of terms q → r ≡ q
one_requirement terms distinct (Conf t p) (Conf u o) h k e =
    let same : t ≡ u = distinct t u h k cc in
    let protos : p ≡ o = cc in
    λ i. Conf (same i) (protos i)
one_requirement terms distinct (Layout t) (Layout u) h k e = ap Layout (distinct t u h k cc)
one_requirement terms distinct (Same t u) (Same v w) h k e =
    let lefts : t ≡ v = distinct t v h.0 k.0 cc in
    let rights : u ≡ w = distinct u w h.1 k.1 cc in
    λ i. Same (lefts i) (rights i)
one_requirement terms distinct (Conf t p) (Layout u) h k e = cc
one_requirement terms distinct (Conf t p) (Same u v) h k e = cc
one_requirement terms distinct (Layout t) (Conf u p) h k e = cc
one_requirement terms distinct (Layout t) (Same u v) h k e = cc
one_requirement terms distinct (Same t u) (Conf v p) h k e = cc
one_requirement terms distinct (Same t u) (Layout v) h k e = cc

-- ---- the members of a list over ids

pub in_listed : (terms : List Term) (r : Requirement) (rs : List Requirement) → Contains rs r
    → Contains (listed terms rs) (requirement_of terms r)
in_listed terms r [] h = no_member r h
in_listed terms r (q ∷ rs) h = elim (member_cases q r rs h) [
  | inl e ↦ subst (λ z. Contains (requirement_of terms q ∷ listed terms rs) (requirement_of terms z)) (sym e)
      (first_member (requirement_of terms q) (listed terms rs))
  | inr k ↦ later_member (requirement_of terms q) (requirement_of terms r) (listed terms rs) (in_listed terms r rs k)
]

pub from_listed : (terms : List Term) (r : TermRequirement) (rs : List Requirement) → Contains (listed terms rs) r → (q : Requirement)
    × Contains rs q × (requirement_of terms q ≡ r)
from_listed terms r [] h = no_member r h
from_listed terms r (q ∷ rs) h = elim (member_cases (requirement_of terms q) r (listed terms rs) h) [
  | inl e ↦ (q, first_member q rs, sym e)
  | inr k ↦ (let (z, i, e) = from_listed terms r rs k in (z, later_member q z rs i, e))
]

-- ---- places

module _ (terms : List Term) (found : List Requirement) (r : Requirement) where
  -- none of the first ones is r, or comes after it
  pub record NoneYet (xs : List Requirement) : Type 0 where
    pub not_same : (q : Requirement) → Contains xs q → requirement_of terms q ≡ requirement_of terms r → ⊥
    pub not_later : (q : Requirement) → Contains xs q → RequirementBefore (requirement_of terms r) (requirement_of terms q) → ⊥

  pub nothing_yet : NoneYet []
  nothing_yet = record { not_same = λ q h. no_member q h; not_later = λ q h. no_member q h }

  pub none_more : (k : ℕ) (d : Requirement) → k < length found → NoneYet (take k found)
      → (requirement_of terms (get_or found k d) ≡ requirement_of terms r → ⊥)
      → (RequirementBefore (requirement_of terms r) (requirement_of terms (get_or found k d)) → ⊥) → NoneYet (take (k + 1) found)
  none_more k d l none n m = record {
    not_same = λ q h. elim (Contains-push_cases (take k found) (get_or found k d) q (subst (λ z. Contains z q) (take_more found k d l) h)) [
      | inl i ↦ none.not_same q i
      | inr e ↦ subst (λ z. requirement_of terms z ≡ requirement_of terms r → ⊥) e n
    ];
    not_later =
        λ q h. elim (Contains-push_cases (take k found) (get_or found k d) q (subst (λ z. Contains z q) (take_more found k d l) h)) [
          | inl i ↦ none.not_later q i
          | inr e ↦ subst (λ z. RequirementBefore (requirement_of terms r) (requirement_of terms z) → ⊥) e m
        ];
  }

  pub belongs_here : (k : ℕ) (d : Requirement) → k < length found → NoneYet (take k found)
      → RequirementBefore (requirement_of terms r) (requirement_of terms (get_or found k d)) → BelongsAt terms found r k
  belongs_here k d l none b = record {
    before = take k found;
    after = drop k found;
    split = sym (take-append-drop k found);
    place_is = length-take-le k found (omega (arith, l));
    not_same = none.not_same;
    not_later = none.not_later;
    next = λ q rest e. subst (λ z. RequirementBefore (requirement_of terms r) (requirement_of terms z))
        (same_heads (sym (drop-cons found k d l) ∙ e)) b;
  }

  pub belongs_last : (k n : ℕ) → length found ≤ k → n ≡ length found → NoneYet (take k found) → BelongsAt terms found r n
  belongs_last k n l e none = record {
    before = found;
    after = [];
    split = sym (append-nil found);
    place_is = sym e;
    not_same = λ q h. none.not_same q (subst (λ z. Contains z q) (sym (take_all k found l)) h);
    not_later = λ q h. none.not_later q (subst (λ z. Contains z q) (sym (take_all k found l)) h);
    next = λ q rest h. cc;
  }

-- ---- insertion

insertion_sorted : (xs ys : List TermRequirement) (r : TermRequirement) → IsStrictlySorted (xs ++ ys)
    → ((x : TermRequirement) → Contains xs x → RequirementBefore x r)
    → ((y : TermRequirement) (zs : List TermRequirement) → ys ≡ y ∷ zs → RequirementBefore r y) → IsStrictlySorted (xs ++ (r ∷ ys))
insertion_sorted [] [] r s b a = ((λ q h. no_member q h), tt)
insertion_sorted [] (y ∷ ys) r s b a = (
  (λ q h. elim (member_cases y q ys h) [
    | inl e ↦ subst (λ z. RequirementBefore r z) (sym e) (a y ys refl)
    | inr k ↦ transitive_requirements r y q (a y ys refl) (s.0 q k)
  ]),
  s,
)
insertion_sorted (x ∷ xs) ys r s b a = (
  (λ q h. elim (Contains-append_cases xs (r ∷ ys) q h) [
    | inl k ↦ s.0 q (Contains-append_left xs ys q k)
    | inr k ↦ elim (member_cases r q ys k) [
      | inl e ↦ subst (λ z. RequirementBefore x z) (sym e) (b x (first_member x xs))
      | inr j ↦ s.0 q (Contains-append_right xs ys q j)
    ]
  ]),
  insertion_sorted xs ys r s.1 (λ q h. b q (later_member x q xs h)) a,
)

module _ (terms : List Term) (found : List Requirement) (r : Requirement) (k : ℕ) (at : BelongsAt terms found r k) where
  abbrev front : List TermRequirement
  front = listed terms at.before

  abbrev rest : List TermRequirement
  rest = listed terms at.after

  pub parts : insert found k r ≡ at.before ++ (r ∷ at.after)
  parts = subst (λ n. insert found n r ≡ at.before ++ (r ∷ at.after)) at.place_is
      (ap (λ z. insert z (length at.before) r) at.split
      ∙ (λ i. take-append_seam at.before at.after i ++ (r ∷ drop-append_seam at.before at.after i)))

  now_is : listed terms (insert found k r) ≡ front ++ (requirement_of terms r ∷ rest)
  now_is = ap (listed terms) parts ∙ map-append (requirement_of terms) at.before (r ∷ at.after)

  old_is : listed terms found ≡ front ++ rest
  old_is = ap (listed terms) at.split ∙ map-append (requirement_of terms) at.before at.after

  pub inserted_members : (q : TermRequirement) → Contains (listed terms (insert found k r)) q
      ↔ (Contains (listed terms found) q ⊎ (q ≡ requirement_of terms r))
  inserted_members q = (
    (λ h. elim (Contains-append_cases front (requirement_of terms r ∷ rest) q (subst (λ z. Contains z q) now_is h)) [
      | inl i ↦ inl (subst (λ z. Contains z q) (sym old_is) (Contains-append_left front rest q i))
      | inr i ↦ elim (member_cases (requirement_of terms r) q rest i) [
        | inl e ↦ inr e
        | inr j ↦ inl (subst (λ z. Contains z q) (sym old_is) (Contains-append_right front rest q j))
      ]
    ]),
    λ h. subst (λ z. Contains z q) (sym now_is) (elim h [
      | inl i ↦ elim (Contains-append_cases front rest q (subst (λ z. Contains z q) old_is i)) [
        | inl j ↦ Contains-append_left front (requirement_of terms r ∷ rest) q j
        | inr j ↦ Contains-append_right front (requirement_of terms r ∷ rest) q (later_member (requirement_of terms r) q rest j)
      ]
      | inr e ↦ Contains-append_right front (requirement_of terms r ∷ rest) q
          (subst (λ z. Contains (requirement_of terms r ∷ rest) z) (sym e) (first_member (requirement_of terms r) rest))
    ]),
  )

  pub inserted_each : (P : Requirement → Type 0) → ((q : Requirement) → Contains found q → P q) → P r → (q : Requirement)
      → Contains (insert found k r) q → P q
  inserted_each P all one q h = elim (Contains-append_cases at.before (r ∷ at.after) q (subst (λ z. Contains z q) parts h)) [
    | inl i ↦ all q (subst (λ z. Contains z q) (sym at.split) (Contains-append_left at.before at.after q i))
    | inr i ↦ elim (member_cases r q at.after i) [
      | inl e ↦ subst P (sym e) one
      | inr j ↦ all q (subst (λ z. Contains z q) (sym at.split) (Contains-append_right at.before at.after q j))
    ]
  ]

  pub inserted_sorted : (f : TermFacts) (s : Source)
      → ((q : TermRequirement) → Contains (listed terms found) q ⊎ (q ≡ requirement_of terms r) → IsCanonical f s q)
      → IsStrictlySorted (listed terms found) → IsStrictlySorted (listed terms (insert found k r))
  inserted_sorted f s c o =
      let own : IsCanonical f s (requirement_of terms r) = c (requirement_of terms r) (inr refl) in
      let in_front : (q : TermRequirement) → Contains front q → IsCanonical f s q
      = λ q h. c q (inl (subst (λ z. Contains z q) (sym old_is) (Contains-append_left front rest q h))) in
      subst IsStrictlySorted (sym now_is)
      (insertion_sorted front rest (requirement_of terms r) (subst IsStrictlySorted old_is o)
      (λ x h. let (y, i, e) = from_listed terms x at.before h in
      elim (canonical_total f s x (requirement_of terms r) (in_front x h) own) [
        | inl b ↦ b
        | inr (inl same) ↦ absurd (at.not_same y i (e ∙ same))
        | inr (inr b) ↦ absurd (at.not_later y i (subst (λ z. RequirementBefore (requirement_of terms r) z) (sym e) b))
      ])
      (λ y zs e. let (x, more, h, i) = first_of at.after y zs e in
      subst (λ z. RequirementBefore (requirement_of terms r) z) i (at.next x more h)))
    where
      first_of : (xs : List Requirement) (y : TermRequirement) (zs : List TermRequirement) → listed terms xs ≡ y ∷ zs
          → (x : Requirement) × (more : List Requirement) × (xs ≡ x ∷ more) × (requirement_of terms x ≡ y)
      first_of [] y zs e = cc
      first_of (x ∷ xs) y zs e = (x, xs, refl, cc)

  pub within : k ≤ length found
  within =
      let e = ap length at.split in
      let p = at.place_is in
      omega (arith, e, p, length-append at.before at.after)

-- the one that is there already
pub there_members : (terms : List Term) (found : List Requirement) (r : Requirement)
    → Contains (listed terms found) (requirement_of terms r)
    → (q : TermRequirement) → Contains (listed terms found) q ↔ (Contains (listed terms found) q ⊎ (q ≡ requirement_of terms r))
there_members terms found r h q = ((λ i. inl i), λ i. elim i [ inl j ↦ j | inr e ↦ subst (λ z. Contains (listed terms found) z) (sym e) h ])
