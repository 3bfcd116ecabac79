-- Places of requirements, by the last names of their type parameters.
use Rattle.std.proofs.Common.{◌≡◌, ◌∙◌, ◌↔◌, ◌⊎◌, ◌<◌, ◌≤◌, ◌++◌, ◌∷◌, [], ap, inl, inr, refl, sym, subst, arith, ℕ, suc, zero, List, Contains, Option, Some, None, length, replicate, slice_get, slice_set, slice_index_or}
use Rattle.std.proofs.lemmas.Bool.{cases_eq}
use Rattle.std.proofs.lemmas.List.{get_or-set_other, get_or-set_same, length-replicate, length-set}
use Rattle.std.proofs.lemmas.List.Elements.{Contains-append_cases, Contains-append_left, Contains-append_right}
use Rattle.std.proofs.lemmas.Option.{same_Some, slice_get_within}
use Rattle.std.proofs.Math.Decide.{ℕ_discrete}
use Rattle.swreq_print.proofs.swreq_lemmas.Stable.{Stable, decided_stable, each_way_stable, given_stable, member_decided}
use Rattle.swreq_print.proofs.swreq_lemmas.Members.{first_member, member_cases, no_member}
use Rattle.swreq_valid.specs.swreq_param.declared.ids.NameId.{NameId}
use Rattle.swreq_valid.specs.swreq_param.declared.ids.ProtoId.{ProtoId}
use Rattle.swreq_reqsig.specs.declared.outlines.Outline.{Outline}
use Rattle.swreq_reqsig.specs.declared.outlines.Outline.TheVariants.{Conformance, Object, Equality}
use Rattle.swreq_reqsig.specs.Named.{AreNamed, AreNamedBefore, AreNoted, IsNoted, Names, NamesAt, kept_for, list_of}

-- ---- one place more

one_list : (a b : Option NameId) → list_of a ≡ list_of b → a ≡ b
one_list None None e = refl
one_list None (Some b) e = absurd (omega (arith, e))
one_list (Some a) None e = absurd (omega (arith, e))
one_list (Some a) (Some b) e =
    let rank : a.rank ≡ b.rank = omega (arith, e) in let same : a ≡ b = λ i. record { rank = rank i } in ap Some same

module _ (lists : List (List ℕ)) (a : Option NameId) (k : ℕ) (l : list_of a < length lists) where
  abbrev more : List (List ℕ)
  more = slice_set lists (list_of a) (kept_for lists a ++ k ∷ [])

  here : kept_for more a ≡ kept_for lists a ++ k ∷ []
  here = get_or-set_same lists (list_of a) (kept_for lists a ++ k ∷ []) [] l

  there : (b : Option NameId) → (list_of b ≡ list_of a → ⊥) → kept_for more b ≡ kept_for lists b
  there b d = get_or-set_other lists (list_of a) (list_of b) (kept_for lists a ++ k ∷ []) [] d

  one_more : (xs : List ℕ) (j : ℕ) → Contains (xs ++ k ∷ []) j ↔ (Contains xs j ⊎ (j ≡ k))
  one_more xs j = (
    (λ c. elim (Contains-append_cases xs (k ∷ []) j c) [
      | inl h ↦ inl h
      | inr h ↦ inr (elim (member_cases k j [] h) [ inl e ↦ e | inr n ↦ no_member j n ])
    ]),
    λ c. elim c [
      | inl h ↦ Contains-append_left xs (k ∷ []) j h
      | inr e ↦ Contains-append_right xs (k ∷ []) j (subst (Contains (k ∷ [])) (sym e) (first_member k []))
    ],
  )

  noted_each : (b : Option NameId) (j : ℕ) → Contains (kept_for more b) j ↔ (Contains (kept_for lists b) j ⊎ ((j ≡ k) × (a ≡ b)))
  noted_each b j = elim (cases_eq (list_of b) (list_of a)) [
    | inl e ↦ (let same : a ≡ b = sym (one_list b a e) in
        let law = one_more (kept_for lists a) j in
        subst (λ (z : Option NameId). Contains (kept_for more z) j ↔ (Contains (kept_for lists z) j ⊎ ((j ≡ k) × (a ≡ z)))) same (
          (λ c. elim (law.0 (subst (λ (z : List ℕ). Contains z j) here c)) [ inl h ↦ inl h | inr is ↦ inr (is, refl) ]),
          λ c. subst (λ (z : List ℕ). Contains z j) (sym here) (law.1 (elim c [ inl h ↦ inl h | inr is ↦ inr is.0 ])),
        ))
    | inr d ↦ (
      (λ c. inl (subst (λ (z : List ℕ). Contains z j) (there b d) c)),
      λ c. elim c [
        | inl h ↦ subst (λ (z : List ℕ). Contains z j) (sym (there b d)) h
        | inr is ↦ absurd (d (ap list_of (sym is.1)))
      ],
    )
  ]

  pub noted : (new : List (List ℕ)) → new ≡ more → IsNoted a k lists new
  noted new e = subst (IsNoted a k lists) (sym e) (record {
    count = length-set lists (list_of a) (kept_for lists a ++ k ∷ []);
    each = noted_each;
  })

-- ---- one requirement more

pub noted_conformance : (a : Option NameId) (q : ProtoId) (k : ℕ) (old new : List (List ℕ)) → IsNoted a k old new
    → AreNoted (Conformance a q) k old new
noted_conformance a q k old new h = record { count = h.count; each = h.each }

pub noted_object : (a : Option NameId) (p : ProtoId) (k : ℕ) (old new : List (List ℕ)) → IsNoted a k old new
    → AreNoted (Object a p) k old new
noted_object a p k old new h = record { count = h.count; each = h.each }

pub noted_equality : (a b : Option NameId) (p : ProtoId) (k : ℕ) (old mid new : List (List ℕ)) → IsNoted a k old mid → IsNoted b k mid new
    → AreNoted (Equality a b p) k old new
noted_equality a b p k old mid new h g = record {
  count = g.count ∙ h.count;
  each = λ c j. (
    (λ m. elim ((g.each c j).0 m) [
      | inl i ↦ elim ((h.each c j).0 i) [ inl n ↦ inl n | inr is ↦ inr (is.0, inl is.1) ]
      | inr is ↦ inr (is.0, inr is.1)
    ]),
    λ m. elim m [
      | inl i ↦ (g.each c j).1 (inl ((h.each c j).1 (inl i)))
      | inr (is, named) ↦ elim named [
        | inl e ↦ (g.each c j).1 (inl ((h.each c j).1 (inr (is, e))))
        | inr e ↦ (g.each c j).1 (inr (is, e))
      ]
    ],
  );
}

-- ---- all of them

none_kept : (count : ℕ) (n k : ℕ) → Contains (slice_index_or (replicate count []) n []) k → ⊥
none_kept zero n k c = no_member k c
none_kept (suc count) zero k c = no_member k c
none_kept (suc count) (suc n) k c = none_kept count n k c

module _ (outlines : List Outline) (count : ℕ) where
  pub named_none : AreNamedBefore outlines 0 count (replicate count [])
  named_none = record {
    lists_are = length-replicate count [];
    each = λ a k. ((λ c. absurd (none_kept count (list_of a) k c)), λ h. let l = h.0 in absurd (omega (arith, l)));
  }

  pub named_on : (n : ℕ) (outline : Outline) (old new : List (List ℕ)) → slice_get outlines n ≡ Some outline
      → AreNamedBefore outlines n count old → AreNoted outline n old new → AreNamedBefore outlines (suc n) count new
  named_on n outline old new at h g = record {
    lists_are = g.count ∙ h.lists_are;
    each = λ a k. (
      (λ c. elim ((g.each a k).0 c) [
        | inl i ↦ (let m = (h.each a k).0 i in ((let l = m.0 in omega (arith, l)), m.1))
        | inr (is, names) ↦ (omega (arith, is), record { outline = outline; there = ap (slice_get outlines) is ∙ at; names = names })
      ]),
      λ m. (g.each a k).1 (elim (cases_eq k n) [
        | inl is ↦ inr (is, subst (Names a) (same_Some _ _ (sym m.1.there ∙ ap (slice_get outlines) is ∙ at)) m.1.names)
        | inr d ↦ inl ((h.each a k).1 ((let l = m.0 in omega (arith, l, d)), m.1))
      ]),
    );
  }

  pub named_all : (n : ℕ) (lists : List (List ℕ)) → length outlines ≤ n → AreNamedBefore outlines n count lists → AreNamed outlines lists
  named_all n lists l h a k = (
    (λ c. ((h.each a k).0 c).1),
    λ m. (h.each a k).1 ((let w = slice_get_within outlines k m.outline m.there in omega (arith, w, l)), m),
  )

-- ---- that the lists keep the places is decided, so it follows from its truncation

last_decided : (a b : Option NameId) → Dec (a ≡ b)
last_decided a b = elim (ℕ_discrete (list_of a) (list_of b)) [ yes e ↦ yes (one_list a b e) | no n ↦ no (λ e. n (ap list_of e)) ]

names_decided : (a : Option NameId) (outline : Outline) → Dec (Names a outline)
names_decided a (Conformance b q) = last_decided b a
names_decided a (Object b p) = last_decided b a
names_decided a (Equality b c p) = elim (last_decided b a) [
  | yes e ↦ yes (inl e)
  | no left ↦ elim (last_decided c a) [ yes e ↦ yes (inr e) | no right ↦ no (λ h. elim h [ inl e ↦ left e | inr e ↦ right e ]) ]
]

names_at : (outlines : List Outline) (a : Option NameId) (k : ℕ) (o : Option Outline) → slice_get outlines k ≡ o
    → Dec (NamesAt outlines a k)
names_at outlines a k None is = no (λ h. let e : None ≡ Some h.outline = sym is ∙ h.there in cc)
names_at outlines a k (Some outline) is = elim (names_decided a outline) [
  | yes names ↦ yes (record { outline = outline; there = is; names = names })
  | no none ↦ no (λ h. none (subst (Names a) (same_Some _ _ (sym h.there ∙ is)) h.names))
]

pub named_stable : (outlines : List Outline) (lists : List (List ℕ)) → Stable (AreNamed outlines lists)
named_stable outlines lists = given_stable _ (λ a. given_stable _ (λ k. each_way_stable
    (decided_stable (member_decided k (λ j. ℕ_discrete j k) (kept_for lists a)))
    (decided_stable (names_at outlines a k (slice_get outlines k) refl))))
