-- Canonical requirements can be sorted.
use Rattle.std.proofs.Common.{◌↔◌, List, [], ◌∷◌, Contains, subst, sym, ◌∙◌, inl, inr}
use Rattle.swreq_derive.specs.Derivation.{Source, TermFacts, TermRequirement}
use Rattle.swreq_derive.proofs.swreq_lemmas.Members.{first_member, later_member, member_cases, no_member}
use Rattle.swreq_canonical.specs.Canonical.{IsCanonical}
use Rattle.swreq_canonical.specs.CanonicalOrder.{IsStrictlySorted, RequirementBefore}
use Rattle.swreq_canonical.proofs.Ordered.{canonical_total, transitive_requirements}

-- the same members as x and xs have, strictly sorted
abbrev Sorted : TermRequirement → List TermRequirement → Type 0
Sorted x xs = (out : List TermRequirement) × IsStrictlySorted out × ((r : TermRequirement) → Contains out r ↔ Contains (x ∷ xs) r)

module _ (f : TermFacts) (s : Source) where
  insert : (x : TermRequirement) (xs : List TermRequirement) → IsCanonical f s x
      → ((r : TermRequirement) → Contains xs r → IsCanonical f s r) → IsStrictlySorted xs → Sorted x xs
  insert x [] c each sorted = (x ∷ [], ((λ q h. no_member q h), tt), λ r. ((λ h. h), λ h. h))
  insert x (y ∷ ys) c each sorted = elim (canonical_total f s x y c (each y (first_member y ys))) [
    | inl b ↦ (x ∷ y ∷ ys, (first b, sorted), λ r. ((λ h. h), λ h. h))
    | inr (inl e) ↦ (
      y ∷ ys,
      sorted,
      λ r. (
        later_member x r (y ∷ ys),
        λ h. elim (member_cases x r (y ∷ ys) h) [
          | inl i ↦ subst (λ z. Contains (y ∷ ys) z) (sym e ∙ sym i) (first_member y ys)
          | inr i ↦ i
        ],
      ),
    )
    | inr (inr b) ↦ behind b (insert x ys c (λ r h. each r (later_member y r ys h)) sorted.1)
  ]
    where
      first : RequirementBefore x y → (q : TermRequirement) → Contains (y ∷ ys) q → RequirementBefore x q
      first b q h = elim (member_cases y q ys h) [
        | inl e ↦ subst (λ z. RequirementBefore x z) (sym e) b
        | inr i ↦ transitive_requirements x y q b (sorted.0 q i)
      ]

      behind : RequirementBefore y x → Sorted x ys → Sorted x (y ∷ ys)
      behind b (out, s, same) = (
        y ∷ out,
        (
          (λ q h.
              elim (member_cases x q ys ((same q).0 h)) [ inl e ↦ subst (λ z. RequirementBefore y z) (sym e) b | inr i ↦ sorted.0 q i ]),
          s,
        ),
        λ r. (
          (λ h. elim (member_cases y r out h) [
            | inl e ↦ later_member x r (y ∷ ys) (subst (λ z. Contains (y ∷ ys) z) (sym e) (first_member y ys))
            | inr i ↦ elim (member_cases x r ys ((same r).0 i)) [
              | inl e ↦ subst (λ z. Contains (x ∷ y ∷ ys) z) (sym e) (first_member x (y ∷ ys))
              | inr j ↦ later_member x r (y ∷ ys) (later_member y r ys j)
            ]
          ]),
          λ h. elim (member_cases x r (y ∷ ys) h) [
            | inl e ↦ later_member y r out ((same r).1 (subst (λ z. Contains (x ∷ ys) z) (sym e) (first_member x ys)))
            | inr i ↦ elim (member_cases y r ys i) [
              | inl e ↦ subst (λ z. Contains (y ∷ out) z) (sym e) (first_member y out)
              | inr j ↦ later_member y r out ((same r).1 (later_member x r ys j))
            ]
          ],
        ),
      )

  pub some_sorted : (list : List TermRequirement) → ((r : TermRequirement) → Contains list r → IsCanonical f s r)
      → (out : List TermRequirement) × IsStrictlySorted out × ((r : TermRequirement) → Contains out r ↔ Contains list r)
  some_sorted [] each = ([], tt, λ r. ((λ h. h), λ h. h))
  some_sorted (x ∷ xs) each =
      let (ys, s, same) = some_sorted xs (λ r h. each r (later_member x r xs h)) in
      let (out, t, also) = insert x ys (each x (first_member x xs)) (λ r h. each r (later_member x r xs ((same r).0 h))) s in (
        out,
        t,
        λ r. (
          (λ h. elim (member_cases x r ys ((also r).0 h)) [
            | inl e ↦ subst (λ z. Contains (x ∷ xs) z) (sym e) (first_member x xs)
            | inr i ↦ later_member x r xs ((same r).0 i)
          ]),
          λ h. (also r).1 (elim (member_cases x r xs h) [
            | inl e ↦ subst (λ z. Contains (x ∷ ys) z) (sym e) (first_member x ys)
            | inr i ↦ later_member x r ys ((same r).1 i)
          ]),
        ),
      )
