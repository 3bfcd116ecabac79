-- What is left after dropping derives the same, and none of it is derivable from the others.
use Rattle.std.proofs.Common.{◌≡◌, List, [], ◌∷◌, ◌++◌, Contains, refl, ap, subst, sym, inl, inr, append_assoc}
use Rattle.std.proofs.lemmas.List.Elements.{Contains-append_left, Contains-append_right, Contains-append_cases, Contains-push_cases}
use Rattle.swreq_derive.specs.swreq_param.declared.ids.ParamId.{ParamId}
use Rattle.swreq_derive.specs.Derivation.{Derivable, TermFacts, TermRequirement, TermStatement}
use Rattle.swreq_derive.specs.Derivation.Source.{Written}
use Rattle.swreq_derive.specs.Derivation.TermStatement.{Requires}
use Rattle.swreq_derive.specs.Equivalence.{AreEquivalent}
use Rattle.swreq_derive.proofs.swreq_lemmas.Members.{first_member, later_member, member_cases}
use Rattle.swreq_derive.proofs.swreq_lemmas.Elements.{same_heads, same_tails}
use Rattle.swreq_correspondence.proofs.Correspondence.{of_usable}
use Rattle.swreq_canonical.specs.CanonicalOrder.{IsStrictlySorted}
use Rattle.swreq_canonical.specs.Generators.{AreDecided}
use Rattle.swreq_canonical.specs.Minimised.{IsIndependent, Leaves}
use Rattle.swreq_canonical.specs.Minimised.Leaves.{dropped, kept, nothing}
use Rattle.swreq_canonical.proofs.Following.{derives_usable, weaken}

-- a member with one more in the middle
more_members : (front xs : List TermRequirement) (r q : TermRequirement) → Contains (front ++ xs) q → Contains ((front ++ (r ∷ [])) ++ xs) q
more_members front xs r q h = elim (Contains-append_cases front xs q h) [
  | inl x ↦ Contains-append_left (front ++ (r ∷ [])) xs q (Contains-append_left front (r ∷ []) q x)
  | inr x ↦ Contains-append_right (front ++ (r ∷ [])) xs q x
]

module _ (f : TermFacts) (ps : List ParamId) where
  abbrev D : List TermRequirement → TermStatement → Type 0
  D rs st = Derivable f (Written ps rs) st

  pub were_there : {front rest out : List TermRequirement} → Leaves f ps front rest out → (q : TermRequirement)
      → Contains out q → Contains rest q
  were_there nothing q h = h
  were_there (dropped {rest = rest} {r = r} l d) q h = later_member r q rest (were_there l q h)
  were_there (kept {rest = rest} {out = out} {r = r} l n) q h = elim (member_cases r q out h) [
    | inl e ↦ subst (λ z. Contains (r ∷ rest) z) (sym e) (first_member r rest)
    | inr i ↦ later_member r q rest (were_there l q i)
  ]

  pub left_sorted : {front rest out : List TermRequirement} → Leaves f ps front rest out → IsStrictlySorted rest → IsStrictlySorted out
  left_sorted nothing s = s
  left_sorted (dropped l d) s = left_sorted l s.1
  left_sorted (kept l n) s = ((λ q h. s.0 q (were_there l q h)), left_sorted l s.1)

  -- a list derives the same without a member that the others derive
  pub without_one : (before after : List TermRequirement) (r : TermRequirement) → D (before ++ after) (Requires r)
      → AreEquivalent f ps (before ++ r ∷ after) (before ++ after)
  without_one before after r d st = (
    (λ e. derives_usable (λ q h u. elim (Contains-append_cases before (r ∷ after) q h) [
      | inl x ↦ of_usable q (Contains-append_left before after q x) u
      | inr x ↦ elim (member_cases r q after x) [
        | inl y ↦ subst (λ z. D (before ++ after) (Requires z)) (sym y) d
        | inr y ↦ of_usable q (Contains-append_right before after q y) u
      ]
    ]) e),
    λ e. weaken (λ q h. elim (Contains-append_cases before after q h) [
      | inl x ↦ Contains-append_left before (r ∷ after) q x
      | inr x ↦ Contains-append_right before (r ∷ after) q (later_member r q after x)
    ]) e,
  )

  -- what is left, with what stands before it, derives what all derived
  left_derives : {front rest out : List TermRequirement} → Leaves f ps front rest out → (st : TermStatement)
      → D (front ++ rest) st → D (front ++ out) st
  left_derives nothing st e = e
  left_derives (dropped {front = front} {rest = rest} {out = out} {r = r} l d) st e =
      (without_one front out r d st).0 (subst (λ z. D z st) (append_assoc front (r ∷ []) out)
      (left_derives l st (subst (λ z. D z st) (sym (append_assoc front (r ∷ []) rest)) e)))
  left_derives (kept {front = front} {rest = rest} {out = out} {r = r} l n) st e =
      subst (λ z. D z st) (append_assoc front (r ∷ []) out)
      (left_derives l st (subst (λ z. D z st) (sym (append_assoc front (r ∷ []) rest)) e))

  pub same_left : {all out : List TermRequirement} → Leaves f ps [] all out → AreEquivalent f ps all out
  same_left l st = ((λ e. left_derives l st e), λ e. weaken (were_there l) e)

  -- none that is kept is derivable from the others
  left_independent : {front rest out : List TermRequirement} → Leaves f ps front rest out
      → (a b : List TermRequirement) (r : TermRequirement) → out ≡ a ++ (r ∷ b)
      → D (front ++ (a ++ b)) (Requires r) → ⊥
  left_independent nothing [] b r e d = cc
  left_independent nothing (x ∷ a) b r e d = cc
  left_independent (dropped {front = front} {r = x} l k) a b r e d =
      left_independent l a b r e (weaken (λ q h. more_members front (a ++ b) x q h) d)
  left_independent (kept {front = front} {r = x} l n) [] b r e d =
      n (subst (λ z. D (front ++ z) (Requires x)) (sym (same_tails e)) (subst (λ z. D (front ++ b) (Requires z)) (sym (same_heads e)) d))
  left_independent (kept {front = front} {r = x} l n) (y ∷ a) b r e d =
      left_independent l a b r (same_tails e) (subst (λ z. D z (Requires r)) (sym (append_assoc front (x ∷ []) (a ++ b)))
      (subst (λ z. D (front ++ (z ∷ (a ++ b))) (Requires r)) (sym (same_heads e)) d))

  pub independent : {all out : List TermRequirement} → Leaves f ps [] all out → IsIndependent f ps out
  independent l a b r e d = left_independent l a b r e d

  pub one_left : {front rest out other : List TermRequirement} → Leaves f ps front rest out → Leaves f ps front rest other → out ≡ other
  one_left nothing nothing = refl
  one_left (dropped l d) (dropped k e) = one_left l k
  one_left (dropped {front = front} {r = r} l d) (kept k n) = absurd (n (subst (λ z. D (front ++ z) (Requires r)) (one_left l k) d))
  one_left (kept {front = front} {r = r} l n) (dropped k d) = absurd (n (subst (λ z. D (front ++ z) (Requires r)) (sym (one_left l k)) d))
  one_left (kept {r = r} l n) (kept k m) = ap (λ z. r ∷ z) (one_left l k)

  -- Where it is decided what lists of some requirements derive, one can drop from them.
  pub some_left : (all front rest : List TermRequirement) → ((r : TermRequirement) → Contains front r → Contains all r)
      → ((r : TermRequirement) → Contains rest r → Contains all r) → AreDecided f ps all
      → (out : List TermRequirement) × Leaves f ps front rest out
  some_left all front [] a b decided = ([], nothing)
  some_left all front (r ∷ rest) a b decided =
      let (out, l) = some_left all (front ++ (r ∷ [])) rest
      (λ q h. elim (Contains-push_cases front r q h) [ inl i ↦ a q i | inr i ↦ subst (λ z. Contains all z) i (b r (first_member r rest)) ])
      (λ q h. b q (later_member r q rest h)) decided in
      elim (decided (front ++ out) r (λ q h. elim (Contains-append_cases front out q h) [
        | inl i ↦ a q i
        | inr i ↦ b q (later_member r q rest (were_there l q i))
      ])) [ yes d ↦ (out, dropped l d) | no n ↦ (r ∷ out, kept l n) ]
