-- What follows from requirements of a kind.
use Rattle.std.proofs.Common.{true, List, [], ◌∷◌, ◌++◌, Contains, subst, sym, inl, inr}
use Rattle.std.proofs.lemmas.List.Elements.{Contains-append_left, Contains-append_right, Contains-append_cases, Contains-push, Contains-push_cases}
use Rattle.swreq_derive.specs.swreq_param.declared.ids.ParamId.{ParamId}
use Rattle.swreq_derive.specs.swreq_param.Terms.Term.{Generic}
use Rattle.swreq_derive.specs.Derivation.{Derivable, TermFacts, TermRequirement, TermStatement}
use Rattle.swreq_derive.specs.Derivation.Derives.{generic}
use Rattle.swreq_derive.specs.Derivation.Source.{Written}
use Rattle.swreq_derive.specs.Derivation.TermRequirement.{Conforms, Equals, IsAnyObject}
use Rattle.swreq_derive.specs.Derivation.TermStatement.{IsValid, Requires}
use Rattle.swreq_derive.specs.WellFormed.{HasValidSides}
use Rattle.swreq_derive.proofs.swreq_lemmas.Members.{first_member, later_member, member_cases, no_member}
use Rattle.swreq_derive.proofs.Monotone.{grows}
use Rattle.swreq_derive.proofs.Substitution.{derives_members, derives_with, substitute_in-generic, substitute_into-generic}
use Rattle.swreq_correspondence.proofs.Correspondence.{of_usable}
use Rattle.swreq_canonical.specs.Generators.{Follows}

module _ {f : TermFacts} {ps : List ParamId} where
  -- a longer list derives more
  pub weaken : {rs qs : List TermRequirement} {st : TermStatement} → ((r : TermRequirement) → Contains rs r → Contains qs r)
      → Derivable f (Written ps rs) st → Derivable f (Written ps qs) st
  weaken {rs = rs} {qs = qs} {st = st} sub e = grows f true ps rs qs sub st e

  -- a list derives what another does whose members it derives wherever it derives their sides
  pub derives_usable : {rs qs : List TermRequirement} {st : TermStatement}
      → ((r : TermRequirement) → Contains rs r → HasValidSides f (Written ps qs) r → Derivable f (Written ps qs) (Requires r))
      → Derivable f (Written ps rs) st → Derivable f (Written ps qs) st
  derives_usable {qs = qs} {st = st} each e =
      subst (λ x. Derivable f (Written ps qs) x) (substitute_into-generic st)
      (derives_with e (Written ps qs) (λ g. Generic g) (λ g h. generic h)
      (λ r h u w. subst (λ x. Derivable f (Written ps qs) (Requires x)) (sym (substitute_in-generic r))
      (each r h (subst (λ x. HasValidSides f (Written ps qs) x) (substitute_in-generic r) w))))

-- requirements of the kind S
module _ (f : TermFacts) (ps : List ParamId) (S : TermRequirement → Type 0) where
  pub valid_by_more : (rs qs : List TermRequirement) (r : TermRequirement) → ((q : TermRequirement) → Contains rs q → Contains qs q)
      → HasValidSides f (Written ps rs) r → HasValidSides f (Written ps qs) r
  valid_by_more rs qs (Conforms t p) sub h = weaken sub h
  valid_by_more rs qs (IsAnyObject t) sub h = weaken sub h
  valid_by_more rs qs (Equals t u) sub h = (weaken sub h.0, weaken sub h.1)

  -- what follows from one statement, or from two, that follow
  pub by_one : {a b : TermStatement} → Follows f ps S a
      → ((rs : List TermRequirement) → Derivable f (Written ps rs) a → Derivable f (Written ps rs) b)
      → Follows f ps S b
  by_one (rs, c, e) rule = (rs, c, rule rs e)

  pub by_two : {a b c : TermStatement} → Follows f ps S a → Follows f ps S b
      → ((rs : List TermRequirement) → Derivable f (Written ps rs) a → Derivable f (Written ps rs) b → Derivable f (Written ps rs) c)
      → Follows f ps S c
  by_two (rs, k, e) (qs, l, h) rule = (
    rs ++ qs,
    (λ r i. elim (Contains-append_cases rs qs r i) [ inl x ↦ k r x | inr x ↦ l r x ]),
    rule (rs ++ qs) (weaken (λ r i. Contains-append_left rs qs r i) e) (weaken (λ r i. Contains-append_right rs qs r i) h),
  )

  -- The sides of the requirement are valid by requirements of the kind.
  abbrev pub HasFollowingSides : TermRequirement → Type 0
  HasFollowingSides (Conforms t p) = Follows f ps S (IsValid t)
  HasFollowingSides (IsAnyObject t) = Follows f ps S (IsValid t)
  HasFollowingSides (Equals t u) = Follows f ps S (IsValid t) × Follows f ps S (IsValid u)

  pub with_sides : (r : TermRequirement) → HasFollowingSides r
      → (rs : List TermRequirement) × ((q : TermRequirement) → Contains rs q → S q) × HasValidSides f (Written ps rs) r
  with_sides (Conforms t p) h = h
  with_sides (IsAnyObject t) h = h
  with_sides (Equals t u) ((rs, k, e), (qs, l, h)) = (
    rs ++ qs,
    (λ r i. elim (Contains-append_cases rs qs r i) [ inl x ↦ k r x | inr x ↦ l r x ]),
    (weaken (λ r i. Contains-append_left rs qs r i) e, weaken (λ r i. Contains-append_right rs qs r i) h),
  )

  -- Then it follows itself, if it is of the kind.
  pub itself : (r : TermRequirement) → S r → HasFollowingSides r → Follows f ps S (Requires r)
  itself r s h =
      let (rs, c, v) = with_sides r h in (
        rs ++ (r ∷ []),
        (λ q i. elim (Contains-push_cases rs r q i) [ inl x ↦ c q x | inr e ↦ subst S e s ]),
        of_usable r (Contains-push rs r) (valid_by_more rs (rs ++ (r ∷ [])) r (λ q i. Contains-append_left rs (r ∷ []) q i) v),
      )

  -- one list of the kind for several requirements that follow
  all_follow : (rs : List TermRequirement) → ((r : TermRequirement) → Contains rs r → Follows f ps S (Requires r))
      → (qs : List TermRequirement) × ((q : TermRequirement) → Contains qs q → S q)
      × ((r : TermRequirement) → Contains rs r → Derivable f (Written ps qs) (Requires r))
  all_follow [] each = ([], (λ r h. no_member r h), λ r h. no_member r h)
  all_follow (x ∷ rs) each =
      let (qs, k, e) = all_follow rs (λ r h. each r (later_member x r rs h)) in
      let (ns, l, d) = each x (first_member x rs) in (
        ns ++ qs,
        (λ r h. elim (Contains-append_cases ns qs r h) [ inl i ↦ l r i | inr i ↦ k r i ]),
        λ r h. elim (member_cases x r rs h) [
          | inl i ↦ subst (λ z. Derivable f (Written ps (ns ++ qs)) (Requires z)) (sym i) (weaken (λ q j. Contains-append_left ns qs q j) d)
          | inr i ↦ weaken (λ q j. Contains-append_right ns qs q j) (e r i)
        ],
      )

-- What follows from requirements that follow from others follows from these.
module _ (f : TermFacts) (ps : List ParamId) (S T : TermRequirement → Type 0) where
  pub cut : {st : TermStatement} → ((r : TermRequirement) → S r → Follows f ps T (Requires r)) → Follows f ps S st → Follows f ps T st
  cut {st = st} each (rs, s, e) =
      let (qs, t, d) = all_follow f ps T rs (λ r h. each r (s r h)) in (qs, t, derives_members f ps rs qs d st e)

  pub cut_sides : (r : TermRequirement) → ((q : TermRequirement) → S q → Follows f ps T (Requires q)) → HasFollowingSides f ps S r
      → HasFollowingSides f ps T r
  cut_sides (Conforms t p) each h = cut each h
  cut_sides (IsAnyObject t) each h = cut each h
  cut_sides (Equals t u) each (h, k) = (cut each h, cut each k)

  -- what is of the one kind is of the other
  pub wider : {st : TermStatement} → ((r : TermRequirement) → S r → T r) → Follows f ps S st → Follows f ps T st
  wider sub (rs, s, e) = (rs, (λ r h. sub r (s r h)), e)

  pub wider_sides : (r : TermRequirement) → ((q : TermRequirement) → S q → T q) → HasFollowingSides f ps S r → HasFollowingSides f ps T r
  wider_sides (Conforms t p) sub h = wider sub h
  wider_sides (IsAnyObject t) sub h = wider sub h
  wider_sides (Equals t u) sub (h, k) = (wider sub h, wider sub k)

pub by_members : {f : TermFacts} {ps : List ParamId} {rs : List TermRequirement} {st : TermStatement} → Follows f ps (λ r. Contains rs r) st
    → Derivable f (Written ps rs) st
by_members (qs, s, e) = weaken s e
