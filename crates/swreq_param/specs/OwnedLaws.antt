-- The comparison of type parameters by themselves is a total order, and tells all of them apart.
use Rattle.std.proofs.Common.{◌≡◌, true, List, [], ◌∷◌, ◌++◌, refl, sym, ap, ◌∙◌, append_assoc, append-nil}
use Rattle.swreq_param.specs.declared.ids.Step.{Step}
use Rattle.std.specs.Ordering.{eq_by_cmp, as_partial_cmp}
use Rattle.std.specs.Cmp.{IsTotalOrder, IsEquivalence, IsPartialOrder, partial_order_from_agreeing_total}
use Rattle.std.proofs.lemmas.Cmp.{on_total, eq_by_cmp_equiv}
use Rattle.swreq_lemmas.proofs.Orderings.{is_equal}
use Rattle.swreq_param.specs.declared.owned.TypeParam.{TypeParam}
use Rattle.swreq_param.specs.Terms.{Term, head, with_steps}
use Rattle.swreq_param.specs.Terms.Term.{Generic, Member}
use Rattle.swreq_param.specs.Owned.{as_term, owned_cmp}
use Rattle.swreq_param.specs.ComparisonLaws.{term_cmp_total, steps_of, terms_same}

pub owned_total : IsTotalOrder owned_cmp
owned_total = on_total as_term term_cmp_total

pub owned_equivalent : IsEquivalence (eq_by_cmp owned_cmp)
owned_equivalent = eq_by_cmp_equiv owned_total

pub owned_partial : IsPartialOrder (eq_by_cmp owned_cmp) (as_partial_cmp owned_cmp)
owned_partial = partial_order_from_agreeing_total owned_cmp owned_total (λ a b. refl) (λ a b. refl)

pub heads_same : (t : Term) (xs : List Step) → head (with_steps t xs) ≡ head t
heads_same t [] = refl
heads_same t (x ∷ xs) = heads_same (Member t x) xs

steps_same : (t : Term) (xs : List Step) → steps_of (with_steps t xs) ≡ steps_of t ++ xs
steps_same t [] = sym (append-nil (steps_of t))
steps_same t (x ∷ xs) = steps_same (Member t x) xs ∙ append_assoc (steps_of t) (x ∷ []) xs

-- equal by the order means equal
pub same_as_term : (a b : TypeParam) → as_term a ≡ as_term b → a ≡ b
same_as_term a b e =
    let h : a.head ≡ b.head = sym (heads_same (Generic a.head) a.steps) ∙ ap head e ∙ heads_same (Generic b.head) b.steps in
    let s : a.steps ≡ b.steps = sym (steps_same (Generic a.head) a.steps) ∙ ap steps_of e ∙ steps_same (Generic b.head) b.steps in
    λ i. record { head = h i; steps = s i }

pub owned_same : (a b : TypeParam) → eq_by_cmp owned_cmp a b ≡ true → a ≡ b
owned_same a b h = same_as_term a b (terms_same (as_term a) (as_term b) (is_equal (owned_cmp a b) h))
