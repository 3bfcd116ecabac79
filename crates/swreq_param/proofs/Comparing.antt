-- What a comparison of type parameters says of their order.
use Rattle.std.proofs.Common.{◌≡◌, ◌↔◌, ℕ, ◌<◌, ◌∙◌, inl, inr, nat_eq, Bool, true, false, not, true≢false, List, refl, sym, ap, subst, arith}
use Rattle.std.proofs.lemmas.Bool.{eqb-true}
use Rattle.std.specs.declared.cmp.Ordering.{Ordering}
use Rattle.std.specs.declared.cmp.Ordering.TheVariants.{Less, Equal, Greater}
use Rattle.std.specs.Ordering.{nat_cmp, ordering_then}
use Rattle.std.proofs.lemmas.Cmp.{ranked, by_ranked}
use Rattle.swreq_param.specs.declared.ids.ParamId.{ParamId}
use Rattle.swreq_param.specs.declared.ids.Step.{Step}
use Rattle.swreq_param.specs.declared.ids.Step.TheVariants.{Bound, Name}
use Rattle.swreq_param.specs.Terms.{Term, member_count}
use Rattle.swreq_param.specs.Terms.Term.{Generic, Member}
use Rattle.swreq_param.specs.Order.{ParamBefore, StepBefore, AlikeBefore, Compares}
use Rattle.swreq_param.specs.Comparison.{param_cmp, step_cmp, alike_cmp, term_cmp}
use Rattle.swreq_param.specs.ComparisonLaws.{walked, term_is_alike}
use Rattle.swreq_param.specs.declared.ids.TermId.{TermId}
use Rattle.swreq_param.specs.Tables.{IsOf, term_at, AreDistinct}
use Rattle.swreq_param.proofs.TotalOrder.{strict}

-- as `Compares`, for any relation
abbrev By : {A : Type 0} (R : A → A → Type 0) → A → A → Ordering → Type 0
By R a b Less = R a b
By R a b Equal = a ≡ b
By R a b Greater = R b a

numbers : (a b : ℕ) → By ◌<◌ a b (nat_cmp a b)
numbers a b =
    by_ranked (a < b) (a ≡ b) (b < a) (nat_cmp a b) (ranked a b (nat_cmp a b) refl)
    (λ e h. subst (By ◌<◌ a b) (sym e) h) (λ e h. subst (By ◌<◌ a b) (sym e) h) (λ e h. subst (By ◌<◌ a b) (sym e) h)

params_then : (g h : ParamId) (o q : Ordering) → By ◌<◌ g.depth h.depth o → By ◌<◌ g.index h.index q
    → By ParamBefore g h (ordering_then o q)
params_then g h Less q d i = inl d
params_then g h Equal Less d i = inr (d, i)
params_then g h Equal Equal d i = λ j. record { depth = d j; index = i j }
params_then g h Equal Greater d i = inr (sym d, i)
params_then g h Greater q d i = inl d

params : (g h : ParamId) → By ParamBefore g h (param_cmp g h)
params g h = params_then g h (nat_cmp g.depth h.depth) (nat_cmp g.index h.index) (numbers g.depth h.depth) (numbers g.index h.index)

bound_by : (d e : ℕ) (o : Ordering) → By ◌<◌ d e o → By StepBefore (Bound (record { rank = d })) (Bound (record { rank = e })) o
bound_by d e Less h = h
bound_by d e Equal h = λ i. Bound (record { rank = h i })
bound_by d e Greater h = h

name_by : (a b : ℕ) (o : Ordering) → By ◌<◌ a b o → By StepBefore (Name (record { rank = a })) (Name (record { rank = b })) o
name_by a b Less h = h
name_by a b Equal h = λ i. Name (record { rank = h i })
name_by a b Greater h = h

steps : (x y : Step) → By StepBefore x y (step_cmp x y)
steps (Bound d) (Bound e) = bound_by d.rank e.rank (nat_cmp d.rank e.rank) (numbers d.rank e.rank)
steps (Bound d) (Name b) = tt
steps (Name a) (Bound e) = tt
steps (Name a) (Name b) = name_by a.rank b.rank (nat_cmp a.rank b.rank) (numbers a.rank b.rank)

members_then : (t u : Term) (x y : Step) (o q : Ordering) → By AlikeBefore t u o → By StepBefore x y q
    → By AlikeBefore (Member t x) (Member u y) (ordering_then o q)
members_then t u x y Less q h k = inl h
members_then t u x y Equal Less h k = inr (h, k)
members_then t u x y Equal Equal h k = λ i. Member (h i) (k i)
members_then t u x y Equal Greater h k = inr (sym h, k)
members_then t u x y Greater q h k = inl h

generic_by : (g h : ParamId) (o : Ordering) → By ParamBefore g h o → By AlikeBefore (Generic g) (Generic h) o
generic_by g h Less k = k
generic_by g h Equal k = ap Generic k
generic_by g h Greater k = k

alike : (t u : Term) → member_count t ≡ member_count u → By AlikeBefore t u (alike_cmp t u)
alike (Generic g) (Generic h) n = generic_by g h (param_cmp g h) (params g h)
alike (Generic g) (Member u y) n = absurd (omega arith)
alike (Member t x) (Generic h) n = absurd (omega arith)
alike (Member t x) (Member u y) n = members_then t u x y (alike_cmp t u) (step_cmp x y) (alike t u (omega arith)) (steps x y)

of_alike : (t u : Term) (o : Ordering) → member_count t ≡ member_count u → By AlikeBefore t u o → Compares t u o
of_alike t u Less n h = inr (n, h)
of_alike t u Equal n h = h
of_alike t u Greater n h = inr (sym n, h)

pub term_compares : (t u : Term) → Compares t u (term_cmp t u)
term_compares t u =
    by_ranked (member_count t < member_count u) (member_count t ≡ member_count u) (member_count u < member_count t)
    (nat_cmp (member_count t) (member_count u))
    (ranked (member_count t) (member_count u) (nat_cmp (member_count t) (member_count u)) refl)
    (λ e h. subst (Compares t u) (sym (ap (λ o. ordering_then o (alike_cmp t u)) e)) (inl h))
    (λ e h. subst (Compares t u) (sym (ap (λ o. ordering_then o (alike_cmp t u)) e)) (of_alike t u (alike_cmp t u) h (alike t u h)))
    (λ e h. subst (Compares t u) (sym (ap (λ o. ordering_then o (alike_cmp t u)) e)) (inl h))

-- the end of a walk down both chains of bases, with the comparison of the steps that were passed
pub walked_compares : (t u l r : Term) (after o : Ordering) → ordering_then (alike_cmp l r) after ≡ alike_cmp t u
    → o ≡ ordering_then (alike_cmp l r) after → Compares t u o
walked_compares t u l r after o inv e = subst (Compares t u) (sym (walked t u l r after o inv e)) (term_compares t u)

same_compares : (t : Term) (o : Ordering) → Compares t t o → o ≡ Equal
same_compares t Less h = absurd (strict t h)
same_compares t Equal h = refl
same_compares t Greater h = absurd (strict t h)

-- Where ids are told apart, two are equal if and only if their type parameters compare so.
pub equal_ids : (ts : List Term) (a b : TermId) (o : Ordering) → AreDistinct ts → IsOf ts a → IsOf ts b
    → Compares (term_at ts a) (term_at ts b) o → (o ≡ Equal) ↔ (a ≡ b)
equal_ids ts a b o d h k c = (
  (λ e. d a b h k (subst (Compares (term_at ts a) (term_at ts b)) e c)),
  λ e. same_compares (term_at ts b) o (subst (λ x. Compares (term_at ts x) (term_at ts b) o) e c),
)

pub same_id : (x y : TermId) → not (nat_eq x.place y.place) ≡ false → x ≡ y
same_id x y h = let e : x.place ≡ y.place = by_test (nat_eq x.place y.place) refl h in λ i. record { place = e i }
  where
    by_test : (b : Bool) → nat_eq x.place y.place ≡ b → not b ≡ false → x.place ≡ y.place
    by_test true e h = eqb-true x.place y.place e
    by_test false e h = absurd (true≢false h)

-- the comparison of a type parameter with itself
pub alike_reflexive : (t : Term) → alike_cmp t t ≡ Equal
alike_reflexive t = sym (term_is_alike t t) ∙ same_compares t (term_cmp t t) (term_compares t t)
