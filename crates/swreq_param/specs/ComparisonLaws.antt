-- The comparison of type parameters is a total order, and tells all of them apart.
use Rattle.std.proofs.Common.{◌≡◌, ◌+◌, ◌<◌, List, [], ◌∷◌, ◌++◌, length, refl, sym, ap, subst, ◌∙◌, arith, length-append}
use Rattle.std.specs.declared.cmp.Ordering.{Ordering}
use Rattle.std.specs.declared.cmp.Ordering.TheVariants.{Less, Equal, Greater}
use Rattle.std.specs.Ordering.{nat_cmp, ordering_then, then_cmp, on}
use Rattle.std.specs.Cmp.{IsTotalOrder}
use Rattle.std.specs.Cmp.Lexicographic.{slice_cmp}
use Rattle.std.specs.FinSet.{nat_cmp-IsAntisymmetric}
use Rattle.std.proofs.lemmas.Cmp.{ranked, by_ranked, then_total, on_total, lists_total, nat_cmp_total}
use Rattle.swreq_lemmas.proofs.Orderings.{then_equal, then_nothing}
use Rattle.swreq_param.specs.declared.ids.ParamId.{ParamId}
use Rattle.swreq_param.specs.declared.ids.Step.{Step}
use Rattle.swreq_param.specs.declared.ids.Step.TheVariants.{Bound, Name}
use Rattle.swreq_param.specs.Terms.{Term, member_count, head, with_steps}
use Rattle.swreq_param.specs.Comparison.{param_cmp, kind, rank, step_cmp, alike_cmp, term_cmp}
use Rattle.swreq_param.specs.Terms.Term.{Generic, Member}

pub then_assoc : (a b c : Ordering) → ordering_then (ordering_then a b) c ≡ ordering_then a (ordering_then b c)
then_assoc Less b c = refl
then_assoc Equal b c = refl
then_assoc Greater b c = refl

fewer : (t u : Term) → member_count t < member_count u → alike_cmp t u ≡ Less
fewer (Generic p) (Generic q) h = absurd (omega arith)
fewer (Generic p) (Member u y) h = refl
fewer (Member t x) (Generic q) h = absurd (omega arith)
fewer (Member t x) (Member u y) h = ap (λ o. ordering_then o (step_cmp x y)) (fewer t u (omega arith))

more : (t u : Term) → member_count u < member_count t → alike_cmp t u ≡ Greater
more (Generic p) (Generic q) h = absurd (omega arith)
more (Generic p) (Member u y) h = absurd (omega arith)
more (Member t x) (Generic q) h = refl
more (Member t x) (Member u y) h = ap (λ o. ordering_then o (step_cmp x y)) (more t u (omega arith))

-- Going by the bases and the last member_count alone puts fewer member_count first too.
pub term_is_alike : (t u : Term) → term_cmp t u ≡ alike_cmp t u
term_is_alike t u =
    by_ranked (member_count t < member_count u) (member_count t ≡ member_count u) (member_count u < member_count t)
    (nat_cmp (member_count t) (member_count u)) (ranked (member_count t) (member_count u) (nat_cmp (member_count t) (member_count u)) refl)
    (λ e h. ap (λ o. ordering_then o (alike_cmp t u)) e ∙ sym (fewer t u h))
    (λ e h. ap (λ o. ordering_then o (alike_cmp t u)) e)
    (λ e h. ap (λ o. ordering_then o (alike_cmp t u)) e ∙ sym (more t u h))

-- steps from the left
pub alike_steps : (t u : Term) (xs ys : List Step) → length xs ≡ length ys
    → alike_cmp (with_steps t xs) (with_steps u ys) ≡ ordering_then (alike_cmp t u) (slice_cmp step_cmp xs ys)
alike_steps t u [] [] h = sym (then_nothing (alike_cmp t u))
alike_steps t u [] (y ∷ ys) h = absurd (omega arith)
alike_steps t u (x ∷ xs) [] h = absurd (omega arith)
alike_steps t u (x ∷ xs) (y ∷ ys) h =
    alike_steps (Member t x) (Member u y) xs ys (omega arith) ∙ then_assoc (alike_cmp t u) (step_cmp x y) (slice_cmp step_cmp xs ys)

pub members_steps : (t : Term) (xs : List Step) → member_count (with_steps t xs) ≡ member_count t + length xs
members_steps t [] = omega arith
members_steps t (x ∷ xs) = omega (arith, members_steps (Member t x) xs)

-- ---- as a list of steps

abbrev pub steps_of : Term → List Step
steps_of (Generic p) = []
steps_of (Member t s) = steps_of t ++ s ∷ []

-- one more step at the end
pub with_more : (t : Term) (xs : List Step) (s : Step) → with_steps t (xs ++ s ∷ []) ≡ Member (with_steps t xs) s
with_more t [] s = refl
with_more t (x ∷ xs) s = with_more (Member t x) xs s

pub as_steps : (t : Term) → with_steps (Generic (head t)) (steps_of t) ≡ t
as_steps (Generic p) = refl
as_steps (Member t s) = with_more (Generic (head t)) (steps_of t) s ∙ ap (λ u. Member u s) (as_steps t)

pub length_steps : (t : Term) → length (steps_of t) ≡ member_count t
length_steps (Generic p) = refl
length_steps (Member t s) = omega (arith, length_steps t, length-append (steps_of t) (s ∷ []))

abbrev pub by_steps : Term → Term → Ordering
by_steps = then_cmp (on member_count nat_cmp) (then_cmp (on head param_cmp) (on steps_of (slice_cmp step_cmp)))

goes_by_steps : (t u : Term) → by_steps t u ≡ term_cmp t u
goes_by_steps t u =
    by_ranked (member_count t < member_count u) (member_count t ≡ member_count u) (member_count u < member_count t)
    (nat_cmp (member_count t) (member_count u)) (ranked (member_count t) (member_count u) (nat_cmp (member_count t) (member_count u)) refl)
    (λ e h. ap (λ o. ordering_then o last) e ∙ sym (ap (λ o. ordering_then o (alike_cmp t u)) e))
    (λ e h.
    let len : length (steps_of t) ≡ length (steps_of u) = length_steps t ∙ h ∙ sym (length_steps u) in
    ap (λ o. ordering_then o last) e ∙ sym (alike_steps (Generic (head t)) (Generic (head u)) (steps_of t) (steps_of u) len)
    ∙ (λ i. alike_cmp (as_steps t i) (as_steps u i)) ∙ sym (ap (λ o. ordering_then o (alike_cmp t u)) e))
    (λ e h. ap (λ o. ordering_then o last) e ∙ sym (ap (λ o. ordering_then o (alike_cmp t u)) e))
  where
    last : Ordering
    last = then_cmp (on head param_cmp) (on steps_of (slice_cmp step_cmp)) t u

pub param_cmp_total : IsTotalOrder param_cmp
param_cmp_total = then_total (on_total (λ (p : ParamId). p.depth) nat_cmp_total) (on_total (λ (p : ParamId). p.index) nat_cmp_total)

pub step_cmp_total : IsTotalOrder step_cmp
step_cmp_total = then_total (on_total kind nat_cmp_total) (on_total rank nat_cmp_total)

pub term_cmp_total : IsTotalOrder term_cmp
term_cmp_total =
    subst IsTotalOrder (λ i t u. goes_by_steps t u i)
    (then_total (on_total member_count nat_cmp_total)
    (then_total (on_total head param_cmp_total) (on_total steps_of (lists_total step_cmp_total))))

-- ---- what it does not tell apart is equal

pub params_same : (p q : ParamId) → param_cmp p q ≡ Equal → p ≡ q
params_same p q h =
    let e = then_equal (nat_cmp p.depth q.depth) (nat_cmp p.index q.index) h in
    let d = nat_cmp-IsAntisymmetric p.depth q.depth e.0 in
    let i = nat_cmp-IsAntisymmetric p.index q.index e.1 in
    λ j. record { depth = d j; index = i j }

pub steps_same : (x y : Step) → step_cmp x y ≡ Equal → x ≡ y
steps_same (Bound a) (Bound b) h = let n = nat_cmp-IsAntisymmetric a.rank b.rank h in λ i. Bound (record { rank = n i })
steps_same (Bound a) (Name b) h = absurd cc
steps_same (Name a) (Bound b) h = absurd cc
steps_same (Name a) (Name b) h = let n = nat_cmp-IsAntisymmetric a.rank b.rank h in λ i. Name (record { rank = n i })

alike_same : (t u : Term) → alike_cmp t u ≡ Equal → t ≡ u
alike_same (Generic p) (Generic q) h = ap (λ x. Generic x) (params_same p q h)
alike_same (Generic p) (Member u y) h = absurd cc
alike_same (Member t x) (Generic q) h = absurd cc
alike_same (Member t x) (Member u y) h =
    let e = then_equal (alike_cmp t u) (step_cmp x y) h in
    λ i. Member (alike_same t u e.0 i) (steps_same x y e.1 i)

pub terms_same : (t u : Term) → term_cmp t u ≡ Equal → t ≡ u
terms_same t u h = alike_same t u (sym (term_is_alike t u) ∙ h)

-- ---- the walk to the bases

pub walked : (t u l r : Term) (after o : Ordering) → ordering_then (alike_cmp l r) after ≡ alike_cmp t u
    → o ≡ ordering_then (alike_cmp l r) after → o ≡ term_cmp t u
walked t u l r after o inv e = e ∙ inv ∙ sym (term_is_alike t u)

pub owned_is : (p q : ParamId) (xs ys : List Step)
    → ordering_then (ordering_then (nat_cmp (length xs) (length ys)) (param_cmp p q)) (slice_cmp step_cmp xs ys)
    ≡ term_cmp (with_steps (Generic p) xs) (with_steps (Generic q) ys)
owned_is p q xs ys =
    let m : length xs ≡ member_count (with_steps (Generic p) xs) = omega (arith, members_steps (Generic p) xs) in
    let n : length ys ≡ member_count (with_steps (Generic q) ys) = omega (arith, members_steps (Generic q) ys) in
    then_assoc (nat_cmp (length xs) (length ys)) (param_cmp p q) (slice_cmp step_cmp xs ys)
    ∙ by_ranked (length xs < length ys) (length xs ≡ length ys) (length ys < length xs) (nat_cmp (length xs) (length ys))
    (ranked (length xs) (length ys) (nat_cmp (length xs) (length ys)) refl)
    (λ e h. ap (λ o. ordering_then o steps) e ∙ sym (ap (λ o. ordering_then o alike) e))
    (λ e h. ap (λ o. ordering_then o steps) e ∙ sym (alike_steps (Generic p) (Generic q) xs ys h) ∙ sym (ap (λ o. ordering_then o alike) e))
    (λ e h. ap (λ o. ordering_then o steps) e ∙ sym (ap (λ o. ordering_then o alike) e))
    ∙ (λ i. ordering_then (nat_cmp (m i) (n i)) alike)
  where
    steps : Ordering
    steps = ordering_then (param_cmp p q) (slice_cmp step_cmp xs ys)

    alike : Ordering
    alike = alike_cmp (with_steps (Generic p) xs) (with_steps (Generic q) ys)
