-- Type parameters without their last members.
use Rattle.std.proofs.Common.{◌≡◌, ℕ, zero, suc, ◌+◌, ◌-◌, ◌<◌, ◌≤◌, refl, sym, ◌∙◌, ap, subst, arith}
use Rattle.swreq_correspondence.specs.swreq_param.declared.ids.ParamId.{ParamId}
use Rattle.swreq_correspondence.specs.swreq_param.declared.ids.Step.{Step}
use Rattle.swreq_correspondence.specs.swreq_param.Terms.{Term, head, member_count}
use Rattle.swreq_correspondence.specs.swreq_param.Terms.Term.{Generic, Member}
use Rattle.swreq_world.specs.swreq_lexicon.Views.{LexiconView}
use Rattle.swreq_world.specs.Closed.{IsTermOf}
use Rattle.swreq_symbols.specs.Fronts.{without}

-- without one member more
one_more : (n : ℕ) (t : Term) → without 1 (without n t) ≡ without (suc n) t
one_more zero t = refl
one_more (suc n) (Generic g) = refl
one_more (suc n) (Member t x) = one_more n t

pub without_more : (n m : ℕ) (t : Term) → m ≡ n + 1 → without 1 (without n t) ≡ without m t
without_more n m t e = let next : suc n ≡ m = omega (arith, e) in subst (λ k. without 1 (without n t) ≡ without k t) next (one_more n t)

generic : (n : ℕ) (g : ParamId) → without n (Generic g) ≡ Generic g
generic zero g = refl
generic (suc n) g = refl

pub without_both : (n m k : ℕ) (t : Term) → k ≡ n + m → without n (without m t) ≡ without k t
without_both n zero k t e = let same : n ≡ k = omega (arith, e) in subst (λ j. without n t ≡ without j t) same refl
without_both n (suc m) zero t e = absurd (omega (arith, e))
without_both n (suc m) (suc k) (Generic g) e = generic n g
without_both n (suc m) (suc k) (Member t x) e = without_both n m k t (omega (arith, e))

pub count_without : (n : ℕ) (t : Term) → member_count (without n t) ≡ member_count t - n
count_without zero t = omega arith
count_without (suc n) (Generic g) = omega arith
count_without (suc n) (Member t x) = let e = count_without n t in omega (arith, e)

pub without_all : (t : Term) → without (member_count t) t ≡ Generic (head t)
without_all (Generic g) = refl
without_all (Member t x) =
    let next : suc (member_count t) ≡ member_count t + 1 = omega arith in
    subst (λ k. without k (Member t x) ≡ Generic (head t)) next (without_all t)

pub of_text_without : (x : LexiconView) (n : ℕ) (t : Term) → IsTermOf x t → IsTermOf x (without n t)
of_text_without x zero t h = h
of_text_without x (suc n) (Generic g) h = h
of_text_without x (suc n) (Member t s) h = of_text_without x n t h.0

-- ---- what stands for one

-- without its last n members a type parameter is no generic one, where it has more than n
pub not_generic : (n m : ℕ) (t u : Term) → u ≡ without n t → n < m → m ≤ member_count t → u ≡ Generic (head u) → ⊥
not_generic n m t u e l k g =
    let all = count_without n t in
    let none : member_count u ≡ 0 = ap member_count g in
    let same = ap member_count e in
    omega (arith, all, none, same, l, k)

pub base_without : (n m : ℕ) (t u b : Term) (x : Step) → u ≡ without n t → u ≡ Member b x → m ≡ n + 1 → b ≡ without m t
base_without n m t u b x e f h = ap (without 1) (sym f ∙ e) ∙ without_more n m t h
