-- The orders of symbols and of words are total, and what compares alike is equal.
use Rattle.std.proofs.Common.{◌≡◌, ◌⊎◌, inl, inr, ℕ, ◌<◌, true, refl, ap, subst, List, [], ◌∷◌, length}
use Rattle.std.specs.declared.cmp.Ordering.{Ordering}
use Rattle.std.specs.declared.cmp.Ordering.TheVariants.{Less, Equal, Greater}
use Rattle.std.specs.Cmp.{IsTotalOrder, IsEquivalence, IsPartialOrder, partial_order_from_agreeing_total}
use Rattle.std.specs.Cmp.Lexicographic.{slice_cmp}
use Rattle.std.specs.Ordering.{nat_cmp, ordering_then, then_cmp, on, eq_by_cmp, as_partial_cmp, MatchOrdering}
use Rattle.std.proofs.lemmas.Cmp.{ranked, on_total, then_total, lists_total, nat_cmp_total, eq_by_cmp_equiv}
use Rattle.swreq_lemmas.proofs.Orderings.{then_equal, then_nothing, is_equal}
use Rattle.swreq_word.specs.declared.symbols.Symbol.{Symbol}
use Rattle.swreq_word.specs.declared.symbols.Symbol.TheVariants.{Proto, Member, Param, Name, Layout}
use Rattle.swreq_word.specs.Order.{kind, symbol_cmp, word_cmp}

-- what a comparison of numbers, and one by two parts, says
pub nat_less : (m n : ℕ) → nat_cmp m n ≡ Less → m < n
nat_less m n h = subst (λ o. MatchOrdering o (m < n) (m ≡ n) (n < m)) h (ranked m n (nat_cmp m n) refl)

pub nat_equal : (m n : ℕ) → nat_cmp m n ≡ Equal → m ≡ n
nat_equal m n h = subst (λ o. MatchOrdering o (m < n) (m ≡ n) (n < m)) h (ranked m n (nat_cmp m n) refl)

pub then_less : (a b : Ordering) → ordering_then a b ≡ Less → (a ≡ Less) ⊎ ((a ≡ Equal) × (b ≡ Less))
then_less Less b h = inl refl
then_less Equal b h = inr (refl, h)
then_less Greater b h = cc

-- the two numbers of a symbol, 0 where it has none
major : Symbol → ℕ
major (Proto p) = p
major (Member m) = m
major (Param d i) = d
major (Name n) = n
major Layout = 0

minor : Symbol → ℕ
minor (Param d i) = i
minor a = 0

by_numbers : Symbol → Symbol → Ordering
by_numbers = then_cmp (on kind nat_cmp) (then_cmp (on major nat_cmp) (on minor nat_cmp))

symbols_by_numbers : (a b : Symbol) → by_numbers a b ≡ symbol_cmp a b
unfolding by_numbers major minor
symbols_by_numbers (Proto p) (Proto q) = then_nothing (nat_cmp p q)
symbols_by_numbers (Member m) (Member n) = then_nothing (nat_cmp m n)
symbols_by_numbers (Param d i) (Param e j) = refl
symbols_by_numbers (Name m) (Name n) = then_nothing (nat_cmp m n)
symbols_by_numbers Layout Layout = refl
symbols_by_numbers a b = refl

numbers_total : IsTotalOrder by_numbers
unfolding by_numbers
numbers_total = then_total (on_total kind nat_cmp_total) (then_total (on_total major nat_cmp_total) (on_total minor nat_cmp_total))

pub symbol_total : IsTotalOrder symbol_cmp
symbol_total = subst IsTotalOrder (λ i a b. symbols_by_numbers a b i) numbers_total

pub symbol_exact : (a b : Symbol) → symbol_cmp a b ≡ Equal → a ≡ b
symbol_exact (Proto m) (Proto n) h = ap Proto (nat_equal m n h)
symbol_exact (Member m) (Member n) h = ap Member (nat_equal m n h)
symbol_exact (Param d i) (Param e j) h =
    let p = then_equal (nat_cmp d e) (nat_cmp i j) h in let f = nat_equal d e p.0 in let g = nat_equal i j p.1 in cc
symbol_exact (Name m) (Name n) h = ap Name (nat_equal m n h)
symbol_exact Layout Layout h = refl
symbol_exact a b h = cc

pub word_total : IsTotalOrder word_cmp
word_total = then_total (on_total length nat_cmp_total) (lists_total symbol_total)

symbols_exact : (u v : List Symbol) → slice_cmp symbol_cmp u v ≡ Equal → u ≡ v
symbols_exact [] [] h = refl
symbols_exact [] (y ∷ ys) h = cc
symbols_exact (x ∷ xs) [] h = cc
symbols_exact (x ∷ xs) (y ∷ ys) h =
    let p = then_equal (symbol_cmp x y) (slice_cmp symbol_cmp xs ys) h in
    let e = symbol_exact x y p.0 in
    let f = symbols_exact xs ys p.1 in
    cc

pub word_exact : (u v : List Symbol) → word_cmp u v ≡ Equal → u ≡ v
word_exact u v h = symbols_exact u v (then_equal (nat_cmp (length u) (length v)) (slice_cmp symbol_cmp u v) h).1

-- what the comparisons of `Word` need
pub word_equal : (u v : List Symbol) → eq_by_cmp word_cmp u v ≡ true → u ≡ v
word_equal u v h = word_exact u v (is_equal (word_cmp u v) h)

pub word_equivalence : IsEquivalence (eq_by_cmp word_cmp)
word_equivalence = eq_by_cmp_equiv word_total

pub word_partial : IsPartialOrder (eq_by_cmp word_cmp) (as_partial_cmp word_cmp)
word_partial = partial_order_from_agreeing_total word_cmp word_total (λ a b. refl) (λ a b. refl)
