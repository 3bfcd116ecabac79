-- Comparing words: what makes a word less, also within a longer one, and equality by the order.
use Rattle.std.proofs.Common.{◌≡◌, ℕ, ◌<◌, ◌≤◌, ◌⊎◌, inl, inr, Bool, true, false, refl, sym, ◌∙◌, ap, subst, arith, List, [], ◌∷◌, ◌++◌, length, length-append}
use Rattle.std.specs.Bool.{Decides}
use Rattle.std.specs.declared.cmp.Ordering.{Ordering}
use Rattle.std.specs.declared.cmp.Ordering.TheVariants.{Less, Equal, Greater}
use Rattle.std.specs.Ordering.{nat_cmp, is_eq, eq_by_cmp, MatchOrdering}
use Rattle.std.specs.Cmp.Lexicographic.{pointwise, slice_cmp}
use Rattle.std.proofs.lemmas.Slice.Eq.{slice_eq-Decides}
use Rattle.std.proofs.lemmas.Cmp.{tied_itself, ranked, nat_cmp_total}
use Rattle.swreq_word.specs.declared.symbols.Symbol.{Symbol}
use Rattle.swreq_word.specs.declared.symbols.Symbol.TheVariants.{Proto, Member, Param, Name, Layout}
use Rattle.swreq_word.specs.contracts.symbols.SymbolOrd.TheImpl as ord-impl
use Rattle.swreq_word.specs.contracts.symbols.SymbolOrd.TheImpl.Laws as laws
use Rattle.swreq_word.specs.contracts.symbols.SymbolPartialEq.TheImpl as eq-impl
use Rattle.swreq_word.specs.Order.{symbol_cmp, word_cmp, WordLess}
use Rattle.swreq_word.specs.OrderLaws.{nat_less, nat_equal, then_less, symbol_total, symbol_exact, word_total, word_exact, word_equal}
use Rattle.swreq_lemmas.proofs.Orderings.{is_equal}

pub nat_cmp_less : (m n : ℕ) → m < n → nat_cmp m n ≡ Less
nat_cmp_less m n h = go (nat_cmp m n) refl
  where
    go : (o : Ordering) → nat_cmp m n ≡ o → nat_cmp m n ≡ Less
    go Less e = e
    go Equal e = absurd (let k = nat_equal m n e in omega (arith, k))
    go Greater e =
        absurd (let k = subst (λ o. MatchOrdering o (m < n) (m ≡ n) (n < m)) e (ranked m n (nat_cmp m n) refl) in omega (arith, k))

pub by_length : (u v : List Symbol) → length u < length v → WordLess u v
by_length u v h = rw (nat_cmp_less (length u) (length v) h) refl

pub by_symbols : (u v : List Symbol) → length u ≡ length v → slice_cmp symbol_cmp u v ≡ Less → WordLess u v
by_symbols u v e h = rw (e, tied_itself nat_cmp_total (length v)) h

-- what makes a word less
pub less_cases : (u v : List Symbol) → WordLess u v → (length u < length v) ⊎ ((length u ≡ length v) × (slice_cmp symbol_cmp u v ≡ Less))
less_cases u v h = elim (then_less (nat_cmp (length u) (length v)) (slice_cmp symbol_cmp u v) h)
    [ inl l ↦ inl (nat_less (length u) (length v) l) | inr l ↦ inr (nat_equal (length u) (length v) l.0, l.1) ]

symbols_before : (x u v : List Symbol) → slice_cmp symbol_cmp (x ++ u) (x ++ v) ≡ slice_cmp symbol_cmp u v
symbols_before [] u v = refl
symbols_before (a ∷ x) u v = rw (tied_itself symbol_total a) (symbols_before x u v)

symbols_after : (z u v : List Symbol) → length u ≡ length v → slice_cmp symbol_cmp u v ≡ Less
    → slice_cmp symbol_cmp (u ++ z) (v ++ z) ≡ Less
symbols_after z [] [] e h = cc
symbols_after z [] (b ∷ v) e h = absurd (omega (arith, e))
symbols_after z (a ∷ u) [] e h = absurd (omega (arith, e))
symbols_after z (a ∷ u) (b ∷ v) e h =
    elim (then_less (symbol_cmp a b) (slice_cmp symbol_cmp u v) h) [
      | inl l ↦ rw l refl
      | inr l ↦ rw l.0 (symbols_after z u v (omega (arith, e)) l.1)
    ]

-- a word that is less stays less with the same word before or after
pub less_before : (x u v : List Symbol) → WordLess u v → WordLess (x ++ u) (x ++ v)
less_before x u v h = elim (less_cases u v h) [
  | inl l ↦ by_length (x ++ u) (x ++ v) (simp length-append (omega arith))
  | inr l ↦ by_symbols (x ++ u) (x ++ v) (simp length-append (omega arith)) (symbols_before x u v ∙ l.1)
]

pub less_after : (z u v : List Symbol) → WordLess u v → WordLess (u ++ z) (v ++ z)
less_after z u v h = elim (less_cases u v h) [
  | inl l ↦ by_length (u ++ z) (v ++ z) (simp length-append (omega arith))
  | inr l ↦ by_symbols (u ++ z) (v ++ z) (simp length-append (omega arith)) (symbols_after z u v l.0 l.1)
]

pub less_in_context : (before u v after : List Symbol) → WordLess u v → WordLess (before ++ (u ++ after)) (before ++ (v ++ after))
less_in_context before u v after h = less_before before (u ++ after) (v ++ after) (less_after after u v h)

pub less_no_longer : (u v : List Symbol) → WordLess u v → length u ≤ length v
less_no_longer u v h = elim (less_cases u v h) [ inl l ↦ omega arith | inr l ↦ omega arith ]

pub less_trans : (a b c : List Symbol) → WordLess a b → WordLess b c → WordLess a c
less_trans a b c = word_total.trans a b c

by_cmp : (a b : Symbol) (r : Bool) → r ≡ is_eq (symbol_cmp a b) → Decides r (a ≡ b)
by_cmp a b r e = (
  (λ h. symbol_exact a b (is_equal (symbol_cmp a b) (sym e ∙ h))),
  (λ h. e ∙ ap is_eq (subst (λ x. symbol_cmp a x ≡ Equal) h (tied_itself symbol_total a))),
)

-- the derived comparison of symbols
derived_cmp : (a b : Symbol) → ord-impl.cmp-value.it a b ≡ symbol_cmp a b
derived_cmp (Proto m) (Proto n) = refl
derived_cmp (Member m) (Member n) = refl
derived_cmp (Param d i) (Param e j) = refl
derived_cmp (Name m) (Name n) = refl
derived_cmp Layout Layout = refl
derived_cmp a b = refl

-- the derived `==` tells whether two symbols are one
pub symbol_decides : (a b : Symbol) → Decides (eq-impl.eq-value.it a b) (a ≡ b)
symbol_decides a b = by_cmp a b (eq-impl.eq-value.it a b) (laws.matches_eq-law a b ∙ ap is_eq (derived_cmp a b))

-- and the one of two words, whether they are one
pub symbols_decide : (u v : List Symbol) → Decides (pointwise eq-impl.eq-value.it u v) (u ≡ v)
symbols_decide u v = slice_eq-Decides symbol_decides u v (pointwise eq-impl.eq-value.it u v) refl

word_decides : (u v : List Symbol) → Decides (eq_by_cmp word_cmp u v) (u ≡ v)
word_decides u v = (word_equal u v, λ h. ap is_eq (subst (λ x. word_cmp u x ≡ Equal) h (tied_itself word_total u)))

one_decision : {P : Type 0} (a b : Bool) → Decides a P → Decides b P → a ≡ b
one_decision true true d e = refl
one_decision true false d e = sym (e.1 (d.0 refl))
one_decision false true d e = d.1 (e.0 refl)
one_decision false false d e = refl

-- `==` of the symbols is equality by the order of words
pub symbols_equal : (u v : List Symbol) → pointwise eq-impl.eq-value.it u v ≡ eq_by_cmp word_cmp u v
symbols_equal u v = one_decision (pointwise eq-impl.eq-value.it u v) (eq_by_cmp word_cmp u v) (symbols_decide u v) (word_decides u v)

-- no word is below itself, and no two are below one another
pub not_below_itself : (w : List Symbol) → WordLess w w → ⊥
not_below_itself w h = let e = tied_itself word_total w in cc

pub not_both_below : (u v : List Symbol) → WordLess u v → WordLess v u → ⊥
not_both_below u v h k = not_below_itself u (less_trans u v u h k)

pub trichotomy : (u v : List Symbol) → WordLess u v ⊎ ((u ≡ v) ⊎ WordLess v u)
trichotomy u v = go (word_cmp u v) refl
  where
    go : (o : Ordering) → word_cmp u v ≡ o → WordLess u v ⊎ ((u ≡ v) ⊎ WordLess v u)
    go Less e = inl e
    go Equal e = inr (inl (word_exact u v e))
    go Greater e = inr (inr (let a = word_total.antisymm v u in cc))

-- a word that is greater than another is not empty
pub greater_some : (u v : List Symbol) → WordLess u v → 0 < length v
greater_some u [] h = elim (less_cases u [] h) [
  | inl l ↦ absurd (omega (arith, l))
  | inr l ↦ absurd (empty u l.0 l.1)
]
  where
    empty : (u : List Symbol) → length u ≡ 0 → slice_cmp symbol_cmp u [] ≡ Less → ⊥
    empty [] e f = cc
    empty (x ∷ u) e f = omega (arith, e)
greater_some u (x ∷ v) h = omega arith
