-- Nothing goes down from a word for ever: by induction on the length, and for words of one length on their symbols.
use Rattle.std.proofs.Common.{◌≡◌, ℕ, zero, suc, ◌<◌, inl, inr, refl, sym, ◌∙◌, subst, arith, List, [], ◌∷◌, length}
use Rattle.std.specs.declared.cmp.Ordering.TheVariants.{Less}
use Rattle.std.specs.Ordering.{nat_cmp}
use Rattle.std.specs.Cmp.Lexicographic.{slice_cmp}
use Rattle.swreq_word.specs.declared.symbols.Symbol.{Symbol}
use Rattle.swreq_word.specs.Order.{symbol_cmp, WordLess}
use Rattle.swreq_word.specs.OrderLaws.{nat_less, nat_equal, then_less, symbol_exact}
use Rattle.swreq_lemmas.specs.WellFounded.{IsAccessible, IsWellFounded}
use Rattle.swreq_lemmas.specs.WellFounded.IsAccessible.{reached}
use Rattle.swreq_lemmas.proofs.Induction.{by_below, numbers_founded}
use Rattle.swreq_word.proofs.SymbolsFounded.{Symbol<, symbol_acc}

-- words of one length
abbrev Same< : List Symbol → List Symbol → Type 0
Same< u v = (length u ≡ length v) × (slice_cmp symbol_cmp u v ≡ Less)

below_cons : (x : Symbol) (xs : List Symbol)
    → ((y : Symbol) → Symbol< y x → (ys : List Symbol) → length ys ≡ length xs → IsAccessible Same< (y ∷ ys))
    → ((ys : List Symbol) → Same< ys xs → IsAccessible Same< (x ∷ ys)) → (w : List Symbol) → Same< w (x ∷ xs) → IsAccessible Same< w
below_cons x xs hx hxs [] l = absurd (omega (arith, l.0))
below_cons x xs hx hxs (y ∷ ys) l =
    let e : length ys ≡ length xs = omega (arith, l.0) in
    elim (then_less (symbol_cmp y x) (slice_cmp symbol_cmp ys xs) l.1) [
      | inl h ↦ hx y h ys e
      | inr h ↦ subst (λ z. IsAccessible Same< (z ∷ ys)) (sym (symbol_exact y x h.0)) (hxs ys (e, h.1))
    ]

below_nil : (w : List Symbol) → Same< w [] → IsAccessible Same< w
below_nil [] l = cc l.1
below_nil (y ∷ ys) l = absurd (omega (arith, l.0))

same_acc : (n : ℕ) (w : List Symbol) → length w ≡ n → IsAccessible Same< w
same_acc zero [] e = reached below_nil
same_acc zero (x ∷ xs) e = absurd (omega (arith, e))
same_acc (suc n) [] e = absurd (omega (arith, e))
same_acc (suc n) (x ∷ xs) e =
    by_below (λ x. (xs : List Symbol) → length xs ≡ n → IsAccessible Same< (x ∷ xs))
    (λ x ihx xs e. by_below (λ xs. length xs ≡ n → IsAccessible Same< (x ∷ xs))
    (λ xs ihxs e. reached (below_cons x xs (λ y l ys k. ihx y l ys (k ∙ e)) (λ ys l. ihxs ys l (l.0 ∙ e))))
    (same_acc n xs e) e)
    (symbol_acc x) xs (omega (arith, e))

lt_along : {a b c : ℕ} → a < b → b ≡ c → a < c
lt_along h e = omega arith

of_length : (n : ℕ) → ((m : ℕ) → m < n → (u : List Symbol) → length u ≡ m → IsAccessible WordLess u) → (w : List Symbol) → length w ≡ n
    → IsAccessible WordLess w
of_length n ih w = by_below (λ w. length w ≡ n → IsAccessible WordLess w)
    (λ w ihw e. reached (λ u l. elim (then_less (nat_cmp (length u) (length w)) (slice_cmp symbol_cmp u w) l) [
      | inl h ↦ ih (length u) (lt_along (nat_less (length u) (length w) h) e) u refl
      | inr h ↦ (let k = nat_equal (length u) (length w) h.0 in ihw u (k, h.1) (k ∙ e))
    ]))
    (same_acc (length w) w refl)

-- nothing goes down from a word for ever
pub words_founded : IsWellFounded WordLess
words_founded w = by_below (λ n. (u : List Symbol) → length u ≡ n → IsAccessible WordLess u) of_length (numbers_founded (length w)) w refl
