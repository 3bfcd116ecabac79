-- Nothing goes down from a symbol for ever.
use Rattle.std.proofs.Common.{◌≡◌, ℕ, ◌<◌, ◌⊎◌, inl, inr, refl, sym, subst}
use Rattle.std.specs.declared.cmp.Ordering.TheVariants.{Less}
use Rattle.std.specs.Ordering.{nat_cmp}
use Rattle.swreq_word.specs.declared.symbols.Symbol.{Symbol}
use Rattle.swreq_word.specs.declared.symbols.Symbol.TheVariants.{Proto, Member, Param, Name, Layout}
use Rattle.swreq_word.specs.Order.{symbol_cmp}
use Rattle.swreq_word.specs.OrderLaws.{nat_less, nat_equal, then_less}
use Rattle.swreq_lemmas.specs.WellFounded.{IsAccessible}
use Rattle.swreq_lemmas.specs.WellFounded.IsAccessible.{reached}
use Rattle.swreq_lemmas.proofs.Induction.{by_below, numbers_founded}

abbrev pub Symbol< : Symbol → Symbol → Type 0
Symbol< a b = symbol_cmp a b ≡ Less

-- symbols of one kind
one_number : (make : ℕ → Symbol) → ((a : Symbol) (n : ℕ) → Symbol< a (make n) → IsAccessible Symbol< a ⊎ ((m : ℕ) × (a ≡ make m) × (m < n)))
    → (n : ℕ) → IsAccessible Symbol< (make n)
one_number make h n = by_below (λ n. IsAccessible Symbol< (make n))
    (λ n ih. reached (λ a l. elim (h a n l) [ inl k ↦ k | inr w ↦ subst (IsAccessible Symbol<) (sym w.1) (ih w.0 w.2) ]))
    (numbers_founded n)

proto_acc : (n : ℕ) → IsAccessible Symbol< (Proto n)
proto_acc = one_number Proto below
  where
    below : (a : Symbol) (n : ℕ) → Symbol< a (Proto n) → IsAccessible Symbol< a ⊎ ((m : ℕ) × (a ≡ Proto m) × (m < n))
    below (Proto m) n l = inr (m, refl, nat_less m n l)
    below (Member m) n l = cc
    below (Param d i) n l = cc
    below (Name m) n l = cc
    below Layout n l = cc

member_acc : (n : ℕ) → IsAccessible Symbol< (Member n)
member_acc = one_number Member below
  where
    below : (a : Symbol) (n : ℕ) → Symbol< a (Member n) → IsAccessible Symbol< a ⊎ ((m : ℕ) × (a ≡ Member m) × (m < n))
    below (Proto m) n l = inl (proto_acc m)
    below (Member m) n l = inr (m, refl, nat_less m n l)
    below (Param d i) n l = cc
    below (Name m) n l = cc
    below Layout n l = cc

param_acc : (d i : ℕ) → IsAccessible Symbol< (Param d i)
param_acc d i =
    by_below (λ d. (i : ℕ) → IsAccessible Symbol< (Param d i))
    (λ d ihd i. by_below (λ i. IsAccessible Symbol< (Param d i)) (λ i ihi. reached (below d ihd i ihi)) (numbers_founded i))
    (numbers_founded d) i
  where
    below : (d : ℕ) → ((e : ℕ) → e < d → (j : ℕ) → IsAccessible Symbol< (Param e j)) → (i : ℕ)
        → ((j : ℕ) → j < i → IsAccessible Symbol< (Param d j))
        → (a : Symbol) → Symbol< a (Param d i) → IsAccessible Symbol< a
    below d ihd i ihi (Proto m) l = proto_acc m
    below d ihd i ihi (Member m) l = member_acc m
    below d ihd i ihi (Param e j) l = elim (then_less (nat_cmp e d) (nat_cmp j i) l) [
      | inl h ↦ ihd e (nat_less e d h) j
      | inr h ↦ subst (λ x. IsAccessible Symbol< (Param x j)) (sym (nat_equal e d h.0)) (ihi j (nat_less j i h.1))
    ]
    below d ihd i ihi (Name m) l = cc
    below d ihd i ihi Layout l = cc

name_acc : (n : ℕ) → IsAccessible Symbol< (Name n)
name_acc = one_number Name below
  where
    below : (a : Symbol) (n : ℕ) → Symbol< a (Name n) → IsAccessible Symbol< a ⊎ ((m : ℕ) × (a ≡ Name m) × (m < n))
    below (Proto m) n l = inl (proto_acc m)
    below (Member m) n l = inl (member_acc m)
    below (Param d i) n l = inl (param_acc d i)
    below (Name m) n l = inr (m, refl, nat_less m n l)
    below Layout n l = cc

layout_acc : IsAccessible Symbol< Layout
layout_acc = reached below
  where
    below : (a : Symbol) → Symbol< a Layout → IsAccessible Symbol< a
    below (Proto m) l = proto_acc m
    below (Member m) l = member_acc m
    below (Param d i) l = param_acc d i
    below (Name m) l = name_acc m
    below Layout l = cc

pub symbol_acc : (a : Symbol) → IsAccessible Symbol< a
symbol_acc (Proto m) = proto_acc m
symbol_acc (Member m) = member_acc m
symbol_acc (Param d i) = param_acc d i
symbol_acc (Name m) = name_acc m
symbol_acc Layout = layout_acc
