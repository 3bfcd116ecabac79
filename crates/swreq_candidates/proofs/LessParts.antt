-- Where two words, each in two parts, are compared, the first parts decide or the second.
use Rattle.std.proofs.Common.{◌≡◌, ◌⊎◌, [], ◌∷◌, ◌++◌, length, length-append, refl, ap₂, subst, inl, inr, arith}
use Rattle.std.specs.declared.cmp.Ordering.TheVariants.{Less}
use Rattle.std.specs.Cmp.Lexicographic.{slice_cmp}
use Rattle.std.proofs.lemmas.Bool.{cases_order}
use Rattle.std.proofs.lemmas.Cmp.{tied_itself}
use Rattle.swreq_canonical.specs.swreq_word.declared.symbols.Symbol.{Symbol}
use Rattle.swreq_canonical.specs.swreq_word.Order.{WordLess, symbol_cmp}
use Rattle.swreq_canonical.specs.swreq_word.OrderLaws.{symbol_exact, symbol_total, then_less}
use Rattle.swreq_canonical.proofs.swreq_word.Comparing.{by_length, by_symbols, less_cases}
use Rattle.swreq_canonical.specs.swreq_correspondence.Symbols.{Word}

-- symbols from the left
abbrev pub SymbolsLess : Word → Word → Type 0
SymbolsLess u v = slice_cmp symbol_cmp u v ≡ Less

pub less_at : (x y : Symbol) (u v : Word) → SymbolsLess (x ∷ u) (y ∷ v) → (symbol_cmp x y ≡ Less) ⊎ ((x ≡ y) × SymbolsLess u v)
less_at x y u v h = elim (then_less (symbol_cmp x y) (slice_cmp symbol_cmp u v) h) [
  | inl l ↦ inl l
  | inr (e, l) ↦ inr (symbol_exact x y e, l)
]

pub symbols_in_parts : (u v w z : Word) → length u ≡ length v → SymbolsLess (u ++ w) (v ++ z)
    → SymbolsLess u v ⊎ ((u ≡ v) × SymbolsLess w z)
symbols_in_parts [] [] w z n h = inr (refl, h)
symbols_in_parts [] (y ∷ v) w z n h = absurd (omega arith)
symbols_in_parts (x ∷ u) [] w z n h = absurd (omega arith)
symbols_in_parts (x ∷ u) (y ∷ v) w z n h = elim (less_at x y (u ++ w) (v ++ z) h) [
  | inl l ↦ inl (rw l refl)
  | inr (e, l) ↦ elim (symbols_in_parts u v w z (omega arith) l) [
    | inl k ↦ inl (first x y u v e k)
    | inr (i, k) ↦ inr (ap₂ ◌∷◌ e i, k)
  ]
]
  where
    first : (x y : Symbol) (u v : Word) → x ≡ y → SymbolsLess u v → SymbolsLess (x ∷ u) (y ∷ v)
    first x y u v e k = subst (λ z. SymbolsLess (x ∷ u) (z ∷ v)) e (rw (tied_itself symbol_total x) k)

pub less_in_parts : (u v w z : Word) → WordLess (u ++ w) (v ++ z) → WordLess u v ⊎ WordLess w z
less_in_parts u v w z h = elim (less_cases (u ++ w) (v ++ z) h) [
  | inl l ↦ elim (cases_order (length u) (length v)) [
    | inl e ↦ inr (by_length w z (omega (arith, length-append u w, length-append v z)))
    | inr (inl k) ↦ inl (by_length u v k)
    | inr (inr k) ↦ inr (by_length w z (omega (arith, length-append u w, length-append v z)))
  ]
  | inr (n, l) ↦ elim (cases_order (length u) (length v)) [
    | inl e ↦ elim (symbols_in_parts u v w z e l) [
      | inl k ↦ inl (by_symbols u v e k)
      | inr (i, k) ↦ inr (by_symbols w z (omega (arith, length-append u w, length-append v z)) k)
    ]
    | inr (inl k) ↦ inl (by_length u v k)
    | inr (inr k) ↦ inr (by_length w z (omega (arith, length-append u w, length-append v z)))
  ]
]

pub nothing_less : (v : Word) → WordLess v [] → ⊥
nothing_less [] h = cc
nothing_less (x ∷ v) h = elim (less_cases (x ∷ v) [] h) [ inl l ↦ omega arith | inr (n, l) ↦ omega arith ]
