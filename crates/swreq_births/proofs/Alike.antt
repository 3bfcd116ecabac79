-- Words that are read alike.
use Rattle.std.proofs.Common.{◌≡◌, inl, inr, ℕ, zero, suc, List, [], ◌∷◌, ◌++◌, drop, length, take, refl, sym, ap, subst, ◌∙◌}
use Rattle.std.proofs.{Common.{arith}, lemmas.{Bool.{cases_lt}, List.{append-nil, drop_all}}}
use Rattle.swreq_param.specs.{declared.ids.TermId.{TermId}, Terms.{Term}, Tables.{IsOf, term_at}}
use Rattle.swreq_correspondence.specs.swreq_word.declared.symbols.Symbol.{Symbol}
use Rattle.swreq_complete.specs.swreq_rule.{declared.rules.Rule.{Rule}, Oriented.{IsOriented}}
use Rattle.swreq_derivation.specs.{declared.derivation.Derivation.{Derivation}, UnderWay.{AddsLines}}
use Rattle.swreq_readings.specs.{declared.alphabet.Alphabet.{Alphabet}, Readable.{AllowsWord, AreReadEqual, read_symbol, read_word}}
use Rattle.swreq_readings.proofs.ReadingLemmas.{both_still, term_still, word_both}
use Rattle.swreq_births.specs.Pairs.{MeetAt, after_first, after_second}

pub both_as : (g : Alphabet) (s : Derivation) (t u : Term) (a a' b b' : List Symbol) → t ≡ u → a ≡ a' → b ≡ b' → AreReadEqual g s t a b
    → AreReadEqual g s u a' b'
both_as g s t u a a' b b' e f h w = subst (λ z. AreReadEqual g s z a' b') e
    (subst (λ z. AreReadEqual g s t z b') f (subst (AreReadEqual g s t a) h w))

-- words that the grown derivation reads alike after what an id stood for are read alike after what it stands for now
pub both_after : {g : Alphabet} {v : Derivation} {a b : List Symbol} (s u : Derivation) → AddsLines s u → (t : TermId) → IsOf s.table t
    → AreReadEqual g v (term_at s.table t) a b → AreReadEqual g v (term_at u.table t) a b
both_after {g} {v} {a} {b} s u grows t h = subst (λ z. AreReadEqual g v z a b) (sym (term_still s u grows t h))

-- words that are read alike after an id are still read alike after it in the grown derivation
pub both_now : (g : Alphabet) (s u : Derivation) → AddsLines s u → (t : TermId) (a b : List Symbol) → IsOf s.table t
    → AreReadEqual g s (term_at s.table t) a b → AreReadEqual g u (term_at u.table t) a b
both_now g s u grows t a b h w = both_after s u grows t h (both_still g s u grows (term_at s.table t) a b w)

-- words that are read alike after what an id stands for in the grown derivation are read alike after what it stood for before
pub both_before : {g : Alphabet} {v : Derivation} {a b : List Symbol} (s u : Derivation) → AddsLines s u → (t : TermId) → IsOf s.table t
    → AreReadEqual g v (term_at u.table t) a b → AreReadEqual g v (term_at s.table t) a b
both_before {g} {v} {a} {b} s u grows t h = subst (λ z. AreReadEqual g v z a b) (term_still s u grows t h)

-- if two words are read alike in both orders, they are read alike in the order of the rule's sides
pub oriented_both : (g : Alphabet) (s : Derivation) (t : Term) (u v : List Symbol) (rule : Rule) → IsOriented rule u v → AreReadEqual g s t
    u v
    → AreReadEqual g s t v u → AreReadEqual g s t rule.left rule.right
oriented_both g s t u v rule (inl e) a b = both_as g s t t u rule.left v rule.right refl (sym e.0) (sym e.1) a
oriented_both g s t u v rule (inr e) a b = both_as g s t t v rule.left u rule.right refl (sym e.0) (sym e.1) b

-- if lines allow a word, they allow its first symbols
pub front_read : (g : Alphabet) (s : Derivation) (t : Term) (w : List Symbol) (n : ℕ) → AllowsWord g s t w → AllowsWord g s t (take n w)
front_read g s t w zero h = tt
front_read g s t [] (suc n) h = tt
front_read g s t (x ∷ w) (suc n) h = (h.0, front_read g s (read_symbol g t x) w n h.1)

-- The word in which the left sides of two rules meet is allowed if each left side is allowed where it stands: one of the two ends it.
pub word_met : (g : Alphabet) (s : Derivation) (t : Term) (first second : Rule) (at : ℕ) → MeetAt first second at
    → AllowsWord g s t first.left → AllowsWord g s (read_word g t (take at first.left)) second.left
    → AllowsWord g s t (first.left ++ after_first first second at)
word_met g s t first second at e h k = elim (cases_lt (length (drop at first.left)) (length second.left)) [
  | inl n ↦ (let none : after_second first second at ≡ [] = drop_all (length second.left) (drop at first.left) (omega (arith, n)) in
      subst (AllowsWord g s t) (ap (λ z. take at first.left ++ z) (sym (append-nil second.left) ∙ ap (λ z. second.left ++ z) (sym none))
      ∙ sym e) (word_both g s t (take at first.left) second.left (front_read g s t first.left at h) k))
  | inr n ↦ (let none : after_first first second at ≡ [] = drop_all (length (drop at first.left)) second.left n in
      subst (AllowsWord g s t) (sym (append-nil first.left) ∙ ap (λ z. first.left ++ z) (sym none)) h)
]
