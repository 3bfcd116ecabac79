-- Symbols that rules spare, and words that part for good from another.
use Rattle.std.specs.Prelude.{◌≡◌, ℕ, ◌<◌, ◌≤◌, List, [], ◌∷◌, ◌++◌, length, take, Contains, slice_get, Some}
use Rattle.swreq_print.specs.swreq_word.declared.symbols.Symbol.{Symbol}
use Rattle.swreq_print.specs.swreq_word.declared.symbols.Symbol.TheVariants.{Proto}
use Rattle.swreq_print.specs.swreq_rule.declared.rules.Rule.{Rule}

-- No protocol's symbol stands in the word.
abbrev pub HasNoProtocol : List Symbol → Type 0
HasNoProtocol w = (p : ℕ) → Contains w (Proto p) → ⊥

-- ---- what rules spare

-- Where the symbol stands in the left side, with another after it and no protocol's symbol up to it, the right side is the same up to it.
abbrev pub Spares : Rule → Symbol → Type 0
Spares rule x = (before after : List Symbol) (y : Symbol) → rule.left ≡ before ++ (x ∷ (y ∷ after)) → HasNoProtocol (before ++ x ∷ [])
    → (rest : List Symbol) × (rule.right ≡ before ++ (x ∷ rest))

abbrev pub AllSpare : List Rule → Symbol → Type 0
AllSpare rules x = (k : ℕ) (rule : Rule) → slice_get rules k ≡ Some rule → Spares rule x

-- The rule spares each symbol that is not one of these.
abbrev pub SparesOthers : Rule → List Symbol → Type 0
SparesOthers rule changed = (x : Symbol) → (Contains changed x → ⊥) → Spares rule x

-- The first n rules spare each symbol that is not one of these.
abbrev pub FirstSpareOthers : List Rule → ℕ → List Symbol → Type 0
FirstSpareOthers rules count changed =
    (x : Symbol) → (Contains changed x → ⊥) → (k : ℕ) (rule : Rule) → k < count → slice_get rules k ≡ Some rule → Spares rule x

-- All rules do.
abbrev pub AllSpareOthers : List Rule → List Symbol → Type 0
AllSpareOthers rules changed = (x : Symbol) → (Contains changed x → ⊥) → AllSpare rules x

-- ---- fronts of words

-- The two words have this many symbols in common at the front, and no more.
pub record AreInCommon (u v : List Symbol) (n : ℕ) : Type 0 where
  pub within_left : n ≤ length u
  pub within_right : n ≤ length v
  pub same : take n u ≡ take n v
  pub then_differ : (x y : Symbol) → slice_get u n ≡ Some x → slice_get v n ≡ Some y → x ≡ y → ⊥

-- This many symbols of the word come before the first one of a protocol, or it has this many and none of a protocol.
pub record AreBeforeProtocol (w : List Symbol) (n : ℕ) : Type 0 where
  pub within : n ≤ length w
  pub none : HasNoProtocol (take n w)
  pub then_one : n < length w → (p : ℕ) × (slice_get w n ≡ Some (Proto p))

-- ---- parting

-- The word v has a symbol that the rules spare, with no protocol's symbol up to it, and u is not the same up to it.
pub record PartsForGood (rules : List Rule) (u v : List Symbol) : Type 0 where
  pub front : List Symbol
  pub spared : Symbol
  pub rest : List Symbol
  pub cut : v ≡ front ++ (spared ∷ rest)
  pub no_protocol : HasNoProtocol (front ++ spared ∷ [])
  pub by_all : AllSpare rules spared
  pub apart : (after : List Symbol) → u ≡ front ++ (spared ∷ after) → ⊥
