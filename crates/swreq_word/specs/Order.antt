-- The order of symbols, and the order of words.
use Rattle.std.specs.Prelude.{◌≡◌, ℕ, List, length}
use Rattle.std.specs.declared.cmp.Ordering.{Ordering}
use Rattle.std.specs.declared.cmp.Ordering.TheVariants.{Less}
use Rattle.std.specs.Ordering.{nat_cmp, ordering_then}
use Rattle.std.specs.Cmp.Lexicographic.{slice_cmp}
use Rattle.swreq_word.specs.declared.symbols.Symbol.{Symbol}
use Rattle.swreq_word.specs.declared.symbols.Symbol.TheVariants.{Proto, Member, Param, Name, Layout}

-- the place of a symbol's kind among the kinds
abbrev pub kind : Symbol → ℕ
kind (Proto p) = 0
kind (Member m) = 1
kind (Param d i) = 2
kind (Name n) = 3
kind Layout = 4

-- Symbols go by kind, and within a kind by number, generic parameters by depth and then by index.
abbrev pub symbol_cmp : Symbol → Symbol → Ordering
symbol_cmp (Proto p) (Proto q) = nat_cmp p q
symbol_cmp (Member m) (Member n) = nat_cmp m n
symbol_cmp (Param d i) (Param e j) = ordering_then (nat_cmp d e) (nat_cmp i j)
symbol_cmp (Name m) (Name n) = nat_cmp m n
symbol_cmp a b = nat_cmp (kind a) (kind b)

-- A shorter word is less. Words of equal length go from the left.
abbrev pub word_cmp : List Symbol → List Symbol → Ordering
word_cmp u v = ordering_then (nat_cmp (length u) (length v)) (slice_cmp symbol_cmp u v)

-- u is less than v
abbrev pub WordLess : List Symbol → List Symbol → Type 0
WordLess u v = word_cmp u v ≡ Less
