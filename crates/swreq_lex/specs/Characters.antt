-- Characters, by their code points, and lists of them.
use Rattle.std.specs.Prelude.{ℕ, ◌+◌, Bool, not, ◌&&◌, ◌||◌, ◌==◌, IsTrue, IsFalse, All, List, [], ◌∷◌, nat_le}
use Rattle.std.specs.Char.{len_utf8}
use Rattle.unicode_ident.specs.Ident.{is_xid_start, is_xid_continue}

-- space, and from tab to carriage return: tab, line feed, vertical tab, form feed, carriage return
abbrev pub is_white_space : ℕ → Bool
is_white_space c = (c == 32) || (nat_le 9 c && nat_le c 13)

-- a line goes on up to a line feed or a carriage return
abbrev pub continues_line : ℕ → Bool
continues_line c = not ((c == 10) || (c == 13))

-- a word begins with `_`, or with a character that may start an identifier in Unicode
abbrev pub starts_word : ℕ → Bool
starts_word c = is_xid_start c || (c == 95)

-- and goes on with those that may continue one, `_` among them
abbrev pub continues_word : ℕ → Bool
continues_word c = is_xid_continue c

-- U+FEFF
abbrev pub is_byte_order_mark : ℕ → Bool
is_byte_order_mark c = c == 0xFEFF

-- how many bytes the characters take in UTF-8
abbrev pub byte_length : List ℕ → ℕ
byte_length [] = 0
byte_length (c ∷ cs) = len_utf8 c + byte_length cs

-- the characters end, or their first one fails the test
abbrev pub BeginsWithout : (ℕ → Bool) → List ℕ → Type 0
BeginsWithout test [] = Unit {0}
BeginsWithout test (c ∷ cs) = IsFalse (test c)

-- the characters before the rest are all that pass the test, one after the other
pub record IsLongestRun (test : ℕ → Bool) (run rest : List ℕ) : Type 0 where
  pub passes : All (λ c. IsTrue (test c)) run
  pub ended : BeginsWithout test rest
