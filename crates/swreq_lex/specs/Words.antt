-- Words, and what they are.
use Rattle.std.specs.Prelude.{ℕ, IsTrue, List, [], ◌∷◌, Option, Some, None, position, map, if◌then◌else◌}
use Rattle.std.specs.Str.{bytes_eq, encode_utf8_all}
use Rattle.swreq_lex.specs.declared.words.TheConstants.{RESERVED}
use Rattle.swreq_lex.specs.declared.token.TokenKind.{TokenKind}
use Rattle.swreq_lex.specs.declared.token.TokenKind.TheVariants as kinds
use Rattle.swreq_lex.specs.Characters.{starts_word, continues_word, IsLongestRun}

-- the longest word before the rest
pub data IsWord : List ℕ → List ℕ → Type 0 where
  word : {c : ℕ} {cs rest : List ℕ} → IsTrue (starts_word c) → IsLongestRun continues_word cs rest → IsWord (c ∷ cs) rest

-- how the reserved words are spelled, in the order of the table
abbrev pub reserved : List (List ℕ)
reserved = map (λ word. word.now) RESERVED

-- what a word with these bytes is, by its place among the reserved words
abbrev pub word_kind : Option ℕ → List ℕ → TokenKind
word_kind (Some n) bytes = kinds.Reserved n
word_kind None bytes = if bytes_eq bytes (95 ∷ []) then kinds.Underscore else kinds.Name

abbrev pub kind_of_bytes : List ℕ → TokenKind
kind_of_bytes bytes = word_kind (position (λ word. bytes_eq word bytes) reserved) bytes

-- what a word is
abbrev pub kind_of_word : List ℕ → TokenKind
kind_of_word cs = kind_of_bytes (encode_utf8_all cs)
