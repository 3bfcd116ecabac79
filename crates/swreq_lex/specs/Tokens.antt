-- The tokens of a text, and of what it is from an offset on.
use Rattle.std.specs.Prelude.{◌≡◌, ℕ, zero, suc, ◌+◌, IsTrue, if◌then◌else◌, List, [], ◌∷◌, ◌++◌, length, drop}
use Rattle.std.specs.Str.{chars, IsUtf8}
use Rattle.std.specs.Char.{len_utf8}
use Rattle.swreq_lex.specs.declared.token.Token.{Token}
use Rattle.swreq_lex.specs.declared.token.TokenKind.{TokenKind}
use Rattle.swreq_lex.specs.declared.token.TokenKind.TheVariants as kinds
use Rattle.swreq_lex.specs.Characters.{is_white_space, is_byte_order_mark, byte_length}
use Rattle.swreq_lex.specs.Comments.{IsLineComment, IsComment}
use Rattle.swreq_lex.specs.Words.{IsWord, kind_of_word}
use Rattle.swreq_lex.specs.Marks.{IsMark}

-- what stands between tokens, before the rest: one white space or one comment
pub data IsGap : List ℕ → List ℕ → Type 0 where
  white_space : {c : ℕ} {rest : List ℕ} → IsTrue (is_white_space c) → IsGap (c ∷ []) rest
  line_comment : {cs rest : List ℕ} → IsLineComment cs rest → IsGap cs rest
  comment : {cs rest : List ℕ} → IsComment cs → IsGap cs rest

-- the characters before the rest are a token of this kind
pub data IsToken : TokenKind → List ℕ → List ℕ → Type 0 where
  word : {cs rest : List ℕ} → IsWord cs rest → IsToken (kind_of_word cs) cs rest
  mark : {n : ℕ} {cs rest : List ℕ} → IsMark n cs rest → IsToken (kinds.Mark n) cs rest

-- From the offset `at` on, the characters `cs` are gaps and these tokens, up to the offset `to`, from
-- which `left` is left.
pub data Reads (to : ℕ) (left : List ℕ) : ℕ → List ℕ → List Token → Type 0 where
  done : Reads to left to left []
  gap : {at : ℕ} {cs piece rest : List ℕ} {ts : List Token} → cs ≡ piece ++ rest → IsGap piece rest
      → Reads to left (at + byte_length piece) rest ts → Reads to left at cs ts
  token : {at : ℕ} {cs piece rest : List ℕ} {kind : TokenKind} {ts : List Token} → cs ≡ piece ++ rest → IsToken kind piece rest → Reads to
      left (at + byte_length piece) rest ts → Reads to left at cs (record { kind = kind; start = at; end = at + byte_length piece } ∷ ts)

-- A byte order mark at the very front is skipped: the characters after it, and their offset.
abbrev pub after_byte_order_mark : List ℕ → List ℕ
after_byte_order_mark [] = []
after_byte_order_mark (c ∷ cs) = if is_byte_order_mark c then cs else c ∷ cs

abbrev pub first_offset : List ℕ → ℕ
first_offset [] = 0
first_offset (c ∷ cs) = if is_byte_order_mark c then len_utf8 c else 0

-- What there is to read from an offset on, and where it begins: at the very front what is after a byte order mark.
abbrev pub characters_from : List ℕ → ℕ → List ℕ
characters_from text zero = after_byte_order_mark (chars text)
characters_from text (suc n) = chars (drop (suc n) text)

abbrev pub begin_from : List ℕ → ℕ → ℕ
begin_from text zero = first_offset (chars text)
begin_from text (suc n) = suc n

-- from the offset `from` on the text is UTF-8, and is gaps and these tokens up to the offset `to`, from which `left` is left
pub record ReadsFrom (text : List ℕ) (from to : ℕ) (left : List ℕ) (ts : List Token) : Type 0 where
  pub utf8 : IsUtf8 (drop from text)
  pub reads : Reads to left (begin_from text from) (characters_from text from) ts

-- the tokens of a text from an offset on, by its bytes and in its offsets
abbrev pub HasTokensFrom : List ℕ → ℕ → List Token → Type 0
HasTokensFrom text from ts = ReadsFrom text from (length text) [] ts

-- the tokens of a text
abbrev pub HasTokens : List ℕ → List Token → Type 0
HasTokens text ts = HasTokensFrom text 0 ts
