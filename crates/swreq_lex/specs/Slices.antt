-- A text as the slices that are its tokens, and the white space and comments between them.
use Rattle.std.specs.Prelude.{◌≡◌, ◌≢◌, ℕ, ◌≤◌, ◌<◌, IsTrue, All, Some, List, [], ◌∷◌, ◌++◌, length, slice_get, slice_range}
use Rattle.std.specs.Str.{encode_utf8_all}
use Rattle.swreq_lex.specs.declared.token.Token.{Token}
use Rattle.swreq_lex.specs.declared.token.TokenKind.{TokenKind}
use Rattle.swreq_lex.specs.declared.token.TokenKind.TheVariants as kinds
use Rattle.swreq_lex.specs.Characters.{starts_word, continues_word}
use Rattle.swreq_lex.specs.Words.{reserved}
use Rattle.swreq_lex.specs.Marks.{spellings}
use Rattle.swreq_lex.specs.Tokens.{IsGap}

-- the characters are white space and comments alone
pub data OnlyGaps : List ℕ → Type 0 where
  none : OnlyGaps []
  more : {cs piece rest : List ℕ} → cs ≡ piece ++ rest → IsGap piece rest → OnlyGaps rest → OnlyGaps cs

-- the bytes are white space and comments alone
pub record IsBetween (bytes : List ℕ) : Type 0 where
  pub characters : List ℕ
  pub spelled : bytes ≡ encode_utf8_all characters
  pub gaps : OnlyGaps characters

-- the bytes are a word
pub record IsSpelledWord (bytes : List ℕ) : Type 0 where
  pub first : ℕ
  pub others : List ℕ
  pub spelled : bytes ≡ encode_utf8_all (first ∷ others)
  pub starts : IsTrue (starts_word first)
  pub continues : All (λ c. IsTrue (continues_word c)) others

-- the bytes of a token of this kind
abbrev pub IsSpelled : TokenKind → List ℕ → Type 0
IsSpelled kinds.Name bytes = IsSpelledWord bytes × ((n : ℕ) → slice_get reserved n ≢ Some bytes) × (bytes ≢ 95 ∷ [])
IsSpelled (kinds.Reserved n) bytes = slice_get reserved n ≡ Some bytes
IsSpelled kinds.Underscore bytes = bytes ≡ 95 ∷ []
IsSpelled (kinds.Mark n) bytes = slice_get spellings n ≡ Some bytes

-- From an offset on, the tokens stand in order, each is its slice of the text, and between them, and
-- after the last, there are white space and comments alone.
pub data AreSlices (text : List ℕ) : ℕ → List Token → Type 0 where
  last : {from : ℕ} → from ≤ length text → IsBetween (slice_range text from (length text)) → AreSlices text from []
  next : {from : ℕ} {t : Token} {ts : List Token} → from ≤ t.start → t.start < t.end → t.end ≤ length text → IsBetween (slice_range text
      from t.start) → IsSpelled t.kind (slice_range text t.start t.end) → AreSlices text t.end ts → AreSlices text from (t ∷ ts)
