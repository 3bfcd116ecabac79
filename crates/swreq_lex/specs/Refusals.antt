-- The first place where a text can't be read as tokens, from the front or from an offset on.
use Rattle.std.specs.Prelude.{◌≡◌, ◌≢◌, ℕ, ◌+◌, List, [], ◌∷◌, ◌++◌, drop}
use Rattle.std.specs.Str.{IsUtf8}
use Rattle.std.specs.Str.Lossy.{utf8_valid_len}
use Rattle.swreq_lex.specs.declared.token.Token.{Token}
use Rattle.swreq_lex.specs.declared.token.TokenKind.{TokenKind}
use Rattle.swreq_lex.specs.declared.refusal.LexErr.{LexErr}
use Rattle.swreq_lex.specs.declared.refusal.LexErr.TheVariants as errors
use Rattle.swreq_lex.specs.Comments.{IsComment}
use Rattle.swreq_lex.specs.Tokens.{IsGap, IsToken, ReadsFrom}

-- a comment is opened here and never closed, so that it is the outermost one that is open
pub record IsOpenComment (cs : List ℕ) : Type 0 where
  pub inside : List ℕ
  pub opened : cs ≡ 47 ∷ 42 ∷ inside
  pub never_closed : (piece rest : List ℕ) → cs ≡ piece ++ rest → ¬ (IsComment piece)

-- there is a character, and no white space, comment or token begins with it
pub record IsBadCharacter (cs : List ℕ) : Type 0 where
  pub some : cs ≢ []
  pub no_gap : (piece rest : List ℕ) → cs ≡ piece ++ rest → ¬ (IsGap piece rest)
  pub no_token : (kind : TokenKind) (piece rest : List ℕ) → cs ≡ piece ++ rest → ¬ (IsToken kind piece rest)
  pub no_opening : (inside : List ℕ) → cs ≢ 47 ∷ 42 ∷ inside

-- all from the offset `from` up to the place is gaps and tokens, and there the rest has the fault
pub record StopsAt (text : List ℕ) (from at : ℕ) (IsFault : List ℕ → Type 0) : Type 0 where
  pub tokens : List Token
  pub left : List ℕ
  pub before : ReadsFrom text from at left tokens
  pub fault : IsFault left

-- the first lexical refusal of a text from an offset on, by its bytes and in its offsets
abbrev pub HasRefusalFrom : List ℕ → ℕ → LexErr → Type 0
HasRefusalFrom text from (errors.NotUtf8 at) = ¬ (IsUtf8 (drop from text)) × (at ≡ from + utf8_valid_len (drop from text))
HasRefusalFrom text from (errors.BadCharacter at) = StopsAt text from at IsBadCharacter
HasRefusalFrom text from (errors.OpenComment at) = StopsAt text from at IsOpenComment
HasRefusalFrom text from errors.Memory = ⊥

-- the first lexical refusal of a text
abbrev pub HasRefusal : List ℕ → LexErr → Type 0
HasRefusal text e = HasRefusalFrom text 0 e
