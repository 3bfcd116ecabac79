-- How the characters of a text are read from the front, as the functions of `src` do it. No public promise rests on this
-- file: `Tokens` and `Refusals` say what is read.
use Rattle.std.specs.Prelude.{◌≡◌, ℕ, zero, suc, ◌-◌, Bool, ◌==◌, List, [], ◌∷◌, length, drop, map, nat_eq, nat_lt, Option, Some, None, Result, Ok, Err, position, slice_get, if◌then◌else◌, unwrap_or, take}
use Rattle.std.specs.Borrow.{Bor}
use Rattle.std.specs.List.{starts_with, list_all}
use Rattle.std.specs.Str.{encode_utf8_all}
use Rattle.std.specs.Global.{Vec}
use Rattle.swreq_lex.specs.declared.token.Token.{Token}
use Rattle.swreq_lex.specs.declared.token.TokenKind.{TokenKind}
use Rattle.swreq_lex.specs.declared.token.TokenKind.TheVariants as kinds
use Rattle.swreq_lex.specs.declared.refusal.LexErr.{LexErr}
use Rattle.swreq_lex.specs.declared.refusal.LexErr.TheVariants as errors
use Rattle.swreq_lex.specs.Characters.{is_white_space, starts_word, continues_word, continues_line, byte_length}
use Rattle.swreq_lex.specs.Comments.{is_opening, is_closing}
use Rattle.swreq_lex.specs.Words.{kind_of_bytes}
use Rattle.swreq_lex.specs.Marks.{spellings}

-- what is left after the longest run of characters that pass the test
unfoldable pub past : (ℕ → Bool) → List ℕ → List ℕ
past test [] = []
past test (c ∷ cs) = if test c then past test cs else c ∷ cs

-- what stands for a character that has opened or closed a comment, so that it does so once: a space, which does neither
abbrev pub forgotten : ℕ
forgotten = 32

-- What is left after the end of a comment, from inside it and this many more, after the character `before`.
unfoldable pub past_comment : ℕ → ℕ → List ℕ → Option (List ℕ)
past_comment depth before [] = None
past_comment zero before (c ∷ cs) =
    if is_opening before c then past_comment 1 forgotten cs
    else (if is_closing before c then Some cs
    else past_comment 0 c cs)
past_comment (suc depth) before (c ∷ cs) =
    if is_opening before c then past_comment (suc (suc depth)) forgotten cs
    else (if is_closing before c then past_comment depth forgotten cs
    else past_comment (suc depth) c cs)

-- what stands at the front, and what is left after it
pub data Front : Type 0 where
  nothing : Front
  gap : List ℕ → Front
  word : List ℕ → Front
  mark : ℕ → List ℕ → Front
  bad_character : Front
  open_comment : Front

abbrev pub after_comment : Option (List ℕ) → Front
after_comment (Some rest) = gap rest
after_comment None = open_comment

-- after a `/`
unfoldable pub after_slash : List ℕ → Front
after_slash [] = bad_character
after_slash (c ∷ cs) =
    if c == 47 then gap (past continues_line cs)
    else (if c == 42 then after_comment (past_comment 0 forgotten cs)
    else bad_character)

abbrev pub texts : List (Bor (List ℕ)) → List (List ℕ)
texts marks = map (λ mark. mark.now) marks

-- each character of each mark is ASCII
abbrev pub are_ascii : List (List ℕ) → Bool
are_ascii marks = list_all (λ mark. list_all (λ c. nat_lt c 128) mark) marks

-- the place of the first of these marks that the characters begin with
abbrev pub first_at : List (List ℕ) → List ℕ → Option ℕ
first_at marks cs = position (λ mark. starts_with nat_eq cs mark) marks

abbrev pub mark_at : List ℕ → Option ℕ
mark_at cs = first_at spellings cs

-- what is left after the n-th of these marks
abbrev pub past_mark : List (List ℕ) → ℕ → List ℕ → List ℕ
past_mark marks n cs = drop (length (unwrap_or (slice_get marks n) [])) cs

abbrev pub at_mark : Option ℕ → List ℕ → Front
at_mark (Some n) cs = mark n (past_mark spellings n cs)
at_mark None cs = bad_character

unfoldable pub front : List ℕ → Front
front [] = nothing
front (c ∷ cs) =
    if is_white_space c then gap cs
    else (if starts_word c then word (past continues_word cs)
    else (if c == 47 then after_slash cs
    else at_mark (mark_at (c ∷ cs)) (c ∷ cs)))

-- ---- the tokens, one after the other

-- an offset, by the end of the text and the characters that are left
abbrev pub offset : ℕ → List ℕ → ℕ
offset end cs = end - byte_length cs

-- the bytes before the rest
abbrev pub word_bytes : List ℕ → List ℕ → List ℕ
word_bytes cs rest = take (byte_length cs - byte_length rest) (encode_utf8_all cs)

abbrev pub token_of : TokenKind → ℕ → List ℕ → List ℕ → Token
token_of kind end cs rest = record { kind = kind; start = offset end cs; end = offset end rest }

abbrev pub add : Token → Result (List Token) LexErr → Result (List Token) LexErr
add t (Ok ts) = Ok (t ∷ ts)
add t (Err e) = Err e

abbrev pub read_at : Front → (List ℕ → Result (List Token) LexErr) → ℕ → List ℕ → Result (List Token) LexErr
read_at nothing go end cs = Ok []
read_at (gap rest) go end cs = go rest
read_at (word rest) go end cs = add (token_of (kind_of_bytes (word_bytes cs rest)) end cs rest) (go rest)
read_at (mark n rest) go end cs = add (token_of (kinds.Mark n) end cs rest) (go rest)
read_at bad_character go end cs = Err (errors.BadCharacter (offset end cs))
read_at open_comment go end cs = Err (errors.OpenComment (offset end cs))

-- the tokens of the characters up to the end of the text, in at most this many pieces
unfoldable pub read : ℕ → ℕ → List ℕ → Result (List Token) LexErr
read zero end cs = Ok []
read (suc n) end cs = read_at (front cs) (read n end) end cs

-- the answer is what is read, unless memory runs out
abbrev pub Answers : Result (Vec Token) LexErr → Result (List Token) LexErr → Type 0
Answers (Ok found) r = r ≡ Ok found.items
Answers (Err errors.Memory) r = Unit {0}
Answers (Err e) r = r ≡ Err e
