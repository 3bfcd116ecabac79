-- Reading one piece after the other, as a loop does.
use Rattle.std.proofs.Common.{◌≡◌, ℕ, suc, ◌-◌, List, [], ◌∷◌, ◌++◌, length, take, Result, Ok, Err, refl, sym, ap, ◌∙◌, append_assoc, arith}
use Rattle.std.proofs.lemmas.List.{append-nil, length-append}
use Rattle.std.proofs.lemmas.Str.{encodes-chars, length-encode}
use Rattle.std.specs.Str.{chars, IsUtf8}
use lib.Utf8.{encodes, encode}
use Rattle.swreq_lex.specs.declared.token.Token.{Token}
use Rattle.swreq_lex.specs.declared.token.TokenKind.{TokenKind}
use Rattle.swreq_lex.specs.declared.token.TokenKind.TheVariants as kinds
use Rattle.swreq_lex.specs.declared.refusal.LexErr.{LexErr}
use Rattle.swreq_lex.specs.declared.refusal.LexErr.TheVariants as errors
use Rattle.swreq_lex.specs.Characters.{byte_length}
use Rattle.swreq_lex.specs.Words.{kind_of_bytes}
use Rattle.swreq_lex.specs.Reader.{Front, nothing, gap, word, mark, bad_character, open_comment, front, word_bytes, offset, token_of, add, read_at, read}

abbrev pub with_front : List Token → Result (List Token) LexErr → Result (List Token) LexErr
with_front xs (Ok ts) = Ok (xs ++ ts)
with_front xs (Err e) = Err e

regroup : (xs : List Token) (t : Token) (r : Result (List Token) LexErr) → with_front xs (add t r) ≡ with_front (xs ++ t ∷ []) r
regroup xs t (Ok ts) = ap (λ (zs : List Token). Ok zs) (simp append_assoc)
regroup xs t (Err e) = refl

module _ (k n end : ℕ) (xs : List Token) (cs : List ℕ) (total : Result (List Token) LexErr) (z : k ≡ suc n)
    (so_far : with_front xs (read k end cs) ≡ total) where
  opened : (f : Front) → front cs ≡ f → with_front xs (read_at f (read n end) end cs) ≡ total
  unfolding read
  opened f e = let one : read k end cs ≡ read_at f (read n end) end cs = rw (z, e) refl in rw (← one) so_far

  pub on_gap : (rest : List ℕ) → front cs ≡ gap rest → with_front xs (read n end rest) ≡ total
  on_gap rest e = opened (gap rest) e

  pub on_word : (bs : List ℕ) (a b : ℕ) (kd : TokenKind) (rest : List ℕ) → kd ≡ kind_of_bytes (take (a - b) bs)
      → encodes cs ≡ bs → byte_length cs ≡ a → byte_length rest ≡ b → front cs ≡ word rest
      → with_front (xs ++ record { kind = kd; start = end - a; end = end - b } ∷ []) (read n end rest) ≡ total
  on_word bs a b kd rest s r p q e = rw (s, ← r, ← p, ← q)
      (sym (regroup xs (token_of (kind_of_bytes (word_bytes cs rest)) end cs rest) (read n end rest)) ∙ opened (word rest) e)

  pub on_mark : (a b m : ℕ) (rest : List ℕ) → byte_length cs ≡ a → byte_length rest ≡ b → front cs ≡ mark m rest
      → with_front (xs ++ record { kind = kinds.Mark m; start = end - a; end = end - b } ∷ []) (read n end rest) ≡ total
  on_mark a b m rest p q e =
      rw (← p, ← q) (sym (regroup xs (token_of (kinds.Mark m) end cs rest) (read n end rest)) ∙ opened (mark m rest) e)

  pub on_nothing : front cs ≡ nothing → total ≡ Ok xs
  on_nothing e = sym (opened nothing e) ∙ ap (λ (zs : List Token). Ok zs) (append-nil xs)

  pub on_bad : front cs ≡ bad_character → total ≡ Err (errors.BadCharacter (offset end cs))
  on_bad e = sym (opened bad_character e)

  pub on_open : front cs ≡ open_comment → total ≡ Err (errors.OpenComment (offset end cs))
  on_open e = sym (opened open_comment e)

pub on_last : (k end : ℕ) (xs : List Token) (cs : List ℕ) (total : Result (List Token) LexErr) → k ≡ 0
    → with_front xs (read k end cs) ≡ total → total ≡ Ok xs
unfolding read
on_last k end xs cs total z so_far = sym so_far ∙ rw z (ap (λ (zs : List Token). Ok zs) (append-nil xs))

pub byte_length_encodes : (cs : List ℕ) → byte_length cs ≡ length (encodes cs)
byte_length_encodes [] = refl
byte_length_encodes (c ∷ cs) = omega (arith, byte_length_encodes cs, length-append (encode c) (encodes cs), length-encode c)

-- the bytes of the characters are the text
pub byte_length_chars : (bs : List ℕ) → IsUtf8 bs → byte_length (chars bs) ≡ length bs
byte_length_chars bs u = byte_length_encodes (chars bs) ∙ ap length (encodes-chars bs u)
