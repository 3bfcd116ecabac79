-- What is answered for a text from an offset on, from what is read of its characters.
use Rattle.std.proofs.Common.{ap, sym, ◌≡◌, ℕ, zero, suc, ◌+◌, ◌≤◌, true, false, cond, List, [], ◌∷◌, length, drop, Result, Ok, Err, refl, subst, ◌∙◌, arith, inl, inr}
use Rattle.std.specs.Prelude.{◌⊎◌, MatchResult, IfOk, IfErr}
use Rattle.std.specs.Global.{Vec}
use Rattle.std.specs.Char.{len_utf8}
use Rattle.std.specs.Str.{chars, IsUtf8, is_utf8}
use Rattle.std.specs.Str.Lossy.{utf8_valid_len}
use Rattle.std.proofs.lemmas.List.{length-drop}
use Rattle.std.proofs.lemmas.Str.{encodes-chars, length-le-encodes, IsUtf8-from_is_utf8, is_utf8-from_IsUtf8}
use Rattle.swreq_lex.specs.declared.token.Token.{Token}
use Rattle.swreq_lex.specs.declared.refusal.LexErr.{LexErr}
use Rattle.swreq_lex.specs.declared.refusal.LexErr.TheVariants as errors
use Rattle.swreq_lex.specs.Characters.{byte_length, is_byte_order_mark}
use Rattle.swreq_lex.specs.Tokens.{after_byte_order_mark, begin_from, characters_from, first_offset, HasTokens, HasTokensFrom}
use Rattle.swreq_lex.specs.Refusals.{HasRefusal, HasRefusalFrom}
use Rattle.swreq_lex.specs.Reader.{read, Answers}
use Rattle.swreq_lex.proofs.Loop.{byte_length_chars}
use Rattle.swreq_lex.proofs.ReadLemmas.{Outcome, outcome, tokens_read, bad_character_read, open_comment_read}

starts_after_mark : (cs : List ℕ) → first_offset cs + byte_length (after_byte_order_mark cs) ≡ byte_length cs
starts_after_mark [] = refl
starts_after_mark (c ∷ cs) = elim (is_byte_order_mark c)
    as (λ b. cond b (len_utf8 c) 0 + byte_length (cond b cs (c ∷ cs)) ≡ byte_length (c ∷ cs)) [ true ↦ refl | false ↦ omega arith ]

no_more_characters : (bs : List ℕ) → IsUtf8 bs → length (chars bs) ≤ length bs
no_more_characters bs u = subst (λ (zs : List ℕ). length (chars bs) ≤ length zs) (encodes-chars bs u) (length-le-encodes (chars bs))

module _ (text : List ℕ) (from : ℕ) (within : from ≤ length text) where
  -- the characters that are read
  abbrev read_chars : List ℕ
  read_chars = characters_from text from

  -- what is read of them
  abbrev read_of : ℕ → Result (List Token) LexErr
  read_of n = read n (length text) read_chars

  pub begins : IsUtf8 (drop from text) → begin_from text from + byte_length read_chars ≡ length text
  begins u =
      elim from as (λ k. k ≤ length text → IsUtf8 (drop k text) → begin_from text k + byte_length (characters_from text k) ≡ length text) [
        | zero ↦ λ _ v. starts_after_mark (chars text) ∙ byte_length_chars text v
        | suc k ↦ λ l v. let b = byte_length_chars (drop (suc k) text) v in let d = length-drop (suc k) text in omega arith
      ] within u

  -- ---- what the text has is read

  tokens_read_of : (ts : List Token) (n : ℕ) → HasTokensFrom text from ts → length read_chars ≤ n → read_of n ≡ Ok ts
  tokens_read_of ts n h l = tokens_read h.reads n (length text) (begins h.utf8) l

  refusal_read_of : (e : LexErr) (n : ℕ) → IsUtf8 (drop from text) → HasRefusalFrom text from e → length read_chars ≤ n → read_of n ≡ Err e
  refusal_read_of (errors.NotUtf8 at) n u h l = absurd (h.0 u)
  refusal_read_of (errors.BadCharacter at) n u h l = bad_character_read h.before.reads h.fault n (length text) (begins u) l
  refusal_read_of (errors.OpenComment at) n u h l = open_comment_read h.before.reads h.fault n (length text) (begins u) l
  refusal_read_of errors.Memory n u h l = absurd h

  -- ---- what is read the text has

  abbrev Has : Result (List Token) LexErr → Type 0
  Has (Ok ts) = HasTokensFrom text from ts
  Has (Err e) = HasRefusalFrom text from e

  has_outcome : IsUtf8 (drop from text) → (r : Result (List Token) LexErr)
      → Outcome (length text) (begin_from text from) read_chars r → Has r
  has_outcome u (Ok ts) o = record { utf8 = u; reads = o }
  has_outcome u (Err (errors.BadCharacter at)) o =
      record { tokens = o.tokens; left = o.left; before = record { utf8 = u; reads = o.before }; fault = o.fault }
  has_outcome u (Err (errors.OpenComment at)) o =
      record { tokens = o.tokens; left = o.left; before = record { utf8 = u; reads = o.before }; fault = o.fault }
  has_outcome u (Err (errors.NotUtf8 at)) o = absurd o
  has_outcome u (Err errors.Memory) o = absurd o

  has_what_is_read : (n : ℕ) → IsUtf8 (drop from text) → length read_chars ≤ n → Has (read_of n)
  has_what_is_read n u l = has_outcome u (read_of n) (outcome n (length text) (begin_from text from) read_chars (begins u) l)

  -- ---- one reading

  whole : length read_chars ≤ length read_chars
  whole = omega arith

  abbrev some_read : Type 0
  some_read = ((ts : List Token) × HasTokensFrom text from ts) ⊎ ((e : LexErr) × HasRefusalFrom text from e)

  either : (r : Result (List Token) LexErr) → Has r → some_read
  either (Ok ts) h = inl (ts, h)
  either (Err e) h = inr (e, h)

  pub some_reading_from : ((ts : List Token) × HasTokensFrom text from ts) ⊎ ((e : LexErr) × HasRefusalFrom text from e)
  some_reading_from = elim (is_utf8 (drop from text)) as (λ b. is_utf8 (drop from text) ≡ b → some_read) [
    | true ↦ λ h. let u = IsUtf8-from_is_utf8 (drop from text) h in
        either (read_of (length read_chars)) (has_what_is_read (length read_chars) u whole)
    | false ↦ λ h.
        inr (errors.NotUtf8 (from + utf8_valid_len (drop from text)), (λ u. let k = is_utf8-from_IsUtf8 (drop from text) u in cc, refl))
  ] refl

  pub one_list_from : (ts us : List Token) → HasTokensFrom text from ts → HasTokensFrom text from us → ts ≡ us
  one_list_from ts us h k =
      let n = length read_chars in
      let a = tokens_read_of ts n h whole in
      let b = tokens_read_of us n k whole in
      cc

  pub never_both_from : (ts : List Token) (e : LexErr) → HasTokensFrom text from ts → ¬ (HasRefusalFrom text from e)
  never_both_from ts e h k =
      let n = length read_chars in
      let a = tokens_read_of ts n h whole in
      let b = refusal_read_of e n h.utf8 k whole in
      cc

  -- what is refused at a place in it is UTF-8
  utf8_by : (e : LexErr) → HasRefusalFrom text from e
      → IsUtf8 (drop from text) ⊎ (e ≡ errors.NotUtf8 (from + utf8_valid_len (drop from text)))
  utf8_by (errors.NotUtf8 at) h = inr (ap (λ (k : ℕ). errors.NotUtf8 k) h.1)
  utf8_by (errors.BadCharacter at) h = inl h.before.utf8
  utf8_by (errors.OpenComment at) h = inl h.before.utf8
  utf8_by errors.Memory h = absurd h

  same_refusal : (d e : LexErr) → HasRefusalFrom text from d → HasRefusalFrom text from e → IsUtf8 (drop from text) → d ≡ e
  same_refusal d e h k u =
      let n = length read_chars in
      let a = refusal_read_of d n u h whole in
      let b = refusal_read_of e n u k whole in
      cc

  pub one_refusal_from : (d e : LexErr) → HasRefusalFrom text from d → HasRefusalFrom text from e → d ≡ e
  one_refusal_from d e h k = go (utf8_by d h) (utf8_by e k)
    where
      go : IsUtf8 (drop from text) ⊎ (d ≡ errors.NotUtf8 (from + utf8_valid_len (drop from text)))
          → IsUtf8 (drop from text) ⊎ (e ≡ errors.NotUtf8 (from + utf8_valid_len (drop from text))) → d ≡ e
      go (inl u) q = same_refusal d e h k u
      go (inr p) (inl u) = same_refusal d e h k u
      go (inr p) (inr q) = p ∙ sym q

-- ---- of a whole text

pub one_list : (text : List ℕ) (ts us : List Token) → HasTokens text ts → HasTokens text us → ts ≡ us
one_list text = one_list_from text 0 (omega arith)

pub never_both : (text : List ℕ) (ts : List Token) (e : LexErr) → HasTokens text ts → ¬ (HasRefusal text e)
never_both text = never_both_from text 0 (omega arith)

-- ---- what is answered

-- the answer has the tokens of the text from the offset on or its refusal, where it has one, or memory ran out
pub record IsRight (text : List ℕ) (from : ℕ) (r : Result (Vec Token) LexErr) : Type 0 where
  pub ok : IfOk r (λ found. HasTokensFrom text from found.items)
  pub err : IfErr r (λ e. (e ≡ errors.Memory) ⊎ HasRefusalFrom text from e)
  pub tokens : (ts : List Token) → HasTokensFrom text from ts → MatchResult r (λ found. found.items ≡ ts) (λ e. e ≡ errors.Memory)
  pub refusal : (refused : LexErr) → HasRefusalFrom text from refused → MatchResult r (λ _. ⊥) (λ e. (e ≡ errors.Memory) ⊎ (e ≡ refused))

-- the rest is what there is to read
module _ (text : List ℕ) (from : ℕ) (within : from ≤ length text) (rest : List ℕ)
    (u : IsUtf8 (drop from text)) (v : IsUtf8 rest) (m : chars rest ≡ characters_from text from) where
  enough : length (characters_from text from) ≤ length rest
  enough = subst (λ (cs : List ℕ). length cs ≤ length rest) m (no_more_characters rest v)

  abbrev is_read : Result (List Token) LexErr
  is_read = read_of text from within (length rest)

  answered : (r : Result (Vec Token) LexErr) → Answers r (read (length rest) (length text) (chars rest)) → Answers r is_read
  answered r a = subst (λ (cs : List ℕ). Answers r (read (length rest) (length text) cs)) m a

  has : Has text from within is_read
  has = has_what_is_read text from within (length rest) u enough

  abbrev had : Result (List Token) LexErr → Type 0
  had r = Has text from within r

  ok_has_tokens : (r : Result (Vec Token) LexErr) → Answers r is_read → IfOk r (λ found. HasTokensFrom text from found.items)
  ok_has_tokens (Ok found) a = subst had a has
  ok_has_tokens (Err e) a = tt

  err_has_refusal : (r : Result (Vec Token) LexErr) → Answers r is_read → IfErr r (λ e. (e ≡ errors.Memory) ⊎ HasRefusalFrom text from e)
  err_has_refusal (Ok found) a = tt
  err_has_refusal (Err errors.Memory) a = inl refl
  err_has_refusal (Err (errors.NotUtf8 at)) a = inr (subst had a has)
  err_has_refusal (Err (errors.BadCharacter at)) a = inr (subst had a has)
  err_has_refusal (Err (errors.OpenComment at)) a = inr (subst had a has)

  has_tokens_ok : (r : Result (Vec Token) LexErr) → Answers r is_read → (ts : List Token) → HasTokensFrom text from ts
      → MatchResult r (λ found. found.items ≡ ts) (λ e. e ≡ errors.Memory)
  has_tokens_ok (Ok found) a ts h = let k = tokens_read_of text from within ts (length rest) h enough in cc
  has_tokens_ok (Err errors.Memory) a ts h = refl
  has_tokens_ok (Err (errors.NotUtf8 at)) a ts h = absurd (let k = tokens_read_of text from within ts (length rest) h enough in cc)
  has_tokens_ok (Err (errors.BadCharacter at)) a ts h = absurd (let k = tokens_read_of text from within ts (length rest) h enough in cc)
  has_tokens_ok (Err (errors.OpenComment at)) a ts h = absurd (let k = tokens_read_of text from within ts (length rest) h enough in cc)

  has_refusal_err : (r : Result (Vec Token) LexErr) → Answers r is_read → (refused : LexErr) → HasRefusalFrom text from refused
      → MatchResult r (λ _. ⊥) (λ e. (e ≡ errors.Memory) ⊎ (e ≡ refused))
  has_refusal_err (Ok found) a refused h = let k = refusal_read_of text from within refused (length rest) u h enough in cc
  has_refusal_err (Err errors.Memory) a refused h = inl refl
  has_refusal_err (Err (errors.NotUtf8 at)) a refused h =
      inr (let k = refusal_read_of text from within refused (length rest) u h enough in cc)
  has_refusal_err (Err (errors.BadCharacter at)) a refused h =
      inr (let k = refusal_read_of text from within refused (length rest) u h enough in cc)
  has_refusal_err (Err (errors.OpenComment at)) a refused h =
      inr (let k = refusal_read_of text from within refused (length rest) u h enough in cc)

  pub is_right : (r : Result (Vec Token) LexErr) → Answers r (read (length rest) (length text) (chars rest)) → IsRight text from r
  is_right r a = let b = answered r a in
      record { ok = ok_has_tokens r b; err = err_has_refusal r b; tokens = has_tokens_ok r b; refusal = has_refusal_err r b }
