-- The tokens that are read are those of the text.
use Rattle.std.proofs.Common.{◌≡◌, ℕ, zero, suc, ◌+◌, ◌-◌, ◌≤◌, ◌<◌, List, [], ◌∷◌, ◌++◌, length, Result, Ok, Err, refl, sym, ap, subst, ◌∙◌, arith, ◌≢◌}
use Rattle.std.proofs.lemmas.List.{length-append}
use Rattle.std.proofs.lemmas.Str.{encodes-append}
use Rattle.std.proofs.Math.Seq.{take-append_seam}
use lib.Utf8.{encodes}
use Rattle.swreq_lex.specs.declared.token.Token.{Token}
use Rattle.swreq_lex.specs.declared.token.TokenKind.{TokenKind}
use Rattle.swreq_lex.specs.declared.token.TokenKind.TheVariants as kinds
use Rattle.swreq_lex.specs.declared.refusal.LexErr.{LexErr}
use Rattle.swreq_lex.specs.declared.refusal.LexErr.TheVariants as errors
use Rattle.swreq_lex.specs.Characters.{byte_length}
use Rattle.swreq_lex.specs.Comments as comments
use Rattle.swreq_lex.specs.Words as words
use Rattle.swreq_lex.specs.Words.{kind_of_bytes, kind_of_word}
use Rattle.swreq_lex.specs.Tokens as pieces
use Rattle.swreq_lex.specs.Tokens.{IsGap, IsToken, Reads, done}
use Rattle.swreq_lex.specs.Refusals.{IsBadCharacter, IsOpenComment}
use Rattle.swreq_lex.specs.Reader.{Front, nothing, gap, word, mark, bad_character, open_comment, front, word_bytes, offset, token_of, add, read_at, read}
use Rattle.swreq_lex.proofs.Loop.{byte_length_encodes}
use Rattle.swreq_lex.proofs.PieceLemmas.{front_gap, front_of_word, front_of_mark, Shown, shown, bad_found, open_found, front_bad, front_open, mark_has_character}

pub byte_length-append : (xs ys : List ℕ) → byte_length (xs ++ ys) ≡ byte_length xs + byte_length ys
byte_length-append [] ys = omega arith
byte_length-append (x ∷ xs) ys = omega (arith, byte_length-append xs ys)

-- the offset of what is left after a piece
after_piece : (at end : ℕ) (cs piece rest : List ℕ) → cs ≡ piece ++ rest → at + byte_length cs ≡ end
    → (at + byte_length piece) + byte_length rest ≡ end
after_piece at end cs piece rest p e =
    let k : byte_length cs ≡ byte_length piece + byte_length rest = rw p (byte_length-append piece rest) in omega arith

here : (at end : ℕ) (cs : List ℕ) → at + byte_length cs ≡ end → offset end cs ≡ at
here at end cs e = omega arith

-- the bytes before what is left are those of the word
bytes_of_word : (cs piece rest : List ℕ) → cs ≡ piece ++ rest → word_bytes cs rest ≡ encodes piece
bytes_of_word cs piece rest p =
    let count : byte_length cs - byte_length rest ≡ length (encodes piece) =
    omega (arith, byte_length-append piece rest, ap byte_length p, byte_length_encodes piece) in
    let split : encodes cs ≡ encodes piece ++ encodes rest = rw p (encodes-append piece rest) in
    rw (count, split) (take-append_seam (encodes piece) (encodes rest))

-- ---- a piece has a character

gap_has_character : (piece rest : List ℕ) → IsGap piece rest → 0 < length piece
gap_has_character piece rest (pieces.white_space h) = omega arith
gap_has_character piece rest (pieces.line_comment (comments.line_comment r)) = omega arith
gap_has_character piece rest (pieces.comment (comments.comment i)) = omega arith

word_has_character : (piece rest : List ℕ) → words.IsWord piece rest → 0 < length piece
word_has_character piece rest (words.word s r) = omega arith

pub token_has_character : (kind : TokenKind) (piece rest : List ℕ) → IsToken kind piece rest → 0 < length piece
token_has_character kind piece rest (pieces.word w) = word_has_character piece rest w
token_has_character kind piece rest (pieces.mark {n = n} m) = mark_has_character n piece rest m

shorter : (n : ℕ) (cs piece rest : List ℕ) → cs ≡ piece ++ rest → 0 < length piece → length cs ≤ n → length rest < n
shorter n cs piece rest p h l = let k : length cs ≡ length piece + length rest = rw p (length-append piece rest) in omega arith

step : (n end : ℕ) (cs : List ℕ) (f : Front) → front cs ≡ f → read (suc n) end cs ≡ read_at f (read n end) end cs
unfolding read
step n end cs f e = rw e refl

-- so a list that has a piece is read in at least one step
one_step : (n end : ℕ) (cs piece rest : List ℕ) (f : Front) → cs ≡ piece ++ rest → 0 < length piece → length cs ≤ n → front cs ≡ f
    → (m : ℕ) × (length rest ≤ m) × (read n end cs ≡ read_at f (read m end) end cs)
one_step zero end cs piece rest f p h l e = absurd (let k = shorter 0 cs piece rest p h l in omega arith)
one_step (suc m) end cs piece rest f p h l e = (m, let k = shorter (suc m) cs piece rest p h l in omega arith, step m end cs f e)

-- ---- what the text has is read

abbrev after_these : List Token → Result (List Token) LexErr → Result (List Token) LexErr
after_these [] r = r
after_these (t ∷ ts) r = add t (after_these ts r)

pub record ReadUpTo (n end to : ℕ) (left cs : List ℕ) (ts : List Token) : Type 0 where
  pub steps : ℕ
  pub enough : length left ≤ steps
  pub there : to + byte_length left ≡ end
  pub is_read : read n end cs ≡ after_these ts (read steps end left)

same_token : (kind kind' : TokenKind) (at end : ℕ) (cs piece rest : List ℕ) → cs ≡ piece ++ rest → at + byte_length cs ≡ end → kind ≡ kind'
    → token_of kind end cs rest ≡ record { kind = kind'; start = at; end = at + byte_length piece }
same_token kind kind' at end cs piece rest p e k =
    let first : offset end cs ≡ at = here at end cs e in
    let last : offset end rest ≡ at + byte_length piece = here (at + byte_length piece) end rest (after_piece at end cs piece rest p e) in
    rw (first, last, k) refl

pub reads_tokens : {to : ℕ} {left cs : List ℕ} {at : ℕ} {ts : List Token} → Reads to left at cs ts → (n end : ℕ) → at + byte_length cs ≡ end
    → length cs ≤ n → ReadUpTo n end to left cs ts
reads_tokens done n end e l = record { steps = n; enough = l; there = e; is_read = refl }
reads_tokens (pieces.gap {at} {cs} {piece} {rest} p g r) n end e l =
    let s = one_step n end cs piece rest (gap rest) p (gap_has_character piece rest g) l (front_gap cs piece rest p g) in
    let later = reads_tokens r s.0 end (after_piece at end cs piece rest p e) s.1 in
    record { steps = later.steps; enough = later.enough; there = later.there; is_read = s.2 ∙ later.is_read }
reads_tokens (pieces.token {at} {cs} {piece} {rest} {ts = ts} p (pieces.word w) r) n end e l =
    let s = one_step n end cs piece rest (word rest) p (word_has_character piece rest w) l (front_of_word cs piece rest p w) in
    let later = reads_tokens r s.0 end (after_piece at end cs piece rest p e) s.1 in
    let same = same_token (kind_of_bytes (word_bytes cs rest)) (kind_of_word piece) at end cs piece rest p e
    (ap kind_of_bytes (bytes_of_word cs piece rest p)) in
    record {
      steps = later.steps;
      enough = later.enough;
      there = later.there;
      is_read = s.2 ∙ (ap (λ t. add t (read s.0 end rest)) same ∙ ap (add _) later.is_read);
    }
reads_tokens (pieces.token {at} {cs} {piece} {rest} {ts = ts} p (pieces.mark {n = k} m) r) n end e l =
    let s = one_step n end cs piece rest (mark k rest) p (mark_has_character k piece rest m) l (front_of_mark k cs piece rest p m) in
    let later = reads_tokens r s.0 end (after_piece at end cs piece rest p e) s.1 in
    let same = same_token (kinds.Mark k) (kinds.Mark k) at end cs piece rest p e refl in
    record {
      steps = later.steps;
      enough = later.enough;
      there = later.there;
      is_read = s.2 ∙ (ap (λ t. add t (read s.0 end rest)) same ∙ ap (add _) later.is_read);
    }

nothing_left : (n end : ℕ) → read n end [] ≡ Ok []
unfolding read front
nothing_left zero end = refl
nothing_left (suc n) end = refl

all_these : (ts : List Token) → after_these ts (Ok []) ≡ Ok ts
all_these [] = refl
all_these (t ∷ ts) = ap (add t) (all_these ts)

no_more : (ts : List Token) (f : LexErr) → after_these ts (Err f) ≡ Err f
no_more [] f = refl
no_more (t ∷ ts) f = ap (add t) (no_more ts f)

pub tokens_read : {to at : ℕ} {cs : List ℕ} {ts : List Token} → Reads to [] at cs ts → (n end : ℕ) → at + byte_length cs ≡ end
    → length cs ≤ n → read n end cs ≡ Ok ts
tokens_read {ts = ts} r n end e l =
    let u = reads_tokens r n end e l in u.is_read ∙ (ap (after_these ts) (nothing_left u.steps end) ∙ all_these ts)

stop : (n end : ℕ) (cs : List ℕ) (f : Front) → cs ≢ [] → length cs ≤ n → front cs ≡ f
    → (m : ℕ) × (read n end cs ≡ read_at f (read m end) end cs)
stop n end [] f s l e = absurd (s refl)
stop zero end (c ∷ cs) f s l e = absurd (omega arith)
stop (suc m) end (c ∷ cs) f s l e = (m, step m end (c ∷ cs) f e)

pub bad_character_read : {to at : ℕ} {left cs : List ℕ} {ts : List Token} → Reads to left at cs ts → IsBadCharacter left → (n end : ℕ)
    → at + byte_length cs ≡ end → length cs ≤ n → read n end cs ≡ Err (errors.BadCharacter to)
bad_character_read {to} {left = left} {ts = ts} r b n end e l =
    let u = reads_tokens r n end e l in
    let s = stop u.steps end left bad_character b.some u.enough (front_bad left b) in
    u.is_read ∙ (ap (after_these ts) (s.1 ∙ ap (λ (k : ℕ). Err (errors.BadCharacter k)) (here to end left u.there))
    ∙ no_more ts (errors.BadCharacter to))

pub open_comment_read : {to at : ℕ} {left cs : List ℕ} {ts : List Token} → Reads to left at cs ts → IsOpenComment left → (n end : ℕ)
    → at + byte_length cs ≡ end → length cs ≤ n → read n end cs ≡ Err (errors.OpenComment to)
open_comment_read {to} {left = left} {ts = ts} r b n end e l =
    let u = reads_tokens r n end e l in
    let some : left ≢ [] = λ h. let k = b.opened in cc in
    let s = stop u.steps end left open_comment some u.enough (front_open left b) in
    u.is_read ∙
    (ap (after_these ts) (s.1 ∙ ap (λ (k : ℕ). Err (errors.OpenComment k)) (here to end left u.there)) ∙ no_more ts (errors.OpenComment to))

-- ---- what is read the text has

-- the characters are gaps and tokens up to a place with the fault
pub record Stops (at : ℕ) (cs : List ℕ) (to : ℕ) (IsFault : List ℕ → Type 0) : Type 0 where
  pub tokens : List Token
  pub left : List ℕ
  pub before : Reads to left at cs tokens
  pub fault : IsFault left

abbrev pub Outcome : ℕ → ℕ → List ℕ → Result (List Token) LexErr → Type 0
Outcome end at cs (Ok ts) = Reads end [] at cs ts
Outcome end at cs (Err (errors.BadCharacter to)) = Stops at cs to IsBadCharacter
Outcome end at cs (Err (errors.OpenComment to)) = Stops at cs to IsOpenComment
Outcome end at cs (Err (errors.NotUtf8 to)) = ⊥
Outcome end at cs (Err errors.Memory) = ⊥

with_gap : (end at : ℕ) (cs piece rest : List ℕ) → cs ≡ piece ++ rest → IsGap piece rest → (r : Result (List Token) LexErr)
    → Outcome end (at + byte_length piece) rest r → Outcome end at cs r
with_gap end at cs piece rest p g (Ok ts) o = pieces.gap p g o
with_gap end at cs piece rest p g (Err (errors.BadCharacter to)) o =
    record { tokens = o.tokens; left = o.left; before = pieces.gap p g o.before; fault = o.fault }
with_gap end at cs piece rest p g (Err (errors.OpenComment to)) o =
    record { tokens = o.tokens; left = o.left; before = pieces.gap p g o.before; fault = o.fault }
with_gap end at cs piece rest p g (Err (errors.NotUtf8 to)) o = o
with_gap end at cs piece rest p g (Err errors.Memory) o = o

with_token : (end at : ℕ) (kind : TokenKind) (cs piece rest : List ℕ) → cs ≡ piece ++ rest
    → IsToken kind piece rest → (r : Result (List Token) LexErr) → Outcome end (at + byte_length piece) rest r
    → Outcome end at cs (add (record { kind = kind; start = at; end = at + byte_length piece }) r)
with_token end at kind cs piece rest p t (Ok ts) o = pieces.token p t o
with_token end at kind cs piece rest p t (Err (errors.BadCharacter to)) o =
    record { tokens = _; left = o.left; before = pieces.token p t o.before; fault = o.fault }
with_token end at kind cs piece rest p t (Err (errors.OpenComment to)) o =
    record { tokens = _; left = o.left; before = pieces.token p t o.before; fault = o.fault }
with_token end at kind cs piece rest p t (Err (errors.NotUtf8 to)) o = o
with_token end at kind cs piece rest p t (Err errors.Memory) o = o

-- what n more steps read of any shorter list is right
abbrev Below : ℕ → ℕ → Type 0
Below n end = (at : ℕ) (cs : List ℕ) → at + byte_length cs ≡ end → length cs ≤ n → Outcome end at cs (read n end cs)

outcome_at : (n end at : ℕ) (cs : List ℕ) (f : Front) → front cs ≡ f → Shown cs f → at + byte_length cs ≡ end → length cs ≤ suc n
    → Below n end → Outcome end at cs (read_at f (read n end) end cs)
outcome_at n end at cs nothing e s h l below = let same : end ≡ at = let k = ap byte_length s in omega arith in rw (s, same) done
outcome_at n end at cs (gap rest) e s h l below =
    with_gap end at cs s.0 rest s.1 s.2 (read n end rest) (below (at + byte_length s.0) rest (after_piece at end cs s.0 rest s.1 h)
    (let k = shorter (suc n) cs s.0 rest s.1 (gap_has_character s.0 rest s.2) l in omega arith))
outcome_at n end at cs (word rest) e s h l below =
    let same = same_token (kind_of_bytes (word_bytes cs rest)) (kind_of_word s.0) at end cs s.0 rest s.1 h
    (ap kind_of_bytes (bytes_of_word cs s.0 rest s.1)) in
    subst (λ (t : Token). Outcome end at cs (add t (read n end rest))) (sym same)
    (with_token end at (kind_of_word s.0) cs s.0 rest s.1 (pieces.word s.2) (read n end rest) (below (at + byte_length s.0) rest
    (after_piece at end cs s.0 rest s.1 h) (let k = shorter (suc n) cs s.0 rest s.1 (word_has_character s.0 rest s.2) l in omega arith)))
outcome_at n end at cs (mark k rest) e s h l below =
    let same = same_token (kinds.Mark k) (kinds.Mark k) at end cs s.0 rest s.1 h refl in
    subst (λ (t : Token). Outcome end at cs (add t (read n end rest))) (sym same)
    (with_token end at (kinds.Mark k) cs s.0 rest s.1 (pieces.mark s.2) (read n end rest) (below (at + byte_length s.0) rest
    (after_piece at end cs s.0 rest s.1 h) (let q = shorter (suc n) cs s.0 rest s.1 (mark_has_character k s.0 rest s.2) l in omega arith)))
outcome_at n end at cs bad_character e s h l below =
    rw (here at end cs h) (record { tokens = []; left = cs; before = done; fault = bad_found cs e })
outcome_at n end at cs open_comment e s h l below =
    rw (here at end cs h) (record { tokens = []; left = cs; before = done; fault = open_found cs e })

only_nil : (cs : List ℕ) → length cs ≤ 0 → cs ≡ []
only_nil [] h = refl
only_nil (c ∷ cs) h = absurd (omega arith)

pub outcome : (n end : ℕ) → Below n end
outcome zero end at cs h l =
    let z = only_nil cs l in
    let same : end ≡ at = let k = ap byte_length z in omega arith in
    rw (z, nothing_left 0 end, same) done
outcome (suc n) end at cs h l = rw (step n end cs (front cs) refl) (outcome_at n end at cs (front cs) refl (shown cs) h l (outcome n end))
