-- The tokens of a text are its slices.
use Rattle.std.proofs.Common.{◌≡◌, ℕ, zero, suc, ◌+◌, ◌-◌, ◌≤◌, ◌<◌, ◌≢◌, Bool, true, false, not, cond, nat_lt, List, [], ◌∷◌, ◌++◌, length, drop, get_or, Option, Some, None, refl, sym, ap, subst, ◌∙◌, arith, position, slice_get, append_assoc}
use Rattle.std.proofs.lemmas.Option.{slice_get-get_or, slice_get_within, get_or_from_slice_get}
use Rattle.std.proofs.lemmas.List.{drop-drop}
use Rattle.std.proofs.lemmas.List.Quantifiers.{position-Some}
use Rattle.std.proofs.lemmas.Bool.{ltb-true, and_parts}
use Rattle.std.proofs.lemmas.Str.{encodes-append, encodes-chars, encode_ascii, length-encode, len_utf8_bounds}
use Rattle.std.proofs.Math.Seq.{take-append_seam, drop-append_seam}
use Rattle.std.specs.Cmp.Lexicographic.{same_text, other_text}
use Rattle.std.specs.List.{slice_range, prefix_len, list_all}
use Rattle.std.specs.Str.{chars, bytes_eq, IsUtf8}
use lib.Utf8.{encodes, encode}
use Rattle.swreq_lex.specs.declared.token.Token.{Token}
use Rattle.swreq_lex.specs.declared.token.TokenKind.{TokenKind}
use Rattle.swreq_lex.specs.declared.token.TokenKind.TheVariants as kinds
use Rattle.swreq_lex.specs.Characters.{byte_length, is_byte_order_mark, continues_line, BeginsWithout}
use Rattle.swreq_lex.specs.Comments as comments
use Rattle.swreq_lex.specs.Words as words
use Rattle.swreq_lex.specs.Words.{reserved, word_kind, kind_of_word, kind_of_bytes}
use Rattle.swreq_lex.specs.Marks.{spellings}
use Rattle.swreq_lex.specs.Tokens as pieces
use Rattle.swreq_lex.specs.Tokens.{IsGap, IsToken, Reads, done, after_byte_order_mark, first_offset, begin_from, characters_from, HasTokens, HasTokensFrom}
use Rattle.swreq_lex.specs.Slices.{OnlyGaps, none, more, IsBetween, IsSpelledWord, IsSpelled, AreSlices, last, next}
use Rattle.std.proofs.lemmas.List.Sums.{prefix_len_passes}
use Rattle.std.proofs.lemmas.Bool.Decides.{nat_tests}
use Rattle.std.specs.Char.{len_utf8}
use Rattle.swreq_lex.proofs.MarkLemmas.{is_ascii_mark}
use Rattle.swreq_lex.proofs.Loop.{byte_length_encodes}
use Rattle.swreq_lex.proofs.PieceLemmas.{test_at}
use Rattle.swreq_lex.proofs.ReadLemmas.{byte_length-append, token_has_character}
use Rattle.swreq_lex.proofs.TextLemmas.{begins}

-- ---- a gap is one without what follows

shorter_rest : (test : ℕ → Bool) (gaps rest : List ℕ) → BeginsWithout test (gaps ++ rest) → BeginsWithout test gaps
shorter_rest test [] rest h = tt
shorter_rest test (c ∷ cs) rest h = h

gap_alone : (piece gaps rest whole : List ℕ) → whole ≡ gaps ++ rest → IsGap piece whole → IsGap piece gaps
gap_alone piece gaps rest whole e (pieces.white_space h) = pieces.white_space h
gap_alone piece gaps rest whole e (pieces.line_comment (comments.line_comment r)) =
    pieces.line_comment (comments.line_comment
    (record { passes = r.passes; ended = shorter_rest continues_line gaps rest (subst (BeginsWithout continues_line) e r.ended) }))
gap_alone piece gaps rest whole e (pieces.comment c) = pieces.comment c

-- ---- the slices of what is left

-- from the offset on the text is these characters
record Left (text : List ℕ) (at : ℕ) (cs : List ℕ) : Type 0 where
  spelled : drop at text ≡ encodes cs
  there : at + byte_length cs ≡ length text

past_piece : (text : List ℕ) (at : ℕ) (cs piece rest : List ℕ) → cs ≡ piece ++ rest → Left text at cs
    → Left text (at + byte_length piece) rest
past_piece text at cs piece rest p l =
    let count = byte_length_encodes piece in
    let parts : drop at text ≡ encodes piece ++ encodes rest = l.spelled ∙ (ap encodes p ∙ encodes-append piece rest) in
    record {
      spelled = sym (drop-drop (byte_length piece) at text) ∙ rw (parts, count) (drop-append_seam (encodes piece) (encodes rest));
      there =
          let k : byte_length cs ≡ byte_length piece + byte_length rest = rw p (byte_length-append piece rest) in omega (arith, l.there);
    }

slice_of : (text : List ℕ) (at : ℕ) (cs piece rest : List ℕ) → cs ≡ piece ++ rest → Left text at cs
    → slice_range text at (at + byte_length piece) ≡ encodes piece
slice_of text at cs piece rest p l =
    let parts : drop at text ≡ encodes piece ++ encodes rest = l.spelled ∙ (ap encodes p ∙ encodes-append piece rest) in
    let count : (at + byte_length piece) - at ≡ length (encodes piece) = omega (arith, byte_length_encodes piece) in
    rw (count, parts) (take-append_seam (encodes piece) (encodes rest))

-- ---- how tokens are spelled

among : (xs : List (List ℕ)) (bytes : List ℕ) (n : ℕ) → position (λ word. bytes_eq word bytes) xs ≡ Some n → slice_get xs n ≡ Some bytes
among xs bytes n e =
    let p = position-Some (λ (word : List ℕ). bytes_eq word bytes) xs n [] e in
    slice_get-get_or xs n [] p.0 ∙ ap (λ (word : List ℕ). Some word) (same_text (get_or xs n []) bytes (sym p.1))

all_other : (count len : ℕ) → cond (nat_lt count len) (Some count) None ≡ None → len ≤ count
all_other count len e = elim (nat_lt count len) as (λ b. nat_lt count len ≡ b → len ≤ count) [
  | true ↦ λ h. absurd (let k : cond (nat_lt count len) (Some count) None ≡ Some count = rw h refl in cc)
  | false ↦ λ h. grind (arith, nat_tests)
] refl

when_not : (b : Bool) → not b ≡ true → false ≡ b
when_not true h = absurd (cc)
when_not false h = refl

none_among : (xs : List (List ℕ)) (bytes : List ℕ) → position (λ word. bytes_eq word bytes) xs ≡ None → (n : ℕ)
    → slice_get xs n ≢ Some bytes
none_among xs bytes e n h =
    let within : n < length xs = slice_get_within xs n bytes h in
    let below = all_other (prefix_len (λ (word : List ℕ). not (bytes_eq word bytes)) xs) (length xs) e in
    let other = prefix_len_passes (λ (word : List ℕ). not (bytes_eq word bytes)) xs n [] (omega (arith, within)) in
    other_text (get_or xs n []) bytes (when_not (bytes_eq (get_or xs n []) bytes) other) (get_or_from_slice_get xs n bytes [] h)

spelled_by : (bytes : List ℕ) → IsSpelledWord bytes → (o : Option ℕ) → position (λ word. bytes_eq word bytes) reserved ≡ o
    → IsSpelled (word_kind o bytes) bytes
spelled_by bytes w (Some n) e = among reserved bytes n e
spelled_by bytes w None e =
    elim (bytes_eq bytes (95 ∷ [])) as (λ b. bytes_eq bytes (95 ∷ []) ≡ b → IsSpelled (cond b kinds.Underscore kinds.Name) bytes) [
      | true ↦ λ h. same_text bytes (95 ∷ []) (sym h)
      | false ↦ λ h. (w, none_among reserved bytes e, other_text bytes (95 ∷ []) (sym h))
    ] refl

each_ascii : list_all is_ascii_mark spellings ≡ true
each_ascii = refl

ascii_encodes : (cs : List ℕ) → is_ascii_mark cs ≡ true → encodes cs ≡ cs
ascii_encodes [] h = refl
ascii_encodes (c ∷ cs) h =
    let parts = and_parts (nat_lt c 128) (is_ascii_mark cs) h in
    rw (encode_ascii c (ltb-true c 128 parts.0)) (ap (λ (ds : List ℕ). c ∷ ds) (ascii_encodes cs parts.1))

is_spelled : (kind : TokenKind) (piece rest : List ℕ) → IsToken kind piece rest → IsSpelled kind (encodes piece)
is_spelled kind piece rest (pieces.word (words.word {c} {cs = cs} s r)) =
    spelled_by (encodes (c ∷ cs)) (record { first = c; others = cs; spelled = refl; starts = s; continues = r.passes })
    (position (λ word. bytes_eq word (encodes (c ∷ cs))) reserved) refl
is_spelled kind piece rest (pieces.mark {n = n} m) = m.spelled
    ∙ ap (λ (bytes : List ℕ). Some bytes) (sym (ascii_encodes piece (test_at is_ascii_mark spellings n piece m.spelled each_ascii)))

some_bytes : (cs : List ℕ) → 0 < length cs → 0 < byte_length cs
some_bytes [] h = absurd (omega arith)
some_bytes (c ∷ cs) h = omega (arith, (len_utf8_bounds c).0)

-- ---- the walk over the text

-- the next token, and that those after it are slices
abbrev After : List ℕ → ℕ → List ℕ → List Token → Type 0
After text at rest [] = rest ≡ []
After text at rest (t ∷ ts) =
    (t.start ≡ at) × (t.start < t.end) × (t.end ≤ length text) × IsSpelled t.kind (slice_range text t.start t.end) × AreSlices text t.end ts

-- what stands before the next token
record Ahead (text : List ℕ) (at : ℕ) (cs : List ℕ) (ts : List Token) : Type 0 where
  gaps : List ℕ
  rest : List ℕ
  split : cs ≡ gaps ++ rest
  only : OnlyGaps gaps
  after : After text (at + byte_length gaps) rest ts

ends_within : (text : List ℕ) (at : ℕ) (cs piece rest : List ℕ) → cs ≡ piece ++ rest → Left text at cs
    → at + byte_length piece ≤ length text
ends_within text at cs piece rest p l =
    let k : byte_length cs ≡ byte_length piece + byte_length rest = rw p (byte_length-append piece rest) in omega (arith, l.there)

between : (text : List ℕ) (at to : ℕ) (cs gaps rest : List ℕ) → cs ≡ gaps ++ rest → OnlyGaps gaps → Left text at cs
    → to ≡ at + byte_length gaps → IsBetween (slice_range text at to)
between text at to cs gaps rest p g l e = record { characters = gaps; spelled = rw e (slice_of text at cs gaps rest p l); gaps = g }

slices : (text : List ℕ) (at : ℕ) (cs : List ℕ) (ts : List Token) → Left text at cs → Ahead text at cs ts → AreSlices text at ts
slices text at cs [] l a =
    let whole : cs ≡ a.gaps ++ [] = a.split ∙ ap (λ (ds : List ℕ). a.gaps ++ ds) a.after in
    let count : byte_length cs ≡ byte_length a.gaps + byte_length [] = ap byte_length whole ∙ byte_length-append a.gaps [] in
    last (omega (arith, l.there)) (between text at (length text) cs a.gaps [] whole a.only l (omega (arith, l.there)))
slices text at cs (t ∷ ts) l a =
    next (omega (arith, a.after.0)) a.after.1 a.after.2
    (between text at t.start cs a.gaps a.rest a.split a.only l a.after.0) a.after.3 a.after.4

ahead : {to at : ℕ} {cs : List ℕ} {ts : List Token} (text : List ℕ) → Reads to [] at cs ts → Left text at cs → Ahead text at cs ts
ahead text done l = record { gaps = []; rest = []; split = refl; only = none; after = refl }
ahead text (pieces.gap {at = at} {cs = cs} {piece = piece} {rest = rest} {ts = ts} p g r) l =
    let a = ahead text r (past_piece text at cs piece rest p l) in
    let count : (at + byte_length piece) + byte_length a.gaps ≡ at + byte_length (piece ++ a.gaps) =
    omega (arith, byte_length-append piece a.gaps) in
    record {
      gaps = piece ++ a.gaps;
      rest = a.rest;
      split = p ∙ (ap (λ (ds : List ℕ). piece ++ ds) a.split ∙ sym (append_assoc piece a.gaps a.rest));
      only = more refl (gap_alone piece a.gaps a.rest rest a.split g) a.only;
      after = subst (λ (k : ℕ). After text k a.rest ts) count a.after;
    }
ahead text (pieces.token {at = at} {cs = cs} {piece = piece} {rest = rest} {kind = kind} {ts = ts} p t r) l =
    let later = past_piece text at cs piece rest p l in
    let some = some_bytes piece (token_has_character kind piece rest t) in
    record {
      gaps = [];
      rest = cs;
      split = refl;
      only = none;
      after = (
        omega arith,
        omega arith,
        ends_within text at cs piece rest p l,
        rw (slice_of text at cs piece rest p l) (is_spelled kind piece rest t),
        slices text (at + byte_length piece) rest ts later (ahead text r later),
      );
    }

after_mark_left : (cs : List ℕ) → drop (first_offset cs) (encodes cs) ≡ encodes (after_byte_order_mark cs)
after_mark_left [] = refl
after_mark_left (c ∷ cs) =
    elim (is_byte_order_mark c) as (λ b. drop (cond b (len_utf8 c) 0) (encode c ++ encodes cs) ≡ encodes (cond b cs (c ∷ cs))) [
      | true ↦ rw (sym (length-encode c)) (drop-append_seam (encode c) (encodes cs))
      | false ↦ refl
    ]

-- what there is to read from an offset on
left_from : (text : List ℕ) (from : ℕ) → from ≤ length text → IsUtf8 (drop from text)
    → Left text (begin_from text from) (characters_from text from)
left_from text from within u = record {
  spelled = elim from as (λ k. IsUtf8 (drop k text) → drop (begin_from text k) text ≡ encodes (characters_from text k)) [
    | zero ↦ λ v. subst (λ (bs : List ℕ). drop (first_offset (chars text)) bs ≡ encodes (after_byte_order_mark (chars text)))
        (encodes-chars text v) (after_mark_left (chars text))
    | suc k ↦ λ v. sym (encodes-chars (drop (suc k) text) v)
  ] u;
  there = begins text from within u;
}

-- the tokens of a text from an offset on are its slices
pub are_slices_from : (text : List ℕ) (from : ℕ) → from ≤ length text → (ts : List Token) → HasTokensFrom text from ts
    → AreSlices text (begin_from text from) ts
are_slices_from text from within ts h =
    let l = left_from text from within h.utf8 in
    slices text (begin_from text from) (characters_from text from) ts l (ahead text h.reads l)

pub are_slices : (text : List ℕ) (ts : List Token) → HasTokens text ts → AreSlices text (first_offset (chars text)) ts
are_slices text = are_slices_from text 0 (omega arith)
