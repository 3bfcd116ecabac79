-- Marks at the front of a text, by its bytes and by its characters.
use Rattle.std.proofs.Common.{◌≡◌, ℕ, zero, suc, ◌≤◌, ◌<◌, Bool, true, false, ◌&&◌, List, [], ◌∷◌, ◌++◌, length, drop, get_or, Some, refl, sym, ap, subst, ◌∙◌, arith, nat_eq, nat_lt, position, Bor, unwrap_or, slice_get}
use Rattle.std.proofs.lemmas.Bool.{ltb-true, eqb-true, and_parts}
use Rattle.std.proofs.lemmas.Bool.Decides.{nat_tests}
use Rattle.std.proofs.lemmas.Str.{encodes-chars, encode_ascii, IsCharBoundary-start, char_from_byte, IsUtf8-past_char, chars_past_char}
use Rattle.std.proofs.lemmas.List.Quantifiers.{position-Some}
use Rattle.std.specs.Str.{chars, IsUtf8, IsCharBoundary}
use Rattle.std.specs.List.{starts_with, list_all, position_or_len}
use lib.Utf8.{encodes, encode}
use Rattle.swreq_lex.specs.Reader.{texts, first_at, are_ascii}

abbrev pub is_ascii_mark : List ℕ → Bool
is_ascii_mark mark = list_all (λ c. nat_lt c 128) mark

apart : (a b : ℕ) → a < 128 → 128 ≤ b → nat_eq a b ≡ false
apart a b h k = grind (arith, nat_tests)

-- the first byte of a character beyond ASCII is not a byte of a mark
long : (c b : ℕ) (bs rest : List ℕ) → 128 ≤ c → b ∷ bs ≡ encode c ++ rest → 128 ≤ b
long c b bs rest h e = elim (nat_lt b 128) as (λ t. nat_lt b 128 ≡ t → 128 ≤ b) [
  | true ↦ λ k. let small : b < 128 = ltb-true b 128 k in
      let same : c ≡ b = char_from_byte (b ∷ bs) rest c e small (omega arith) in absurd (omega arith)
  | false ↦ λ k. grind (arith, nat_tests)
] refl

pub starts-bytes : (mark cs : List ℕ) → is_ascii_mark mark ≡ true → starts_with nat_eq (encodes cs) mark ≡ starts_with nat_eq cs mark
starts-bytes [] cs h = refl
starts-bytes (m ∷ ms) [] h = refl
starts-bytes (m ∷ ms) (c ∷ cs) h =
    let parts = and_parts (nat_lt m 128) (is_ascii_mark ms) h in
    let small : m < 128 = ltb-true m 128 parts.0 in
    elim (nat_lt c 128)
    as (λ t. nat_lt c 128 ≡ t → starts_with nat_eq (encode c ++ encodes cs) (m ∷ ms) ≡ (nat_eq m c && starts_with nat_eq cs ms)) [
      | true ↦ λ k. rw (encode_ascii c (ltb-true c 128 k)) (ap (λ b. nat_eq m c && b) (starts-bytes ms cs parts.1))
      | false ↦ λ k. beyond (encode c ++ encodes cs) refl (grind (arith, nat_tests)) small
    ] refl
  where
    beyond : (bs : List ℕ) → bs ≡ encode c ++ encodes cs → 128 ≤ c → m < 128
        → starts_with nat_eq bs (m ∷ ms) ≡ (nat_eq m c && starts_with nat_eq cs ms)
    beyond [] e k s = rw (apart m c s k) refl
    beyond (b ∷ bs) e k s = rw (apart m c s k, apart m b s (long c b bs (encodes cs) k e)) refl

abbrev place_in : {X : Type 0} → (X → Bool) → List X → ℕ
place_in p xs = position_or_len p xs

places : (marks : List (Bor (List ℕ))) (cs : List ℕ) → are_ascii (texts marks) ≡ true
    → place_in (λ mark. starts_with nat_eq (encodes cs) mark.now) marks ≡ place_in (λ mark. starts_with nat_eq cs mark) (texts marks)
places [] cs h = refl
places (m ∷ ms) cs h =
    let parts = and_parts (is_ascii_mark m.now) (are_ascii (texts ms)) h in
    rw (starts-bytes m.now cs parts.0, places ms cs parts.1) refl

lengths : (marks : List (Bor (List ℕ))) → length (texts marks) ≡ length marks
lengths [] = refl
lengths (m ∷ ms) = ap suc (lengths ms)

-- the first mark is found alike by bytes and by characters
pub first-bytes : (marks : List (Bor (List ℕ))) (cs : List ℕ) → are_ascii (texts marks) ≡ true
    → position (λ mark. starts_with nat_eq (encodes cs) mark.now) marks ≡ first_at (texts marks) cs
first-bytes marks cs h = rw (places marks cs h, lengths marks) refl

pub first-text : (marks : List (Bor (List ℕ))) (bs : List ℕ) → are_ascii (texts marks) ≡ true → IsUtf8 bs
    → position (λ mark. starts_with nat_eq bs mark.now) marks ≡ first_at (texts marks) (chars bs)
first-text marks bs a u = subst (λ (ds : List ℕ). position (λ (mark : Bor (List ℕ)). starts_with nat_eq ds mark.now) marks
    ≡ first_at (texts marks) (chars bs)) (encodes-chars bs u) (first-bytes marks (chars bs) a)

-- ---- the mark that is found

text_at : (marks : List (Bor (List ℕ))) (n : ℕ) (d : Bor (List ℕ)) → n < length marks
    → unwrap_or (slice_get (texts marks) n) [] ≡ (get_or marks n d).now
text_at [] n d h = absurd (omega arith)
text_at (m ∷ ms) zero d h = refl
text_at (m ∷ ms) (suc n) d h = text_at ms n d (omega arith)

ascii_at : (marks : List (Bor (List ℕ))) (n : ℕ) (d : Bor (List ℕ)) → n < length marks → are_ascii (texts marks) ≡ true
    → is_ascii_mark (get_or marks n d).now ≡ true
ascii_at [] n d k h = absurd (omega arith)
ascii_at (m ∷ ms) zero d k h = (and_parts (is_ascii_mark m.now) (are_ascii (texts ms)) h).0
ascii_at (m ∷ ms) (suc n) d k h = ascii_at ms n d (omega arith) (and_parts (is_ascii_mark m.now) (are_ascii (texts ms)) h).1

-- what begins with a mark is the mark and the rest
pub starts-split : (mark cs : List ℕ) → starts_with nat_eq cs mark ≡ true → cs ≡ mark ++ drop (length mark) cs
starts-split [] cs h = refl
starts-split (m ∷ ms) [] h = absurd (cc)
starts-split (m ∷ ms) (c ∷ cs) h =
    let parts = and_parts (nat_eq m c) (starts_with nat_eq cs ms) h in
    rw (← eqb-true m c parts.0) (ap (λ (ds : List ℕ). m ∷ ds) (starts-split ms cs parts.1))

-- a text that begins with a mark may be cut after it
pub cut : (mark bs : List ℕ) → is_ascii_mark mark ≡ true → IsUtf8 bs → starts_with nat_eq bs mark ≡ true
    → IsCharBoundary bs (length mark) × (chars (drop (length mark) bs) ≡ drop (length mark) (chars bs))
cut [] bs a u h = (IsCharBoundary-start bs u, refl)
cut (m ∷ ms) [] a u h = absurd (cc)
cut (m ∷ ms) (b ∷ bs) a u h =
    let ascii = and_parts (nat_lt m 128) (is_ascii_mark ms) a in
    let parts = and_parts (nat_eq m b) (starts_with nat_eq bs ms) h in
    let same : b ≡ m = sym (eqb-true m b parts.0) in
    let e : b ∷ bs ≡ encode m ++ bs = rw (encode_ascii m (ltb-true m 128 ascii.0), same) refl in
    let later = cut ms bs ascii.1 (IsUtf8-past_char (b ∷ bs) bs m u e) parts.1 in (
      (omega (arith, later.0.0), λ p q. later.0.1 (omega arith) q),
      later.1 ∙ ap (λ (cs : List ℕ). drop (suc (length ms)) cs) (sym (chars_past_char (b ∷ bs) bs m u e)),
    )

-- the mark at the place that is found
pub found : (marks : List (Bor (List ℕ))) (bs : List ℕ) (n : ℕ) (d : Bor (List ℕ)) → are_ascii (texts marks) ≡ true → IsUtf8 bs
    → position (λ mark. starts_with nat_eq bs mark.now) marks ≡ Some n → IsCharBoundary bs (length (get_or marks n d).now)
    × (chars (drop (length (get_or marks n d).now) bs) ≡ drop (length (unwrap_or (slice_get (texts marks) n) [])) (chars bs))
    × (first_at (texts marks) (chars bs) ≡ Some n)
found marks bs n d a u h =
    let here = position-Some (λ (mark : Bor (List ℕ)). starts_with nat_eq bs mark.now) marks n d h in
    let c = cut (get_or marks n d).now bs (ascii_at marks n d here.0 a) u here.1 in
    (c.0, rw (text_at marks n d here.0) c.1, sym (first-text marks bs a u) ∙ h)
