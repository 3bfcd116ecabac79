-- The bytes of words.
use Rattle.std.proofs.Common.{◌≡◌, ◌∙◌, ◌∷◌, ◌||◌, ◌==◌, ◌<◌, ℕ, suc, Bool, true, false, not, All, List, [], length, length-append, get_or, nat_le, refl, sym, ap, ⊎_elim, arith}
use Rattle.std.proofs.lemmas.Bool.{eqb-true, le-leb, cases_lt, not-false, or_right}
use Rattle.std.proofs.lemmas.List.Sums.{list_all-from_AllPass}
use Rattle.std.proofs.lemmas.List.{get_or_default}
use Rattle.std.proofs.lemmas.Str.{NoCharPasses-byte, length-encode, len_utf8_bounds}
use lib.Utf8.{encode, encodes}
use Rattle.std.specs.Char.{is_ascii_alphanumeric}
use Rattle.std.specs.Str.{NonePass, NoCharPasses}
use Rattle.unicode_ident.specs.Ident.{is_xid_start, is_xid_continue}
use Rattle.unicode_ident.proofs.IdentLemmas.{is_xid_continue-ascii, is_xid_start-is_xid_continue}
use Rattle.swreq_lex.specs.Characters.{starts_word, continues_word}
use Rattle.swreq_lex.specs.Slices.{IsSpelledWord}
use Rattle.swreq_names.specs.WordBytes.{in_word, HasWordBytes}

-- A byte that may start a word may also stand later in one.
goes_on : (c : ℕ) → starts_word c ≡ true → continues_word c ≡ true
goes_on c s = by (is_xid_start c) refl
  where
    by : (b : Bool) → is_xid_start c ≡ b → continues_word c ≡ true
    by true e = is_xid_start-is_xid_continue c e
    by false e =
        let is : c ≡ 95 = eqb-true c 95 (sym (ap (λ b. b || (c == 95)) e) ∙ s) in
        ap is_xid_continue is ∙ is_xid_continue-ascii 95 (omega arith)

ends_word : ℕ → Bool
ends_word c = not (continues_word c)

none_ends : (cs : List ℕ) → All (λ c. continues_word c ≡ true) cs → NonePass ends_word cs
unfolding ends_word
none_ends [] h = tt
none_ends (c ∷ cs) h = (ap not (h 0 c (omega arith)), none_ends cs (λ k d l. h (suc k) d (omega arith)))

no_end : (bytes : List ℕ) → IsSpelledWord bytes → NoCharPasses ends_word bytes
unfolding ends_word
no_end bytes w = (w.first ∷ w.others, sym w.spelled, (ap not (goes_on w.first w.starts), none_ends w.others w.continues))

-- A byte below 128 is a whole character.
byte_in_word : (bytes : List ℕ) → IsSpelledWord bytes → (k : ℕ) → k < length bytes → in_word (get_or bytes k 0) ≡ true
unfolding ends_word
byte_in_word bytes w k l =
    ⊎_elim
    (λ h. or_right (nat_le 128 b) (is_ascii_alphanumeric b || (b == 95))
    (sym (is_xid_continue-ascii b h) ∙ not-false (continues_word b) (NoCharPasses-byte ends_word bytes k (no_end bytes w) l h)))
    (λ h. ap (λ t. t || (is_ascii_alphanumeric b || (b == 95))) (le-leb 128 b h))
    (cases_lt b 128)
  where
    b : ℕ
    b = get_or bytes k 0

pub word_bytes : (bytes : List ℕ) → IsSpelledWord bytes → HasWordBytes bytes
word_bytes bytes w = record {
  some =
      let n = length-append (encode w.first) (encodes w.others) in
      omega (arith, ap length w.spelled, n, length-encode w.first, (len_utf8_bounds w.first).0);
  each = list_all-from_AllPass in_word bytes (λ k d l. ap in_word (get_or_default bytes k d 0 l) ∙ byte_in_word bytes w k l);
}
