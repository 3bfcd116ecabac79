-- The test of the form, one word after another.
use Rattle.std.proofs.Common.{◌≡◌, ◌∙◌, ◌+◌, ℕ, false, List, [], ◌∷◌, Option, Some, None, map, drop, length, get_or, ◌<◌, ◌≤◌, refl, sym, ap}
use Rattle.std.proofs.lemmas.List.{drop_more, drop_all}
use Rattle.std.specs.Option.{option_map_or}
use Rattle.std.specs.Prelude.{option_and_then}
use Rattle.swreq_words.specs.declared.command.Follows.{Follows}
use Rattle.swreq_words.specs.declared.seen.Seen.{Seen}
use Rattle.swreq_words.specs.Form.{Text}
use Rattle.swreq_words.specs.Reading.{read_on, with_next, is_done, are_parts, nothing_seen}

pub read_none : (may : Follows) (seen : Seen) → read_on may seen [] ≡ Some seen
unfolding read_on
read_none may seen = refl

pub read_more : (may : Follows) (seen : Seen) (word : Text) (words : List Text)
    → read_on may seen (word ∷ words) ≡ option_and_then (λ next. read_on may next words) (with_next may seen word)
unfolding read_on
read_more may seen word words = refl

cut : {S : Type 0} → (word : S) (words : List S) (i : ℕ) → i < length words → word ≡ get_or words i word
    → drop i words ≡ word ∷ drop (i + 1) words
cut word words i within there = drop_more words i word within ∙ ap (λ w. w ∷ drop (i + 1) words) (sym there)

read_word : {S : Type 0} → (bytes : S → Text) (may : Follows) (seen : Seen) (answer : Option Seen) (word : S) (words : List S) (i : ℕ)
    → drop i words ≡ word ∷ drop (i + 1) words → answer ≡ with_next may seen (bytes word)
    → read_on may seen (map bytes (drop i words)) ≡ option_and_then (λ next. read_on may next (map bytes (drop (i + 1) words))) answer
read_word bytes may seen answer word words i cut is =
    ap (λ ws. read_on may seen (map bytes ws)) cut ∙ read_more may seen (bytes word) (map bytes (drop (i + 1) words))
    ∙ ap (option_and_then (λ next. read_on may next (map bytes (drop (i + 1) words)))) (sym is)

-- if a word may not stand there, the words do not have the form
pub refused : {S : Type 0} → (bytes : S → Text) (may : Follows) (seen : Seen) (answer : Option Seen) (word : S) (words : List S) (i : ℕ)
    → read_on may seen (map bytes (drop i words)) ≡ read_on may nothing_seen (map bytes words)
    → i < length words → word ≡ get_or words i word → answer ≡ with_next may seen (bytes word) → answer ≡ None
    → false ≡ are_parts may (map bytes words)
refused bytes may seen answer word words i so_far within there is none =
    ap (λ o. option_map_or (is_done may) o false)
    (sym (ap (option_and_then (λ next. read_on may next (map bytes (drop (i + 1) words)))) none)
    ∙ sym (read_word bytes may seen answer word words i (cut word words i within there) is) ∙ so_far)

pub goes_on : {S : Type 0}
    → (bytes : S → Text) (may : Follows) (seen next : Seen) (answer : Option Seen) (word : S) (words : List S) (i : ℕ)
    → read_on may seen (map bytes (drop i words)) ≡ read_on may nothing_seen (map bytes words)
    → i < length words → word ≡ get_or words i word → answer ≡ with_next may seen (bytes word) → answer ≡ Some next
    → read_on may next (map bytes (drop (i + 1) words)) ≡ read_on may nothing_seen (map bytes words)
goes_on bytes may seen next answer word words i so_far within there is some =
    sym (ap (option_and_then (λ next. read_on may next (map bytes (drop (i + 1) words)))) some)
    ∙ sym (read_word bytes may seen answer word words i (cut word words i within there) is) ∙ so_far

pub ended : {S : Type 0} → (bytes : S → Text) (may : Follows) (seen : Seen) (words : List S) (i : ℕ)
    → read_on may seen (map bytes (drop i words)) ≡ read_on may nothing_seen (map bytes words)
    → length words ≤ i → is_done may seen ≡ are_parts may (map bytes words)
ended bytes may seen words i so_far all =
    ap (λ o. option_map_or (is_done may) o false)
    (sym (read_none may seen) ∙ ap (λ ws. read_on may seen (map bytes ws)) (sym (drop_all i words all)) ∙ so_far)
