-- Lines of texts that are put together, and of texts that are cut.
use Rattle.std.proofs.Common.{◌≡◌, ◌≢◌, ◌∙◌, refl, sym, ap, subst, ℕ, suc, ◌+◌, ◌-◌, ◌<◌, ◌≤◌, arith, Bool, true, false, cond, eqb, ltb, List, [], ◌∷◌, ◌++◌, inl, inr, length, take, drop, get_or, length-append}
use Rattle.std.specs.Prelude.{◌==◌, Some, None, position, if◌then◌else◌}
use Rattle.std.specs.List.{onto_first, flat_map, position_or_len}
use Rattle.std.proofs.Math.Seq.{drop-cons}
use Rattle.std.proofs.lemmas.Bool.{ne_eqb, eqb-true, eqb-false, ltb-false}
use Rattle.std.proofs.lemmas.Bool.Decides.{eqb_tells}
use Rattle.std.proofs.lemmas.List.{get_or-take, length-take, take-append-drop, take_rest}
use Rattle.std.proofs.lemmas.List.Elements.{All-head, All-tail}
use Rattle.std.proofs.lemmas.List.Quantifiers.{position-Some}
use Rattle.std.proofs.lemmas.List.Sums.{fails_before_first}
use Rattle.swreq_text.specs.Lines.{line_feed, lines, IsOneLine, HasWholeLines, IsCut, IsFirstLine}

-- ---- the lines of a text, byte for byte

lines-other : (c : ℕ) (rest : List ℕ) → c ≢ line_feed → lines (c ∷ rest) ≡ onto_first c (lines rest)
lines-other c rest h = let e : eqb c 10 ≡ false = ne_eqb c 10 h in rw e refl

lines-feed : (c : ℕ) (rest : List ℕ) → c ≡ line_feed → lines (c ∷ rest) ≡ [] ∷ lines rest
lines-feed c rest h = ap (λ z. lines (z ∷ rest)) h

pub onto_first-some : (c : ℕ) (ls : List (List ℕ)) → onto_first c ls ≢ []
onto_first-some c [] = λ e. cc
onto_first-some c (l ∷ ls) = λ e. cc

onto_first-append : (c : ℕ) (ls ms : List (List ℕ)) → ls ≢ [] → onto_first c (ls ++ ms) ≡ onto_first c ls ++ ms
onto_first-append c [] ms h = absurd (h refl)
onto_first-append c (l ∷ ls) ms h = refl

-- a text with a byte has a line
pub lines-some : (c : ℕ) (rest : List ℕ) → lines (c ∷ rest) ≢ []
lines-some c rest =
    elim (eqb_tells c 10) [
      | inl h ↦ λ e. let f : [] ∷ lines rest ≡ [] = sym (lines-feed c rest h.1) ∙ e in cc
      | inr h ↦ λ e. onto_first-some c (lines rest) (sym (lines-other c rest h.1) ∙ e)
    ]

-- a line before its line feed
pub lines-line : (line rest : List ℕ) → IsOneLine line → lines (line ++ (line_feed ∷ rest)) ≡ line ∷ lines rest
lines-line [] rest h = refl
lines-line (c ∷ line) rest h =
    lines-other c (line ++ (line_feed ∷ rest)) (All-head (λ z. z ≢ line_feed) c line h)
    ∙ ap (onto_first c) (lines-line line rest (All-tail (λ z. z ≢ line_feed) c line h))

-- a last line without one
pub lines-last : (line : List ℕ) → IsOneLine line → line ≢ [] → lines line ≡ line ∷ []
lines-last [] h some = absurd (some refl)
lines-last (c ∷ []) h some = lines-other c [] (All-head (λ z. z ≢ line_feed) c [] h)
lines-last (c ∷ d ∷ line) h some =
    lines-other c (d ∷ line) (All-head (λ z. z ≢ line_feed) c (d ∷ line) h)
    ∙ ap (onto_first c) (lines-last (d ∷ line) (All-tail (λ z. z ≢ line_feed) c (d ∷ line) h) (λ e. cc))

length-onto_first : (c : ℕ) (ls : List (List ℕ)) (n : ℕ) → length ls ≤ n → length (onto_first c ls) ≤ suc n
length-onto_first c [] n h = omega arith
length-onto_first c (l ∷ ls) n h = omega (arith, h)

-- there are no more lines than bytes
pub few_lines : (text : List ℕ) → length (lines text) ≤ length text
few_lines [] = omega arith
few_lines (c ∷ rest) = by (c == line_feed) (few_lines rest)
  where
    by : (b : Bool) → length (lines rest) ≤ length rest
        → length (if b then [] ∷ lines rest else onto_first c (lines rest)) ≤ suc (length rest)
    by true l = omega (arith, l)
    by false l = length-onto_first c (lines rest) (length rest) l

-- ---- whole lines

lines-feed_some : (before : List ℕ) → lines (before ++ (line_feed ∷ [])) ≢ []
lines-feed_some [] = λ e. cc
lines-feed_some (c ∷ before) = lines-some c (before ++ (line_feed ∷ []))

lines-feed_append : (before text : List ℕ)
    → lines ((before ++ (line_feed ∷ [])) ++ text) ≡ lines (before ++ (line_feed ∷ [])) ++ lines text
lines-feed_append [] text = refl
lines-feed_append (c ∷ before) text =
    let front = before ++ (line_feed ∷ []) in
    let more = lines-feed_append before text in
    elim (eqb_tells c 10) [
      | inl h ↦ lines-feed c (front ++ text) h.1 ∙ ap (λ z. [] ∷ z) more ∙ sym (ap (λ z. z ++ lines text) (lines-feed c front h.1))
      | inr h ↦ lines-other c (front ++ text) h.1 ∙ ap (onto_first c) more
          ∙ onto_first-append c (lines front) (lines text) (lines-feed_some before)
          ∙ sym (ap (λ z. z ++ lines text) (lines-other c front h.1))
    ]

-- after whole lines the lines of another text follow
pub lines-append : (first text : List ℕ) → HasWholeLines first → lines (first ++ text) ≡ lines first ++ lines text
lines-append first text h =
    elim h [
      | inl e ↦ subst (λ z. lines (z ++ text) ≡ lines z ++ lines text) (sym e) refl
      | inr w ↦ subst (λ z. lines (z ++ text) ≡ lines z ++ lines text) (sym w.1) (lines-feed_append w.0 text)
    ]

-- the text of whole lines
abbrev pub joined : List (List ℕ) → List ℕ
joined ls = flat_map (λ l. l ++ (line_feed ∷ [])) ls

joined-onto_first : (c : ℕ) (ls : List (List ℕ)) → ls ≢ [] → joined (onto_first c ls) ≡ c ∷ joined ls
joined-onto_first c [] h = absurd (h refl)
joined-onto_first c (l ∷ ls) h = refl

joined-feed : (before : List ℕ) → joined (lines (before ++ (line_feed ∷ []))) ≡ before ++ (line_feed ∷ [])
joined-feed [] = refl
joined-feed (c ∷ before) =
    let front = before ++ (line_feed ∷ []) in
    elim (eqb_tells c 10) [
      | inl h ↦ ap joined (lines-feed c front h.1) ∙ ap (λ z. line_feed ∷ z) (joined-feed before) ∙ ap (λ z. z ∷ front) (sym h.1)
      | inr h ↦ ap joined (lines-other c front h.1) ∙ joined-onto_first c (lines front) (lines-feed_some before)
          ∙ ap (λ z. c ∷ z) (joined-feed before)
    ]

-- whole lines are told by their lines
pub joined-lines : (text : List ℕ) → HasWholeLines text → joined (lines text) ≡ text
joined-lines text h =
    elim h [
      | inl e ↦ subst (λ z. joined (lines z) ≡ z) (sym e) refl
      | inr w ↦ subst (λ z. joined (lines z) ≡ z) (sym w.1) (joined-feed w.0)
    ]

-- ---- the first line

pub lines-first : (text line rest : List ℕ) → IsFirstLine text line rest → lines text ≡ line ∷ lines rest
lines-first text line rest h =
    elim h.1.1 [
      | inl e ↦ ap lines e ∙ lines-line line rest h.1.0
      | inr w ↦ ap lines w.0 ∙ lines-last line h.1.0 (λ e. h.0 (w.0 ∙ e)) ∙ sym (ap (λ z. line ∷ lines z) w.1)
    ]

-- less is left after it
pub rest_shorter : (text line rest : List ℕ) → IsFirstLine text line rest → length rest < length text
rest_shorter text line rest h =
    elim h.1.1 [
      | inl e ↦ let l = ap length e ∙ length-append line (line_feed ∷ rest) in omega (arith, l)
      | inr w ↦ let r = ap length w.1 in let s = some_length text h.0 in omega (arith, r, s)
    ]
  where
    some_length : (t : List ℕ) → t ≢ [] → 0 < length t
    some_length [] some = absurd (some refl)
    some_length (c ∷ t) some = omega arith

-- ---- where the first line feed stands

pub cut_nowhere : (text : List ℕ) → None ≡ position (λ c. eqb c line_feed) text → IsCut text text []
cut_nowhere text e =
    by (ltb (position_or_len is text) (length text)) refl e
  where
    is : ℕ → Bool
    is = λ c. eqb c line_feed

    by : (b : Bool) → ltb (position_or_len is text) (length text) ≡ b → None ≡ cond b (Some (position_or_len is text)) None
        → IsCut text text []
    by true l h = absurd cc
    by false l h =
        let all = ltb-false (position_or_len is text) (length text) l in
        (λ k d lt. eqb-false (get_or text k d) line_feed (fails_before_first is text k d (omega arith)), inr (refl, refl))

pub cut_at : (text : List ℕ) (at : ℕ) → Some at ≡ position (λ c. eqb c line_feed) text
    → IsCut text (take at text) (take (length text - (at + 1)) (drop (at + 1) text))
cut_at text at e =
    let found = position-Some (λ c. eqb c line_feed) text at 0 (sym e) in
    let here : get_or text at 0 ≡ line_feed = eqb-true (get_or text at 0) line_feed found.1 in
    let one : suc at ≡ at + 1 = omega arith in
    let split : text ≡ take at text ++ (line_feed ∷ drop (at + 1) text) =
    sym (take-append-drop at text) ∙ ap (λ z. take at text ++ z) (drop-cons text at 0 found.0
    ∙ ap (λ z. z ∷ drop (suc at) text) here ∙ ap (λ (n : ℕ). line_feed ∷ drop n text) one) in (
      before,
      inl (split ∙ ap (λ z. take at text ++ (line_feed ∷ z)) (sym (take_rest text (at + 1)))),
    )
  where
    before : IsOneLine (take at text)
    before k d l =
        let most = length-take at text in
        let below : k < at = omega arith in
        let found = position-Some (λ c. eqb c line_feed) text at d (sym e) in
        rw get_or-take (eqb-false (get_or text k d) line_feed (found.2 k below))
