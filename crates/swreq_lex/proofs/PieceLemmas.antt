-- What is found at the front of the characters is what stands there.
use Rattle.std.proofs.Common.{◌≡◌, ℕ, zero, suc, ◌<◌, Bool, true, false, not, ◌||◌, ◌&&◌, ◌⊎◌, inl, inr, cond, List, [], ◌∷◌, ◌++◌, length, drop, get_or, Option, Some, None, refl, sym, ap, subst, ◌∙◌, arith, nat_eq, nat_lt, unwrap_or, slice_get, ◌≢◌}
use Rattle.std.proofs.Math.Seq.{drop-append_seam}
use Rattle.std.proofs.lemmas.Option.{slice_get-get_or}
use Rattle.std.proofs.lemmas.Bool.{eqb-true, ltb-true, and_parts}
use Rattle.std.proofs.lemmas.Bool.Decides.{nat_tests}
use Rattle.std.proofs.lemmas.List.Elements.{All-cons, All-head, All-tail}
use Rattle.std.proofs.lemmas.List.Quantifiers.{position-Some}
use Rattle.std.specs.List.{starts_with, list_all}
use Rattle.std.specs.Char.{is_ascii_alphabetic}
use Rattle.unicode_ident.proofs.IdentLemmas.{is_xid_start-ascii}
use Rattle.swreq_lex.specs.declared.token.TokenKind.{TokenKind}
use Rattle.swreq_lex.specs.Characters.{is_white_space, continues_line, starts_word, continues_word, IsLongestRun}
use Rattle.swreq_lex.specs.Comments as comments
use Rattle.swreq_lex.specs.Words as words
use Rattle.swreq_lex.specs.Marks.{IsMark, spellings}
use Rattle.swreq_lex.specs.Tokens as pieces
use Rattle.swreq_lex.specs.Tokens.{IsGap, IsToken}
use Rattle.swreq_lex.specs.Refusals.{IsBadCharacter, IsOpenComment}
use Rattle.swreq_lex.specs.Reader.{past, past_comment, Front, nothing, gap, word, mark, bad_character, open_comment, after_comment, after_slash, at_mark, forgotten, front, mark_at}
use Rattle.swreq_lex.proofs.MarkLemmas.{starts-split}
use Rattle.swreq_lex.proofs.LongestMark.{longest_is_first, first_is_longest}
use Rattle.swreq_lex.proofs.CommentLemmas.{passes, comment_passed}

-- ---- runs

past_run : (test : ℕ → Bool) (run rest : List ℕ) → IsLongestRun test run rest → past test (run ++ rest) ≡ rest
unfolding past
past_run test [] [] r = refl
past_run test [] (c ∷ cs) r = rw r.ended refl
past_run test (d ∷ ds) rest r =
    rw (All-head (λ c. test c ≡ true) d ds r.passes)
    (past_run test ds rest (record { passes = All-tail (λ c. test c ≡ true) d ds r.passes; ended = r.ended }))

-- the run before what is left
pub record Run (test : ℕ → Bool) (cs : List ℕ) : Type 0 where
  pub run : List ℕ
  pub is : cs ≡ run ++ past test cs
  pub longest : IsLongestRun test run (past test cs)

run_of : (test : ℕ → Bool) (cs : List ℕ) → Run test cs
unfolding past
run_of test [] = record { run = []; is = refl; longest = record { passes = λ k d h. absurd (omega arith); ended = tt } }
run_of test (c ∷ cs) = elim (test c) as (λ t. test c ≡ t → Run test (c ∷ cs)) [
  | true ↦ λ h.
      let later = run_of test cs in
      let left : past test (c ∷ cs) ≡ past test cs = rw h refl in
      record {
        run = c ∷ later.run;
        is = rw left (ap (λ (ds : List ℕ). c ∷ ds) later.is);
        longest =
            rw left (record { passes = All-cons (λ d. test d ≡ true) c later.run h later.longest.passes; ended = later.longest.ended });
      }
  | false ↦ λ h.
      let left : past test (c ∷ cs) ≡ c ∷ cs = rw h refl in
      record { run = []; is = sym left; longest = rw left (record { passes = λ k d p. absurd (omega arith); ended = h }) }
] refl

-- ---- what the first character tells

white_is_no_word : (c : ℕ) → is_white_space c ≡ true → starts_word c ≡ false
white_is_no_word c h =
    let small : c < 33 = grind (arith, nat_tests) in
    let letter : is_ascii_alphabetic c ≡ false = grind (arith, nat_tests) in
    let line : nat_eq c 95 ≡ false = grind (arith, nat_tests) in
    rw (is_xid_start-ascii c (omega arith), letter, line) refl

slash_is_no_word : starts_word 47 ≡ false
slash_is_no_word = rw (is_xid_start-ascii 47 (omega arith)) refl

-- a mark begins with an ASCII character that is not white space, does not begin a word and is not a slash
abbrev begins_mark : List ℕ → Bool
begins_mark [] = false
begins_mark (c ∷ cs) = nat_lt c 128 && (not (is_white_space c) && (not (is_ascii_alphabetic c || nat_eq c 95) && not (nat_eq c 47)))

each_begins_mark : list_all begins_mark spellings ≡ true
each_begins_mark = refl

pub test_at : (test : List ℕ → Bool) (xs : List (List ℕ)) (n : ℕ) (x : List ℕ) → slice_get xs n ≡ Some x
    → list_all test xs ≡ true → test x ≡ true
test_at test [] n x e h = absurd (cc)
test_at test (y ∷ ys) zero x e h = let same : y ≡ x = cc in rw (← same) (and_parts (test y) (list_all test ys) h).0
test_at test (y ∷ ys) (suc n) x e h = test_at test ys n x e (and_parts (test y) (list_all test ys) h).1

when_not : (b : Bool) → not b ≡ true → b ≡ false
when_not true h = absurd (cc)
when_not false h = refl

record HeadOfMark (c : ℕ) : Type 0 where
  not_white : is_white_space c ≡ false
  not_word : starts_word c ≡ false
  not_slash : nat_eq c 47 ≡ false

head_of_mark : (c : ℕ) (cs : List ℕ) → begins_mark (c ∷ cs) ≡ true → HeadOfMark c
head_of_mark c cs h =
    let first = and_parts (nat_lt c 128) (not (is_white_space c) && (not (is_ascii_alphabetic c || nat_eq c 95) && not (nat_eq c 47))) h in
    let second = and_parts (not (is_white_space c)) (not (is_ascii_alphabetic c || nat_eq c 95) && not (nat_eq c 47)) first.1 in
    let third = and_parts (not (is_ascii_alphabetic c || nat_eq c 95)) (not (nat_eq c 47)) second.1 in
    record {
      not_white = when_not (is_white_space c) second.0;
      not_word = rw (is_xid_start-ascii c (ltb-true c 128 first.0)) (when_not (is_ascii_alphabetic c || nat_eq c 95) third.0);
      not_slash = when_not (nat_eq c 47) third.1;
    }

-- ---- what stands at the front is found

front_nil : front [] ≡ nothing
unfolding front
front_nil = refl

front_white : (c : ℕ) (cs : List ℕ) → is_white_space c ≡ true → front (c ∷ cs) ≡ gap cs
unfolding front
front_white c cs h = rw h refl

front_slash : (cs : List ℕ) → front (47 ∷ cs) ≡ after_slash cs
unfolding front
front_slash cs = rw slash_is_no_word refl

front_line : (line rest : List ℕ) → IsLongestRun continues_line line rest → front (47 ∷ 47 ∷ (line ++ rest)) ≡ gap rest
unfolding after_slash
front_line line rest r = front_slash (47 ∷ (line ++ rest)) ∙ ap (λ (cs : List ℕ). gap cs) (past_run continues_line line rest r)

front_comment : (cs : List ℕ) → front (47 ∷ 42 ∷ cs) ≡ after_comment (past_comment 0 forgotten cs)
unfolding after_slash
front_comment cs = front_slash (42 ∷ cs)

front_word : (c : ℕ) (cs rest : List ℕ) → starts_word c ≡ true → IsLongestRun continues_word cs rest → front (c ∷ (cs ++ rest)) ≡ word rest
unfolding front
front_word c cs rest s r =
    let white : is_white_space c ≡ false = elim (is_white_space c)
    as (λ b. is_white_space c ≡ b → b ≡ false) [ true ↦ λ h. absurd (let k = white_is_no_word c h in cc) | false ↦ λ h. refl ] refl in
    rw (white, s) (ap (λ (ds : List ℕ). word ds) (past_run continues_word cs rest r))

front_other : (c : ℕ) (cs : List ℕ) → is_white_space c ≡ false → starts_word c ≡ false → nat_eq c 47 ≡ false
    → front (c ∷ cs) ≡ at_mark (mark_at (c ∷ cs)) (c ∷ cs)
unfolding front
front_other c cs w s k = rw (w, s, k) refl

pub front_gap : (cs piece rest : List ℕ) → cs ≡ piece ++ rest → IsGap piece rest → front cs ≡ gap rest
front_gap cs piece rest e (pieces.white_space {c} h) = rw e (front_white c rest h)
front_gap cs piece rest e (pieces.line_comment (comments.line_comment {line} r)) = rw e (front_line line rest r)
front_gap cs piece rest e (pieces.comment (comments.comment {inside} i)) =
    rw e (front_comment (inside ++ rest) ∙ ap after_comment (passes i 0 rest))

pub front_of_word : (cs piece rest : List ℕ) → cs ≡ piece ++ rest → words.IsWord piece rest → front cs ≡ word rest
front_of_word cs piece rest e (words.word {c} {cs = ds} s r) = rw e (front_word c ds rest s r)

pub front_of_mark : (n : ℕ) (cs piece rest : List ℕ) → cs ≡ piece ++ rest → IsMark n piece rest → front cs ≡ mark n rest
front_of_mark n cs [] rest e m = absurd (let k = test_at begins_mark spellings n [] m.spelled each_begins_mark in cc)
front_of_mark n cs (c ∷ ds) rest e m =
    let h = head_of_mark c ds (test_at begins_mark spellings n (c ∷ ds) m.spelled each_begins_mark) in
    let found = front_other c (ds ++ rest) h.not_white h.not_word h.not_slash
    ∙ ap (λ (o : Option ℕ). at_mark o (c ∷ (ds ++ rest))) (longest_is_first n (c ∷ ds) rest m) in
    let spelled : unwrap_or (slice_get spellings n) [] ≡ c ∷ ds = ap (λ (o : Option (List ℕ)). unwrap_or o []) m.spelled in
    rw e (found
    ∙ ap (λ (ds : List ℕ). mark n ds) (ap (λ (m : List ℕ). drop (length m) (c ∷ (ds ++ rest))) spelled ∙ drop-append_seam (c ∷ ds) rest))

pub mark_has_character : (n : ℕ) (piece rest : List ℕ) → IsMark n piece rest → 0 < length piece
mark_has_character n [] rest m = absurd (let k = test_at begins_mark spellings n [] m.spelled each_begins_mark in cc)
mark_has_character n (c ∷ cs) rest m = omega arith

-- ---- what is found stands at the front

abbrev pub Shown : List ℕ → Front → Type 0
Shown cs nothing = cs ≡ []
Shown cs (gap rest) = (piece : List ℕ) × (cs ≡ piece ++ rest) × IsGap piece rest
Shown cs (word rest) = (piece : List ℕ) × (cs ≡ piece ++ rest) × words.IsWord piece rest
Shown cs (mark n rest) = (piece : List ℕ) × (cs ≡ piece ++ rest) × IsMark n piece rest
Shown cs bad_character = cs ≢ []
Shown cs open_comment = (inside : List ℕ) × (cs ≡ 47 ∷ 42 ∷ inside) × (past_comment 0 forgotten inside ≡ None)

shown_if : (cs : List ℕ) (b : Bool) (f g : Front) → (b ≡ true → Shown cs f) → (b ≡ false → Shown cs g) → Shown cs (cond b f g)
shown_if cs true f g p q = p refl
shown_if cs false f g p q = q refl

shown_comment : (cs : List ℕ) (o : Option (List ℕ)) → past_comment 0 forgotten cs ≡ o → Shown (47 ∷ 42 ∷ cs) (after_comment o)
shown_comment cs None e = (cs, refl, e)
shown_comment cs (Some rest) e =
    let c = comment_passed cs rest e in
    (47 ∷ 42 ∷ c.0, ap (λ (ds : List ℕ). 47 ∷ 42 ∷ ds) c.2, pieces.comment (comments.comment c.1))

shown_slash : (cs : List ℕ) → Shown (47 ∷ cs) (after_slash cs)
unfolding after_slash
shown_slash [] = λ e. cc
shown_slash (c ∷ cs) =
    shown_if (47 ∷ c ∷ cs) (nat_eq c 47) (gap (past continues_line cs)) _
    (λ h. let r = run_of continues_line cs in
    rw (eqb-true c 47 h) (47 ∷ 47 ∷ r.run, ap (λ (ds : List ℕ). 47 ∷ 47 ∷ ds) r.is, pieces.line_comment (comments.line_comment r.longest)))
    (λ k. shown_if (47 ∷ c ∷ cs) (nat_eq c 42) (after_comment (past_comment 0 forgotten cs)) bad_character
    (λ h. rw (eqb-true c 42 h) (shown_comment cs (past_comment 0 forgotten cs) refl))
    (λ h e. cc))

shown_mark : (c : ℕ) (cs : List ℕ) (o : Option ℕ) → mark_at (c ∷ cs) ≡ o → Shown (c ∷ cs) (at_mark o (c ∷ cs))
shown_mark c cs None e = λ h. cc
shown_mark c cs (Some n) e =
    let p = position-Some (λ (m : List ℕ). starts_with nat_eq (c ∷ cs) m) spellings n [] e in
    let spelled : slice_get spellings n ≡ Some (get_or spellings n []) = slice_get-get_or spellings n [] p.0 in
    let split : c ∷ cs ≡ get_or spellings n [] ++ drop (length (get_or spellings n [])) (c ∷ cs) =
    starts-split (get_or spellings n []) (c ∷ cs) p.1 in
    let same : unwrap_or (slice_get spellings n) [] ≡ get_or spellings n [] = ap (λ (o : Option (List ℕ)). unwrap_or o []) spelled in
    subst (λ (m : List ℕ). Shown (c ∷ cs) (mark n (drop (length m) (c ∷ cs)))) (sym same) (
      get_or spellings n [],
      split,
      first_is_longest n (get_or spellings n []) (drop (length (get_or spellings n [])) (c ∷ cs)) spelled
          (subst (λ (ds : List ℕ). mark_at ds ≡ Some n) split e),
    )

pub shown : (cs : List ℕ) → Shown cs (front cs)
unfolding front
shown [] = refl
shown (c ∷ cs) =
    shown_if (c ∷ cs) (is_white_space c) (gap cs) _ (λ h. (c ∷ [], refl, pieces.white_space h))
    (λ a. shown_if (c ∷ cs) (starts_word c) (word (past continues_word cs)) _
    (λ h. let r = run_of continues_word cs in (c ∷ r.run, ap (λ (ds : List ℕ). c ∷ ds) r.is, words.word h r.longest))
    (λ b. shown_if (c ∷ cs) (nat_eq c 47) (after_slash cs) (at_mark (mark_at (c ∷ cs)) (c ∷ cs))
    (λ h. rw (eqb-true c 47 h) (shown_slash cs))
    (λ h. shown_mark c cs (mark_at (c ∷ cs)) refl)))

-- ---- faults

no_token_at : (cs : List ℕ) (f : Front) → front cs ≡ f → (kind : TokenKind) (piece rest : List ℕ) → cs ≡ piece ++ rest
    → IsToken kind piece rest → (f ≡ word rest) ⊎ ((n : ℕ) × (f ≡ mark n rest))
no_token_at cs f e kind piece rest p (pieces.word w) = inl (sym e ∙ front_of_word cs piece rest p w)
no_token_at cs f e kind piece rest p (pieces.mark {n} m) = inr (n, sym e ∙ front_of_mark n cs piece rest p m)

neither : (rest : List ℕ) → (bad_character ≡ word rest) ⊎ ((n : ℕ) × (bad_character ≡ mark n rest)) → ⊥
neither rest (inl e) = cc
neither rest (inr e) = let k = e.1 in cc

pub bad_found : (cs : List ℕ) → front cs ≡ bad_character → IsBadCharacter cs
bad_found cs e = record {
  some = λ h. let k : front cs ≡ nothing = rw h front_nil in cc;
  no_gap = λ piece rest p g. let k = front_gap cs piece rest p g in cc;
  no_token = λ kind piece rest p t. neither rest (no_token_at cs bad_character e kind piece rest p t);
  no_opening = λ inside p. go (past_comment 0 forgotten inside) (sym e ∙ (ap front p ∙ front_comment inside));
}
  where
    go : (o : Option (List ℕ)) → bad_character ≡ after_comment o → ⊥
    go (Some rest) k = cc
    go None k = cc

pub open_found : (cs : List ℕ) → front cs ≡ open_comment → IsOpenComment cs
open_found cs e =
    let s : Shown cs open_comment = subst (Shown cs) e (shown cs) in
    record {
      inside = s.0;
      opened = s.1;
      never_closed = λ piece rest p c. let k = front_gap cs piece rest p (pieces.comment c) in cc;
    }

pub front_bad : (cs : List ℕ) → IsBadCharacter cs → front cs ≡ bad_character
front_bad cs b = go (front cs) (shown cs)
  where
    go : (f : Front) → Shown cs f → f ≡ bad_character
    go nothing s = absurd (b.some s)
    go (gap rest) s = absurd (b.no_gap s.0 rest s.1 s.2)
    go (word rest) s = absurd (b.no_token _ s.0 rest s.1 (pieces.word s.2))
    go (mark n rest) s = absurd (b.no_token _ s.0 rest s.1 (pieces.mark s.2))
    go bad_character s = refl
    go open_comment s = absurd (b.no_opening s.0 s.1)

pub front_open : (cs : List ℕ) → IsOpenComment cs → front cs ≡ open_comment
front_open cs b = ap front b.opened ∙ (front_comment b.inside ∙ go (past_comment 0 forgotten b.inside) refl)
  where
    go : (o : Option (List ℕ)) → past_comment 0 forgotten b.inside ≡ o → after_comment o ≡ open_comment
    go None e = refl
    go (Some rest) e =
        let c = comment_passed b.inside rest e in
        absurd (b.never_closed (47 ∷ 42 ∷ c.0) rest (b.opened ∙ ap (λ (ds : List ℕ). 47 ∷ 42 ∷ ds) c.2) (comments.comment c.1))
