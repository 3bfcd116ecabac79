-- The words of parts pass the test.
use Rattle.std.proofs.Common.{ap, refl, sym, subst, codes, true, false, Bool, not, ◌==◌, ◌&&◌, ◌||◌, ◌≤◌, if◌then◌else◌, option_and_then, true≢false, nat_le, List, Some, None, [], ◌∷◌, ◌++◌, ◌≡◌, ◌∙◌, ℕ, arith}
use Rattle.std.specs.Char.{is_ascii_digit}
use Rattle.std.specs.Str.{bytes_eq}
use Rattle.std.specs.Str.Parse.{digits_value}
use Rattle.std.specs.List.{list_all, list_any, flat_map}
use Rattle.std.proofs.lemmas.Bool.{and_parts, not-true}
use Rattle.std.proofs.Math.Bool.{or-false}
use Rattle.swreq_words.specs.declared.command.Follows.{Follows}
use Rattle.swreq_words.specs.declared.command.Follows.TheVariants.{Nothing, Options, OptionsAndNumber}
use Rattle.swreq_words.specs.declared.limits.Limit.{Limit}
use Rattle.swreq_words.specs.declared.limits.Limit.TheVariants.{MaxRules, MaxLength}
use Rattle.swreq_words.specs.declared.seen.Seen.{Seen}
use Rattle.swreq_words.specs.Numbers.{are_few_digits, number_of, is_number}
use Rattle.swreq_words.specs.Form.{Text, Part, apart, joined, trace, number, limit_name, greatest, greatest_count, option_word, words_of, may_follow, is_in_range, sets, is_each_once, is_set}
use Rattle.swreq_words.specs.Reading.{after, other, meaning_of, if_new, with_limit, with_meaning, with_word, with_next, read_on}
use Rattle.swreq_words.proofs.Digits.{few}
use Rattle.swreq_words.proofs.Steps.{read_none, read_more}
use Rattle.swreq_words.proofs.Told.{Holds}
use Rattle.swreq_words.proofs.Walks.{IsPlainWord, IsPlain}
use Rattle.swreq_words.proofs.Parts.{AreOf}

-- ---- numbers are no flags

few_if : (b : Bool) (n : ℕ) → nat_le 1 (if b then n else 0) ≡ true → b ≡ true
few_if true n e = refl
few_if false n e = absurd (true≢false (sym e))

pub number_is_few : (most : ℕ) (t : Text) → is_number most t ≡ true → are_few_digits t ≡ true
number_is_few most t e = few_if (are_few_digits t) (digits_value 10 t) (and_parts (nat_le 1 (number_of t)) (nat_le (number_of t) most) e).0

digit_low : (d : ℕ) → is_ascii_digit d ≡ true → 48 ≤ d
digit_low d e = search (arith, e)

no_dash : (d : ℕ) → 48 ≤ d → (d == 45) ≡ false
no_dash d low = search (arith, low)

first_digit : (t : Text) → are_few_digits t ≡ true → (d : ℕ) × (ds : Text) × (t ≡ d ∷ ds) × ((d == 45) ≡ false)
first_digit [] e = absurd (omega (arith, (few [] e).0))
first_digit (d ∷ ds) e =
    (d, ds, refl, no_dash d (digit_low d (and_parts (is_ascii_digit d) (list_all is_ascii_digit ds) (few (d ∷ ds) e).2).0))

plain_digit : (d : ℕ) (ds : Text) → (d == 45) ≡ false → IsPlainWord (d ∷ ds)
plain_digit d ds e = (ap (λ b. if b then Some ds else None) e, ap (λ b. b && bytes_eq ds (45 ∷ [])) e)

pub number_plain : (most : ℕ) (t : Text) → is_number most t ≡ true → IsPlainWord t
number_plain most t e =
    let f = first_digit t (number_is_few most t e) in
    subst IsPlainWord (sym f.2) (plain_digit f.0 f.1 f.3)

other_digit : (d : ℕ) (ds : Text) → (d == 45) ≡ false → meaning_of (d ∷ ds) ≡ other
unfolding after
other_digit d ds e = rw e refl

number_other : (most : ℕ) (t : Text) → is_number most t ≡ true → meaning_of t ≡ other
number_other most t e =
    let f = first_digit t (number_is_few most t e) in
    subst (λ w. meaning_of w ≡ other) (sym f.2) (other_digit f.0 f.1 f.3)

-- the command does not take the text of a part for a flag if the part is in its range
plain : (part : Part) → is_in_range part ≡ true → IsPlain part
plain (apart l t) e = number_plain (greatest l) t e
plain (joined l t) e = tt
plain trace e = tt
plain (number t) e = number_plain greatest_count t e

pub are_of : (may : Follows) (parts : List Part) → list_all (may_follow may) parts ≡ true
    → list_all is_in_range parts ≡ true → AreOf may parts
are_of may [] f r = tt
are_of may (p ∷ ps) f r =
    let f' = and_parts (may_follow may p) (list_all (may_follow may) ps) f in
    let r' = and_parts (is_in_range p) (list_all is_in_range ps) r in
    ((f'.0, plain p r'.0), are_of may ps f'.1 r'.1)

-- ---- one part

abbrev flag : Seen → Part → Bool
flag seen (apart MaxRules t) = seen.max_rules
flag seen (apart MaxLength t) = seen.max_length
flag seen (joined MaxRules t) = seen.max_rules
flag seen (joined MaxLength t) = seen.max_length
flag seen trace = seen.trace
flag seen (number t) = seen.number

abbrev put : Seen → Part → Seen
put seen (apart MaxRules t) = record seen { waiting = None; max_rules = true }
put seen (apart MaxLength t) = record seen { waiting = None; max_length = true }
put seen (joined MaxRules t) = record seen { waiting = None; max_rules = true }
put seen (joined MaxLength t) = record seen { waiting = None; max_length = true }
put seen trace = record seen { waiting = None; trace = true }
put seen (number t) = record seen { waiting = None; number = true }

-- the state once no limit waits for its number
abbrev calm : Seen → Seen
calm seen = record seen { waiting = None }

flag_holds : (seen : Seen) (before : List Text) (part : Part) → Holds seen before
    → flag seen part ≡ list_any (λ k. bytes_eq k (sets part)) before
flag_holds seen before (apart MaxRules t) h = h.0
flag_holds seen before (apart MaxLength t) h = h.1
flag_holds seen before (joined MaxRules t) h = h.0
flag_holds seen before (joined MaxLength t) h = h.1
flag_holds seen before trace h = h.2
flag_holds seen before (number t) h = h.3

put_holds : (seen : Seen) (before : List Text) (part : Part) → Holds seen before → Holds (put seen part) (sets part ∷ before)
put_holds seen before (apart MaxRules t) h = (refl, h.1, h.2, h.3)
put_holds seen before (apart MaxLength t) h = (h.0, refl, h.2, h.3)
put_holds seen before (joined MaxRules t) h = (refl, h.1, h.2, h.3)
put_holds seen before (joined MaxLength t) h = (h.0, refl, h.2, h.3)
put_holds seen before trace h = (h.0, h.1, refl, h.3)
put_holds seen before (number t) h = (h.0, h.1, h.2, refl)

put_counts : (seen : Seen) (part : Part) (rest : Bool) → (seen.number || (bytes_eq (sets part) (codes "number") || rest)) ≡ true
    → ((put seen part).number || rest) ≡ true
put_counts seen (apart MaxRules t) rest e = e
put_counts seen (apart MaxLength t) rest e = e
put_counts seen (joined MaxRules t) rest e = e
put_counts seen (joined MaxLength t) rest e = e
put_counts seen trace rest e = e
put_counts seen (number t) rest e = refl

put_waits : (seen : Seen) (part : Part) → calm (put seen part) ≡ put seen part
put_waits seen (apart MaxRules t) = refl
put_waits seen (apart MaxLength t) = refl
put_waits seen (joined MaxRules t) = refl
put_waits seen (joined MaxLength t) = refl
put_waits seen trace = refl
put_waits seen (number t) = refl

-- reading a word, and then the rest
steps : (may : Follows) (seen : Seen) (w : Text) (ws : List Text) (next : Seen) → with_next may seen w ≡ Some next
    → read_on may seen (w ∷ ws) ≡ read_on may next ws
steps may seen w ws next e = read_more may seen w ws ∙ ap (option_and_then (λ n. read_on may n ws)) e

new_is : (was may : Bool) (next : Seen) → was ≡ false → may ≡ true → if_new was may next ≡ Some next
new_is was may next w m = rw (w, m) refl

limit_sets : (seen : Seen) (l : Limit) (t : Text) → flag seen (apart l t) ≡ false → is_number (greatest l) t ≡ true
    → with_limit seen l t ≡ Some (put seen (apart l t))
limit_sets seen MaxRules t f r = new_is seen.max_rules _ _ f r
limit_sets seen MaxLength t f r = new_is seen.max_length _ _ f r

word_reads : (may : Follows) (seen : Seen) (w : Text) (next : Seen) → may_follow may trace ≡ true
    → with_word may seen w seen.waiting ≡ Some next → with_next may seen w ≡ Some next
word_reads Nothing seen w next f e = absurd (true≢false (sym f))
word_reads Options seen w next f e = e
word_reads OptionsAndNumber seen w next f e = e

options_follow : (may : Follows) (part : Part) → may_follow may part ≡ true → may_follow may trace ≡ true
options_follow Nothing part e = absurd (true≢false (sym e))
options_follow Options part e = refl
options_follow OptionsAndNumber part e = refl

opens_is : (may : Follows) (seen : Seen) (l : Limit)
    → with_word may (calm seen) (option_word (limit_name l)) None ≡ Some (record seen { waiting = Some l })
opens_is may seen MaxRules = refl
opens_is may seen MaxLength = refl

joined_is : (may : Follows) (seen : Seen) (l : Limit) (t : Text)
    → with_word may (calm seen) (option_word (limit_name l) ++ (codes "=" ++ t)) None ≡ with_limit (calm seen) l t
unfolding after
joined_is may seen MaxRules t = refl
joined_is may seen MaxLength t = refl

one : (may : Follows) (seen : Seen) (part : Part) (rest : List Text) → may_follow may part ≡ true → is_in_range part ≡ true
    → flag seen part ≡ false
    → read_on may (calm seen) (words_of part ++ rest) ≡ read_on may (put seen part) rest
one may seen (apart l t) rest f r new =
    let follows = options_follow may (apart l t) f in
    steps may (calm seen) (option_word (limit_name l)) (t ∷ rest) (record seen { waiting = Some l })
    (word_reads may (calm seen) _ _ follows (opens_is may seen l))
    ∙ steps may (record seen { waiting = Some l }) t rest (put seen (apart l t))
    (word_reads may (record seen { waiting = Some l }) t _ follows (second seen l t new r))
  where
    second : (seen : Seen) (l : Limit) (t : Text) → flag seen (apart l t) ≡ false → is_number (greatest l) t ≡ true
        → with_limit (record seen { waiting = Some l }) l t ≡ Some (put seen (apart l t))
    second seen MaxRules t f r = new_is seen.max_rules _ _ f r
    second seen MaxLength t f r = new_is seen.max_length _ _ f r
one may seen (joined l t) rest f r new =
    steps may (calm seen) _ rest (put seen (joined l t))
    (word_reads may (calm seen) _ _ (options_follow may (joined l t) f) (joined_is may seen l t ∙ sets_it seen l t new r))
  where
    sets_it : (seen : Seen) (l : Limit) (t : Text) → flag seen (joined l t) ≡ false → is_number (greatest l) t ≡ true
        → with_limit (calm seen) l t ≡ Some (put seen (joined l t))
    sets_it seen MaxRules t f r = new_is seen.max_rules _ _ f r
    sets_it seen MaxLength t f r = new_is seen.max_length _ _ f r
one may seen trace rest f r new =
    steps may (calm seen) _ rest (put seen trace) (word_reads may (calm seen) _ _ f (new_is seen.trace true (put seen trace) new refl))
one Nothing seen (number t) rest f r new = absurd (true≢false (sym f))
one Options seen (number t) rest f r new = absurd (true≢false (sym f))
one OptionsAndNumber seen (number t) rest f r new =
    steps OptionsAndNumber (calm seen) t rest (put seen (number t))
    (ap (with_meaning OptionsAndNumber (calm seen) t) (number_other greatest_count t r) ∙ new_is seen.number _ (put seen (number t)) new r)

-- ---- all parts

pub record Accepted (may : Follows) (seen : Seen) (parts : List Part) : Type 0 where
  pub end : Seen
  pub reads : read_on may (calm seen) (flat_map words_of parts) ≡ Some end
  pub waits : end.waiting ≡ None
  pub counts : (seen.number || is_set (codes "number") parts) ≡ true → end.number ≡ true

pub accepted : (may : Follows) (seen : Seen) (before : List Text) (parts : List Part) → Holds seen before
    → list_all (may_follow may) parts ≡ true → list_all is_in_range parts ≡ true
    → is_each_once before parts ≡ true → Accepted may seen parts
accepted may seen before [] h f r once = record {
  end = calm seen;
  reads = read_none may (calm seen);
  waits = refl;
  counts = λ e. sym (or-false seen.number) ∙ e;
}
accepted may seen before (p ∷ ps) h f r once =
    let f' = and_parts (may_follow may p) (list_all (may_follow may) ps) f in
    let r' = and_parts (is_in_range p) (list_all is_in_range ps) r in
    let o' = and_parts (not (list_any (λ k. bytes_eq k (sets p)) before)) (is_each_once (sets p ∷ before) ps) once in
    let new : flag seen p ≡ false = flag_holds seen before p h ∙ not-true (list_any (λ k. bytes_eq k (sets p)) before) o'.0 in
    let more = accepted may (put seen p) (sets p ∷ before) ps (put_holds seen before p h) f'.1 r'.1 o'.1 in
    record {
      end = more.end;
      reads = one may seen p (flat_map words_of ps) f'.0 r'.0 new
          ∙ ap (λ s. read_on may s (flat_map words_of ps)) (sym (put_waits seen p)) ∙ more.reads;
      waits = more.waits;
      counts = λ e. more.counts (put_counts seen p (is_set (codes "number") ps) e);
    }
