-- Words that pass the test are the words of parts.
use Rattle.std.proofs.Common.{ap, refl, sym, subst, codes, true, false, Bool, not, ◌&&◌, if◌then◌else◌, option_and_then, true≢false, List, Option, Some, None, [], ◌∷◌, ◌++◌, ◌≡◌, ◌∙◌}
use Rattle.std.specs.Str.{bytes_eq}
use Rattle.std.specs.List.{list_all, list_any, flat_map}
use Rattle.std.proofs.lemmas.List.{append_assoc}
use Rattle.std.proofs.lemmas.Bool.{and_parts, and_from, or_left, or_right}
use Rattle.swreq_words.specs.declared.command.Follows.{Follows}
use Rattle.swreq_words.specs.declared.command.Follows.TheVariants.{Nothing, Options, OptionsAndNumber}
use Rattle.swreq_words.specs.declared.limits.Limit.{Limit}
use Rattle.swreq_words.specs.declared.limits.Limit.TheVariants.{MaxRules, MaxLength}
use Rattle.swreq_words.specs.declared.seen.Seen.{Seen}
use Rattle.swreq_words.specs.Numbers.{is_number}
use Rattle.swreq_words.specs.Form.{Text, Part, apart, joined, trace, number, limit_name, greatest, greatest_count, option_word, words_of, may_follow, is_in_range, sets, is_each_once, is_set, takes_number}
use Rattle.swreq_words.specs.Reading.{after, front_of, Meaning, opens, sets_limit, traces, other, set_or, meaning_of_one, meaning_of, if_new, with_limit, with_number, with_meaning, with_word, with_next, read_on}
use Rattle.swreq_words.proofs.Fronts.{none_some, some_same, bytes_same, after_is}

-- ---- what was set before

-- what was seen agrees with the list of what was set before
abbrev pub Holds : Seen → List Text → Type 0
Holds seen before =
    (seen.max_rules ≡ list_any (λ other. bytes_eq other (codes "max-rules")) before)
    × (seen.max_length ≡ list_any (λ other. bytes_eq other (codes "max-length")) before)
    × (seen.trace ≡ list_any (λ other. bytes_eq other (codes "trace")) before)
    × (seen.number ≡ list_any (λ other. bytes_eq other (codes "number")) before)

-- the part sets what was not set before, and is seen next
pub record Puts (seen next : Seen) (part : Part) : Type 0 where
  pub new : (before : List Text) → Holds seen before → list_any (λ other. bytes_eq other (sets part)) before ≡ false
  pub holds : (before : List Text) → Holds seen before → Holds next (sets part ∷ before)
  pub counts : next.number ≡ true → (seen.number ≡ true → ⊥) → bytes_eq (sets part) (codes "number") ≡ true

-- the words are the words of parts, and this is what was seen after them
pub record Reads (may : Follows) (seen after : Seen) (words : List Text) : Type 0 where
  pub parts : List Part
  pub spelled : words ≡ flat_map words_of parts
  pub follow : list_all (may_follow may) parts ≡ true
  pub in_range : list_all is_in_range parts ≡ true
  pub once : (before : List Text) → Holds seen before → is_each_once before parts ≡ true
  pub counts : after.number ≡ true → (seen.number ≡ true → ⊥) → is_set (codes "number") parts ≡ true

-- the words of a part, and then words that are read
tell : (may : Follows) (seen next after : Seen) (part : Part) (words : List Text) → may_follow may part ≡ true
    → is_in_range part ≡ true → Puts seen next part
    → Reads may next after words → Reads may seen after (words_of part ++ words)
tell may seen next after part words follows ranges puts more = record {
  parts = part ∷ more.parts;
  spelled = ap (λ ws. words_of part ++ ws) more.spelled;
  follow = and_from _ _ follows more.follow;
  in_range = and_from _ _ ranges more.in_range;
  once = λ before holds. and_from _ _ (ap not (puts.new before holds)) (more.once (sets part ∷ before) (puts.holds before holds));
  counts = λ is was. counted (next.number) refl is was;
} where
  counted : (b : Bool) → next.number ≡ b → after.number ≡ true → (seen.number ≡ true → ⊥)
      → is_set (codes "number") (part ∷ more.parts) ≡ true
  counted true e is was = or_left _ _ (puts.counts e was)
  counted false e is was = or_right _ _ (more.counts is (λ yes. true≢false (sym yes ∙ e)))

-- ---- one word

new_if : (was may : Bool) (x y : Seen) → if_new was may x ≡ Some y → (was ≡ false) × (may ≡ true) × (x ≡ y)
new_if true may x y e = absurd (none_some y e)
new_if false false x y e = absurd (none_some y e)
new_if false true x y e = (refl, refl, some_same x y e)

pub record Limited (seen next : Seen) (limit : Limit) (text : Text) : Type 0 where
  pub waits : next.waiting ≡ None
  pub ranges : is_number (greatest limit) text ≡ true
  pub puts_apart : Puts (record seen { waiting = None }) next (apart limit text)
  pub puts_joined : Puts (record seen { waiting = None }) next (joined limit text)

limited : (seen next : Seen) (limit : Limit) (text : Text) → with_limit seen limit text ≡ Some next → Limited seen next limit text
limited seen next MaxRules text e =
    let n = new_if seen.max_rules (is_number (greatest MaxRules) text) (record seen { waiting = None; max_rules = true }) next e in
    subst (λ x. Limited seen x MaxRules text) n.2 (record {
      waits = refl;
      ranges = n.1;
      puts_apart =
          record { new = λ before h. sym h.0 ∙ n.0; holds = λ before h. (refl, h.1, h.2, h.3); counts = λ is was. absurd (was is) };
      puts_joined =
          record { new = λ before h. sym h.0 ∙ n.0; holds = λ before h. (refl, h.1, h.2, h.3); counts = λ is was. absurd (was is) };
    })
limited seen next MaxLength text e =
    let n = new_if seen.max_length (is_number (greatest MaxLength) text) (record seen { waiting = None; max_length = true }) next e in
    subst (λ x. Limited seen x MaxLength text) n.2 (record {
      waits = refl;
      ranges = n.1;
      puts_apart =
          record { new = λ before h. sym h.1 ∙ n.0; holds = λ before h. (h.0, refl, h.2, h.3); counts = λ is was. absurd (was is) };
      puts_joined =
          record { new = λ before h. sym h.1 ∙ n.0; holds = λ before h. (h.0, refl, h.2, h.3); counts = λ is was. absurd (was is) };
    })

pub record Put (seen next : Seen) (part : Part) : Type 0 where
  pub waits : seen.waiting ≡ None → next.waiting ≡ None
  pub puts : Puts seen next part

traced : (seen next : Seen) → if_new seen.trace true (record seen { trace = true }) ≡ Some next → Put seen next trace
traced seen next e =
    let n = new_if seen.trace true (record seen { trace = true }) next e in
    subst (λ x. Put seen x trace) n.2 (record {
      waits = λ w. w;
      puts = record { new = λ before h. sym h.2 ∙ n.0; holds = λ before h. (h.0, h.1, refl, h.3); counts = λ is was. absurd (was is) };
    })

pub record Numbered (may : Follows) (seen next : Seen) (text : Text) : Type 0 where
  pub follows : may_follow may (number text) ≡ true
  pub ranges : is_number greatest_count text ≡ true
  pub put : Put seen next (number text)

number_follows : (may : Follows) (text : Text) → takes_number may ≡ true → may_follow may (number text) ≡ true
number_follows Nothing text e = absurd (true≢false (sym e))
number_follows Options text e = absurd (true≢false (sym e))
number_follows OptionsAndNumber text e = refl

numbered : (may : Follows) (seen next : Seen) (text : Text) → with_number may seen text ≡ Some next → Numbered may seen next text
numbered may seen next text e =
    let n = new_if seen.number (takes_number may && is_number greatest_count text) (record seen { number = true }) next e in
    let may_be = and_parts (takes_number may) (is_number greatest_count text) n.1 in
    record {
      follows = number_follows may text may_be.0;
      ranges = may_be.1;
      put = subst (λ x. Put seen x (number text)) n.2 (record {
        waits = λ w. w;
        puts = record { new = λ before h. sym h.3 ∙ n.0; holds = λ before h. (h.0, h.1, h.2, refl); counts = λ is was. refl };
      });
    }

-- ---- what a word is

abbrev Spells : Text → Meaning → Type 0
Spells w (opens l) = w ≡ option_word (limit_name l)
Spells w (sets_limit l t) = w ≡ option_word (limit_name l) ++ (codes "=" ++ t)
Spells w traces = w ≡ option_word (codes "trace")
Spells w other = Unit {0}

spells_if : (w : Text) (b : Bool) (x y : Meaning) → (b ≡ true → Spells w x) → Spells w y → Spells w (if b then x else y)
spells_if w true x y spells otherwise = spells refl
spells_if w false x y spells otherwise = otherwise

spells_set : (w : Text) (l : Limit) (next : Meaning) (o : Option Text) → after (front_of l) w ≡ o → Spells w next
    → Spells w (set_or l o next)
spells_set w l next None e otherwise = otherwise
spells_set w l next (Some t) e otherwise = after_is (front_of l) w t e ∙ append_assoc (option_word (limit_name l)) (codes "=") t

spelled_one : (w : Text) → Spells w (meaning_of_one w)
spelled_one w = spells_if w (bytes_eq w (option_word (codes "trace"))) traces _ (bytes_same w (option_word (codes "trace")))
    (spells_set w MaxRules _ _ refl (spells_set w MaxLength other _ refl tt))

spelled : (w : Text) → Spells w (meaning_of w)
spelled w =
    spells_if w (bytes_eq w (option_word (limit_name MaxRules))) (opens MaxRules) _ (bytes_same w (option_word (limit_name MaxRules)))
    (spells_if w (bytes_eq w (option_word (limit_name MaxLength))) (opens MaxLength) _ (bytes_same w (option_word (limit_name MaxLength)))
    (spelled_one w))

-- ---- all words

bound : {A B : Type 0} (f : A → Option B) (o : Option A) (y : B) → option_and_then f o ≡ Some y → (x : A) × (o ≡ Some x) × (f x ≡ Some y)
bound f None y e = absurd (none_some y e)
bound f (Some x) y e = (x, refl, e)

-- the word is read, and options may stand there
record Goes (may : Follows) (seen next : Seen) (w : Text) : Type 0 where
  pub apart_follows : (l : Limit) (t : Text) → may_follow may (apart l t) ≡ true
  pub joined_follows : (l : Limit) (t : Text) → may_follow may (joined l t) ≡ true
  pub trace_follows : may_follow may trace ≡ true
  pub reads : with_word may seen w seen.waiting ≡ Some next

goes : (may : Follows) (seen next : Seen) (w : Text) → with_next may seen w ≡ Some next → Goes may seen next w
goes Nothing seen next w e = absurd (none_some next e)
goes Options seen next w e = record { apart_follows = λ l t. refl; joined_follows = λ l t. refl; trace_follows = refl; reads = e }
goes OptionsAndNumber seen next w e = record { apart_follows = λ l t. refl; joined_follows = λ l t. refl; trace_follows = refl; reads = e }

abbrev Tells : Follows → Seen → Seen → List Text → Type 0
Tells may seen after ws = (seen.waiting ≡ None → Reads may seen after ws)
    × ((l : Limit) → seen.waiting ≡ Some l → Reads may (record seen { waiting = None }) after (option_word (limit_name l) ∷ ws))

-- if nothing waits in a state, clearing what waits does not change it
calm : (s : Seen) → s.waiting ≡ None → record s { waiting = None } ≡ s
calm s w = ap (λ x. record s { waiting = x }) (sym w)

told_word : (may : Follows) (seen next after : Seen) (w : Text) (ws : List Text) (meaning : Meaning) → Goes may seen next w
    → Spells w meaning → seen.waiting ≡ None
    → with_meaning may seen w meaning ≡ Some next → Tells may next after ws → Reads may seen after (w ∷ ws)
told_word may seen next after w ws (opens l) go spelt calmly e more =
    let is = some_same (record seen { waiting = Some l }) next e in
    let from : Reads may (record next { waiting = None }) after (option_word (limit_name l) ∷ ws) =
    more.1 l (sym (ap (λ (x : Seen). x.waiting) is)) in
    let same : record next { waiting = None } ≡ seen = sym (ap (λ (x : Seen). record x { waiting = None }) is) ∙ calm seen calmly in
    subst (λ x. Reads may x after (w ∷ ws)) same
    (subst (λ (x : Text). Reads may (record next { waiting = None }) after (x ∷ ws)) (sym spelt) from)
told_word may seen next after w ws (sets_limit l t) go spelt calmly e more =
    let one = limited seen next l t e in
    let from : Reads may (record seen { waiting = None }) after ((option_word (limit_name l) ++ (codes "=" ++ t)) ∷ ws) =
    tell may (record seen { waiting = None }) next after (joined l t) ws
    (go.joined_follows l t) one.ranges one.puts_joined (more.0 one.waits) in
    subst (λ x. Reads may x after (w ∷ ws)) (calm seen calmly)
    (subst (λ (x : Text). Reads may (record seen { waiting = None }) after (x ∷ ws)) (sym spelt) from)
told_word may seen next after w ws traces go spelt calmly e more =
    let one = traced seen next e in
    subst (λ (x : Text). Reads may seen after (x ∷ ws)) (sym spelt)
    (tell may seen next after trace ws go.trace_follows refl one.puts (more.0 (one.waits calmly)))
told_word may seen next after w ws other go spelt calmly e more =
    let one = numbered may seen next w e in
    tell may seen next after (number w) ws one.follows one.ranges one.put.puts (more.0 (one.put.waits calmly))

pub told : (may : Follows) (ws : List Text) (seen after : Seen) → read_on may seen ws ≡ Some after → after.waiting ≡ None
    → Tells may seen after ws
unfolding read_on
told may [] seen after e ended =
    let same = some_same seen after e in (
      λ calmly. record {
        parts = [];
        spelled = refl;
        follow = refl;
        in_range = refl;
        once = λ before holds. refl;
        counts = λ is was. absurd (was (ap (λ (x : Seen). x.number) same ∙ is));
      },
      λ l waits. absurd (none_some l (sym ended ∙ sym (ap (λ (x : Seen). x.waiting) same) ∙ waits)),
    )
told may (w ∷ ws) seen after e ended =
    let b = bound (λ next. read_on may next ws) (with_next may seen w) after e in
    let more = told may ws b.0 after b.2 ended in
    let go = goes may seen b.0 w b.1 in (
      λ calmly. told_word may seen b.0 after w ws (meaning_of w) go (spelled w) calmly
          (ap (λ o. with_word may seen w o) (sym calmly) ∙ go.reads) more,
      λ l waits.
          let one = limited seen b.0 l w (ap (λ o. with_word may seen w o) (sym waits) ∙ go.reads) in
          tell may (record seen { waiting = None }) b.0 after (apart l w) ws
          (go.apart_follows l w) one.ranges one.puts_apart (more.0 one.waits),
    )
