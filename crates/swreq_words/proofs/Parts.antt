-- How the command walks over the words of all parts.
use Rattle.std.proofs.Common.{ap, refl, sym, codes, true, false, Bool, map, fold, if◌then◌else◌, true≢false, subst, slice_get, unwrap_or, List, Some, None, [], ◌∷◌, ◌++◌, ◌≡◌, ◌∙◌, ℕ}
use Rattle.std.specs.Str.{bytes_eq}
use Rattle.std.specs.List.{flat_map}
use Rattle.std.proofs.lemmas.List.{append_assoc, append-nil}
use Rattle.std.proofs.lemmas.Bool.{and_from, or_parts}
use Rattle.clap.specs.Words.{Row, Rule}
use Rattle.clap.specs.Simple.{Shape}
use Rattle.clap.specs.Values.{reading_of}
use Rattle.clap.specs.Walk.{Held, Walk, walked, has_row, with_values, without, at_row, more_values, with_default, default_rows, finished, reading_by}
use Rattle.clap.specs.Takes.{walk_passes, turn_passes}
use Rattle.clap.specs.declared.parser.matches.ValueSource.TheVariants.{CommandLine, DefaultValue}
use Rattle.clap.specs.declared.builder.value_parser.ValueParser.TheVariants as vp
use Rattle.swreq_words.specs.declared.command.Follows.{Follows}
use Rattle.swreq_words.specs.declared.command.Follows.TheVariants.{Nothing, Options, OptionsAndNumber}
use Rattle.swreq_words.specs.Form.{Text, Part, apart, joined, trace, number, limit_name, option_word, words_of, sets}
use Rattle.swreq_words.specs.Taken.{number_rule}
use Rattle.swreq_words.proofs.Walks.{shape, value_of, reading, row_of, between, IsOf, built_rules, rows_in, set_row, within, with_value, Settles, IsNew, walked_joined, walked_trace, walked_first, walked_second, walked_number, turn_joined, turn_trace, turn_first, turn_second, turn_number, rows_of_value, settles_value, settles_number, on_shape}

-- ---- rows

without_none : (id : Text) (rows : List Row) → has_row id rows ≡ false → without id rows ≡ rows
without_none id [] e = refl
without_none id (r ∷ rs) e =
    let p = or_parts (bytes_eq r.id id) (has_row id rs) e in
    rw p.0 (ap (λ xs. r ∷ xs) (without_none id rs p.1))

pub added : (id : Text) (change : Row → List Row) (new : Row) (rows : List Row) → has_row id rows ≡ false
    → at_row id change (new ∷ []) rows ≡ rows ++ new ∷ []
added id change new [] e = refl
added id change new (r ∷ rs) e =
    let p = or_parts (bytes_eq r.id id) (has_row id rs) e in
    rw p.0 (ap (λ xs. r ∷ xs) (added id change new rs p.1))

set_row_adds : (p : Part) (rows : List Row) → has_row (sets p) rows ≡ false → set_row p rows ≡ rows ++ row_of p ∷ []
set_row_adds p rows e = ap (λ rs. with_values (sets p) (reading p) CommandLine (value_of p ∷ []) rs) (without_none (sets p) rows e)
    ∙ added (sets p) (more_values CommandLine (value_of p ∷ [])) (row_of p) rows e

or_false : (id : Text) (rows : List Row) (r : Row) → has_row id (rows ++ r ∷ []) ≡ false
    → (has_row id rows ≡ false) × (bytes_eq r.id id ≡ false)
or_false id [] r e = (refl, (or_parts (bytes_eq r.id id) false e).0)
or_false id (x ∷ xs) r e =
    let p = or_parts (bytes_eq x.id id) (has_row id (xs ++ r ∷ [])) e in
    let q = or_false id xs r p.1 in
    (rw (p.0, q.0) refl, q.1)

-- ---- one part

abbrev pub run : Follows → Walk → List Text → Walk
run may w words = fold (walked (built_rules may) []) w words

-- if the number is still to come, the next positional argument is the first one
abbrev pub Waits : Follows → Held → ℕ → Type 0
Waits may h p = has_row (codes "number") (rows_in may h) ≡ false → p ≡ 1

record Goes (may : Follows) (name : Text) (part : Part) (h : Held) (p : ℕ) : Type 0 where
  pub held : Held
  pub place : ℕ
  pub moves : (rest : List Text) → run may (between h p) (words_of part ++ rest) ≡ run may (between held place) rest
  pub passes : (rest : List Text) → walk_passes (shape may name) [] (between held place) rest ≡ true
      → walk_passes (shape may name) [] (between h p) (words_of part ++ rest) ≡ true
  pub settles : Settles may held
  pub rows : rows_in may held ≡ rows_in may h ++ row_of part ∷ []
  pub waits : Waits may held place

still_waits : (may : Follows) (h : Held) (p : ℕ) (part : Part) (rows : List Row) → rows ≡ rows_in may h ++ row_of part ∷ [] → Waits may h p
    → has_row (codes "number") rows ≡ false → p ≡ 1
still_waits may h p part rows e w none =
    w (or_false (codes "number") (rows_in may h) (row_of part) (ap (λ rs. has_row (codes "number") rs) (sym e) ∙ none)).0

-- the walk passes a word, and then the rest
passes_on : (s : Shape) (w next : Walk) (word : Text) (rest : List Text) → walked s.rules [] w word ≡ next → turn_passes s [] w word ≡ true
    → walk_passes s [] next rest ≡ true → walk_passes s [] w (word ∷ rest) ≡ true
unfolding walk_passes
passes_on s w next word rest e turn more = and_from _ _ turn (ap (λ (v : Walk). walk_passes s [] v rest) e ∙ more)

goes : (may : Follows) (name : Text) (part : Part) (h : Held) (p : ℕ) → IsOf may part → IsNew may part h → Settles may h → Waits may h p
    → Goes may name part h p
goes may name (joined l t) h p of new s w =
    let next : Held = record h { rows = set_row (joined l t) (rows_in may h); pending = None } in
    let step : walked (built_rules may) [] (between h p) (option_word (limit_name l) ++ (codes "=" ++ t)) ≡ between next p =
    walked_joined may l t h p of.0 in
    let grown : rows_in may next ≡ rows_in may h ++ row_of (joined l t) ∷ [] = set_row_adds (joined l t) (rows_in may h) new in
    record {
      held = next;
      place = p;
      moves = λ rest. ap (λ v. run may v rest) step;
      passes = λ rest e. passes_on (shape may name) (between h p) (between next p) _ rest (on_shape may name _ _ _ step)
          (turn_joined may name l t h p of.0 s new) e;
      settles = refl;
      rows = grown;
      waits = still_waits may h p (joined l t) (rows_in may next) grown w;
    }
goes may name trace h p of new s w =
    let next : Held = record h { rows = set_row trace (rows_in may h); pending = None } in
    let step : walked (built_rules may) [] (between h p) (option_word (codes "trace")) ≡ between next p = walked_trace may h p of.0 in
    let grown : rows_in may next ≡ rows_in may h ++ row_of trace ∷ [] = set_row_adds trace (rows_in may h) new in
    record {
      held = next;
      place = p;
      moves = λ rest. ap (λ v. run may v rest) step;
      passes = λ rest e. passes_on (shape may name) (between h p) (between next p) _ rest (on_shape may name _ _ _ step)
          (turn_trace may name h p of.0 s new) e;
      settles = refl;
      rows = grown;
      waits = still_waits may h p trace (rows_in may next) grown w;
    }
goes may name (apart l t) h p of new s w =
    let next : Held = with_value may (apart l t) h in
    let first : walked (built_rules may) [] (between h p) (option_word (limit_name l)) ≡ within may l h p = walked_first may l t h p of.0 in
    let second : walked (built_rules may) [] (within may l h p) t ≡ between next p = walked_second may l t h p of in
    let grown : rows_in may next ≡ rows_in may h ++ row_of (apart l t) ∷ [] =
    rows_of_value may (apart l t) h of.0 ∙ set_row_adds (apart l t) (rows_in may h) new in
    record {
      held = next;
      place = p;
      moves = λ rest. ap (λ v. run may v (t ∷ rest)) first ∙ ap (λ v. run may v rest) second;
      passes = λ rest e. passes_on (shape may name) (between h p) (within may l h p) _ (t ∷ rest) (on_shape may name _ _ _ first)
          (turn_first may name l t h p of.0 s)
          (passes_on (shape may name) (within may l h p) (between next p) _ rest (on_shape may name _ _ _ second)
          (turn_second may name l t h p of) e);
      settles = settles_value may l t h of.0 new;
      rows = grown;
      waits = still_waits may h p (apart l t) (rows_in may next) grown w;
    }
goes Nothing name (number t) h p of new s w = absurd (true≢false (sym of.0))
goes Options name (number t) h p of new s w = absurd (true≢false (sym of.0))
goes OptionsAndNumber name (number t) h p of new s w =
    let may = OptionsAndNumber in
    let next : Held = with_value may (number t) h in
    let step : walked (built_rules may) [] (between h 1) t ≡ between next 2 = walked_number t h of.1 in
    let grown : rows_in may next ≡ rows_in may h ++ row_of (number t) ∷ [] =
    rows_of_value may (number t) h refl ∙ set_row_adds (number t) (rows_in may h) new in
    subst (λ q. Goes may name (number t) h q) (sym (w new)) (record {
      held = next;
      place = 2;
      moves = λ rest. ap (λ v. run may v rest) step;
      passes = λ rest e.
          passes_on (shape may name) (between h 1) (between next 2) _ rest (on_shape may name _ _ _ step) (turn_number name t h of.1 s) e;
      settles = settles_number t h new;
      rows = grown;
      waits = λ none. absurd (true≢false (or_false (codes "number") (rows_in may h) (row_of (number t))
          (ap (λ rs. has_row (codes "number") rs) (sym grown) ∙ none)).1);
    })

-- ---- all parts

-- no part sets what has a row already
abbrev pub AreNew : List Row → List Part → Type 0
AreNew rows [] = Unit {0}
AreNew rows (p ∷ ps) = (has_row (sets p) rows ≡ false) × AreNew (rows ++ row_of p ∷ []) ps

abbrev pub AreOf : Follows → List Part → Type 0
AreOf may [] = Unit {0}
AreOf may (p ∷ ps) = IsOf may p × AreOf may ps

pub record Gone (may : Follows) (name : Text) (ps : List Part) (h : Held) (p : ℕ) : Type 0 where
  pub held : Held
  pub place : ℕ
  pub moves : run may (between h p) (flat_map words_of ps) ≡ between held place
  pub passes : walk_passes (shape may name) [] (between h p) (flat_map words_of ps) ≡ true
  pub settles : Settles may held
  pub rows : rows_in may held ≡ rows_in may h ++ map row_of ps

nothing_left : (s : Shape) (w : Walk) → walk_passes s [] w [] ≡ true
unfolding walk_passes
nothing_left s w = refl

pub gone : (may : Follows) (name : Text) (ps : List Part) (h : Held) (p : ℕ) → AreOf may ps → AreNew (rows_in may h) ps → Settles may h
    → Waits may h p → Gone may name ps h p
gone may name [] h p of new s w = record {
  held = h;
  place = p;
  moves = refl;
  passes = nothing_left (shape may name) (between h p);
  settles = s;
  rows = sym (append-nil (rows_in may h));
}
gone may name (i ∷ ps) h p of new s w =
    let one = goes may name i h p of.0 new.0 s w in
    let more = gone may name ps one.held one.place of.1 (subst (λ rs. AreNew rs ps) (sym one.rows) new.1) one.settles one.waits in
    record {
      held = more.held;
      place = more.place;
      moves = one.moves (flat_map words_of ps) ∙ more.moves;
      passes = one.passes (flat_map words_of ps) more.passes;
      settles = more.settles;
      rows = more.rows ∙ ap (λ rs. rs ++ map row_of ps) one.rows ∙ append_assoc (rows_in may h) (row_of i ∷ []) (map row_of ps);
    }

-- ---- the end of the words

kept : (has : Bool) (rows : List Row) → (if has then rows else rows) ≡ rows
kept false rows = refl
kept true rows = refl

no_default : (rows : List Row) (a : Rule) → a.defaults ≡ [] → with_default rows a ≡ rows
no_default rows a e =
    ap (λ d. if has_row a.id rows then rows else default_rows a.id (reading_by a) d rows) e ∙ kept (has_row a.id rows) rows

rule_at : Follows → ℕ → Rule
rule_at may i = unwrap_or (slice_get (built_rules may) i) number_rule

-- the row of a trace that is not set
abbrev pub no_trace : Row
no_trace =
    record { id = codes "trace"; values = codes "false" ∷ []; count = None; source = Some DefaultValue; reading = reading_of vp.Bool }

-- the rows, with the row of the trace if options may stand
abbrev pub with_trace : Follows → List Row → List Row
with_trace Nothing rows = rows
with_trace _ rows =
    if has_row (codes "trace") rows then rows else with_values (codes "trace") (reading_of vp.Bool) DefaultValue (codes "false" ∷ []) rows

pub finished_as : (may : Follows) (h : Held) → finished (built_rules may) h ≡ with_trace may (rows_in may h)
unfolding rule_at
finished_as Nothing h = no_default (rows_in Nothing h) (rule_at Nothing 0) refl
finished_as Options h =
    let may = Options in
    let rows = rows_in may h in
    no_default (with_default (with_default (with_default rows (rule_at may 0)) (rule_at may 1)) (rule_at may 2)) (rule_at may 3) refl
    ∙ ap (λ rs. with_default rs (rule_at may 2))
    (no_default (with_default rows (rule_at may 0)) (rule_at may 1) refl ∙ no_default rows (rule_at may 0) refl)
finished_as OptionsAndNumber h =
    let may = OptionsAndNumber in
    let rows = rows_in may h in
    let three = with_default (with_default (with_default rows (rule_at may 0)) (rule_at may 1)) (rule_at may 2) in
    no_default (with_default three (rule_at may 3)) (rule_at may 4) refl ∙ no_default three (rule_at may 3) refl
    ∙ ap (λ rs. with_default rs (rule_at may 2))
    (no_default (with_default rows (rule_at may 0)) (rule_at may 1) refl ∙ no_default rows (rule_at may 0) refl)
