-- How the command walks over the words of one part.
use Rattle.std.proofs.Common.{ap, ap₂, refl, sym, codes, true, false, Bool, ◌&&◌, ◌||◌, if◌then◌else◌, option_and_then, unwrap_or, true≢false, List, Some, None, [], ◌∷◌, ◌++◌, ◌≡◌, ◌∙◌, ℕ}
use Rattle.std.specs.Str.{bytes_eq}
use Rattle.std.specs.Option.{option_map_or}
use Rattle.clap.specs.Words.{Row, Rule}
use Rattle.clap.specs.Simple.{Shape, built_leaf}
use Rattle.clap.specs.Lexer.{strip_byte, long_of_rest, short_of_rest}
use Rattle.clap.specs.Values.{reading_of}
use Rattle.clap.specs.declared.builder.value_parser.Reading.{Reading}
use Rattle.clap.specs.Walk.{Held, Walk, Waiting, Step, idle, positional, option, trailing, walked, after_step, arg_by_index, is_pending, plain_word, long_or_other, short_or_plain, subcommand_or_other, settled, pushed, has_row, with_values, without}
use Rattle.clap.specs.Takes.{turn_passes, settle_passes, bundle_passes, word_passes, step_passes}
use Rattle.clap.specs.declared.parser.matches.ValueSource.TheVariants.{CommandLine}
use Rattle.clap.specs.declared.builder.value_parser.ValueParser.TheVariants as vp
use Rattle.clap.proofs.OnLiterals.{clap_on_literals}
use Rattle.swreq_words.specs.declared.command.Follows.{Follows}
use Rattle.swreq_words.specs.declared.command.Follows.TheVariants.{Nothing, Options, OptionsAndNumber}
use Rattle.swreq_words.specs.declared.limits.Limit.{Limit}
use Rattle.swreq_words.specs.declared.limits.Limit.TheVariants.{MaxRules, MaxLength}
use Rattle.swreq_words.specs.Form.{Text, Part, apart, joined, trace, number, limit_name, option_word, sets, may_follow}
use Rattle.swreq_words.specs.Taken.{number_rule, leaf}

-- the shape of the built command
abbrev pub shape : Follows → Text → Shape
shape may name = built_leaf (record (leaf may name).top { no_binary_name = true })

-- the row that a part leaves
abbrev pub value_of : Part → Text
value_of (apart l t) = t
value_of (joined l t) = t
value_of trace = codes "true"
value_of (number t) = t

abbrev pub reading : Part → Reading
reading trace = reading_of vp.Bool
reading _ = reading_of vp.String

abbrev pub row_of : Part → Row
row_of p = record { id = sets p; values = value_of p ∷ []; count = None; source = Some CommandLine; reading = reading p }

-- what the walk holds between two parts
abbrev pub between : Held → ℕ → Walk
between h p = record { held = h; waiting = idle; position = p; is_trailing = false; stopped = None }

abbrev pub IsPlainWord : Text → Type 0
IsPlainWord t = (strip_byte 45 t ≡ None) × (bytes_eq t (45 ∷ 45 ∷ []) ≡ false)

-- the command does not take its text for a flag
abbrev pub IsPlain : Part → Type 0
IsPlain (apart l t) = IsPlainWord t
IsPlain (joined l t) = Unit {0}
IsPlain trace = Unit {0}
IsPlain (number t) = IsPlainWord t

-- the part may stand in the words of this command
abbrev pub IsOf : Follows → Part → Type 0
IsOf may p = (may_follow may p ≡ true) × IsPlain p

met : (c : List Rule) (w : Waiting) (p : ℕ) (t : Text) (h : Held) → IsPlainWord t → subcommand_or_other c None w p t h ≡ plain_word c w t h
met c w p t h plain =
    ap (λ b. if b then (h, trailing p) else long_or_other c w t
    (option_and_then long_of_rest (option_and_then (strip_byte 45) (strip_byte 45 t))) h) plain.1
    ∙ ap (λ o. long_or_other c w t (option_and_then long_of_rest (option_and_then (strip_byte 45) o)) h) plain.0
    ∙ ap (λ o. short_or_plain c w t (option_and_then short_of_rest o) h) plain.0

-- the rules of a command, once it is built
abbrev pub built_rules : Follows → List Rule
built_rules may = (shape may []).rules

pub same_rules : (may : Follows) (name : Text) → (shape may name).rules ≡ built_rules may
same_rules Nothing name = refl
same_rules Options name = refl
same_rules OptionsAndNumber name = refl

-- the rows, with the use that waits
abbrev pub rows_in : Follows → Held → List Row
rows_in may h = (settled (built_rules may) h).rows

abbrev pub set_row : Part → List Row → List Row
set_row p rows = with_values (sets p) (reading p) CommandLine (value_of p ∷ []) (without (sets p) rows)

-- what is held after the word of a part that waits for nothing
abbrev used_up : Follows → Part → Held → Held
used_up may part h = record h { rows = set_row part (rows_in may h); pending = None }

pub walked_joined : (may : Follows) (l : Limit) (t : Text) (h : Held) (p : ℕ) → may_follow may (joined l t) ≡ true
    → walked (built_rules may) [] (between h p) (option_word (limit_name l) ++ (codes "=" ++ t)) ≡ between (used_up may (joined l t) h) p
unfolding clap_on_literals
walked_joined Nothing l t h p e = absurd (true≢false (sym e))
walked_joined Options MaxRules t h p e = refl
walked_joined Options MaxLength t h p e = refl
walked_joined OptionsAndNumber MaxRules t h p e = refl
walked_joined OptionsAndNumber MaxLength t h p e = refl

pub walked_trace : (may : Follows) (h : Held) (p : ℕ) → may_follow may trace ≡ true
    → walked (built_rules may) [] (between h p) (option_word (codes "trace")) ≡ between (used_up may trace h) p
unfolding clap_on_literals
walked_trace Nothing h p e = absurd (true≢false (sym e))
walked_trace Options h p e = refl
walked_trace OptionsAndNumber h p e = refl

-- the walk between the two words of an option
abbrev pub within : Follows → Limit → Held → ℕ → Walk
within may l h p =
    record (between (record (settled (built_rules may) h) { pending = Some (limit_name l, []) }) p) { waiting = option (limit_name l) }

pub walked_first : (may : Follows) (l : Limit) (t : Text) (h : Held) (p : ℕ) → may_follow may (apart l t) ≡ true
    → walked (built_rules may) [] (between h p) (option_word (limit_name l)) ≡ within may l h p
unfolding clap_on_literals
walked_first Nothing l t h p e = absurd (true≢false (sym e))
walked_first Options MaxRules t h p e = refl
walked_first Options MaxLength t h p e = refl
walked_first OptionsAndNumber MaxRules t h p e = refl
walked_first OptionsAndNumber MaxLength t h p e = refl

-- the part with its text pending
abbrev pub with_value : Follows → Part → Held → Held
with_value may part h = record (settled (built_rules may) h) { pending = Some (sets part, value_of part ∷ []) }

second_of : (may : Follows) (l : Limit) (t : Text) (h : Held) (p : ℕ) → may_follow may (apart l t) ≡ true
    → after_step (built_rules may) t (within may l h p)
    (plain_word (built_rules may) (option (limit_name l)) t (within may l h p).held).0
    (plain_word (built_rules may) (option (limit_name l)) t (within may l h p).held).1
    ≡ between (with_value may (apart l t) h) p
unfolding clap_on_literals
second_of Nothing l t h p e = absurd (true≢false (sym e))
second_of Options MaxRules t h p e = refl
second_of Options MaxLength t h p e = refl
second_of OptionsAndNumber MaxRules t h p e = refl
second_of OptionsAndNumber MaxLength t h p e = refl

pub walked_second : (may : Follows) (l : Limit) (t : Text) (h : Held) (p : ℕ) → IsOf may (apart l t)
    → walked (built_rules may) [] (within may l h p) t ≡ between (with_value may (apart l t) h) p
unfolding clap_on_literals
walked_second may l t h p of =
    ap (λ (m : Held × Step). after_step (built_rules may) t (within may l h p) m.0 m.1)
    (met (built_rules may) (option (limit_name l)) p t (within may l h p).held of.1)
    ∙ second_of may l t h p of.0

-- the rule of the number, once it is built
abbrev built_number : Rule
built_number = unwrap_or (arg_by_index (built_rules OptionsAndNumber) 1) number_rule

number_if : (pending : Bool) (t : Text) (h : Held) → between (pushed (codes "number") t
    (if pending && false then h else settled (built_rules OptionsAndNumber) h)) 2 ≡ between (with_value OptionsAndNumber (number t) h) 2
number_if false t h = refl
number_if true t h = refl

number_of : (t : Text) (h : Held) → after_step (built_rules OptionsAndNumber) t (between h 1)
    (plain_word (built_rules OptionsAndNumber) idle t h).0
    (plain_word (built_rules OptionsAndNumber) idle t h).1
    ≡ between (with_value OptionsAndNumber (number t) h) 2
unfolding clap_on_literals
number_of t h = number_if (is_pending built_number h.pending) t h

pub walked_number : (t : Text) (h : Held) → IsPlainWord t
    → walked (built_rules OptionsAndNumber) [] (between h 1) t ≡ between (with_value OptionsAndNumber (number t) h) 2
unfolding clap_on_literals
walked_number t h plain =
    ap (λ (m : Held × Step). after_step (built_rules OptionsAndNumber) t (between h 1) m.0 m.1)
    (met (built_rules OptionsAndNumber) idle 1 t h plain) ∙ number_of t h

-- ---- what each turn asks

abbrev pub Settles : Follows → Held → Type 0
Settles may h = settle_passes (built_rules may) false h ≡ true

abbrev pub IsNew : Follows → Part → Held → Type 0
IsNew may part h = has_row (sets part) (rows_in may h) ≡ false

pub turn_joined : (may : Follows) (name : Text) (l : Limit) (t : Text) (h : Held) (p : ℕ) → may_follow may (joined l t) ≡ true
    → Settles may h → IsNew may (joined l t) h
    → turn_passes (shape may name) [] (between h p) (option_word (limit_name l) ++ (codes "=" ++ t)) ≡ true
unfolding clap_on_literals
turn_joined Nothing name l t h p e s n = absurd (true≢false (sym e))
turn_joined Options name MaxRules t h p e s n = rw (s, n) refl
turn_joined Options name MaxLength t h p e s n = rw (s, n) refl
turn_joined OptionsAndNumber name MaxRules t h p e s n = rw (s, n) refl
turn_joined OptionsAndNumber name MaxLength t h p e s n = rw (s, n) refl

pub turn_trace : (may : Follows) (name : Text) (h : Held) (p : ℕ) → may_follow may trace ≡ true → Settles may h → IsNew may trace h
    → turn_passes (shape may name) [] (between h p) (option_word (codes "trace")) ≡ true
unfolding clap_on_literals
turn_trace Nothing name h p e s n = absurd (true≢false (sym e))
turn_trace Options name h p e s n = rw (s, n) refl
turn_trace OptionsAndNumber name h p e s n = rw (s, n) refl

pub turn_first : (may : Follows) (name : Text) (l : Limit) (t : Text) (h : Held) (p : ℕ) → may_follow may (apart l t) ≡ true → Settles may h
    → turn_passes (shape may name) [] (between h p) (option_word (limit_name l)) ≡ true
unfolding clap_on_literals
turn_first Nothing name l t h p e s = absurd (true≢false (sym e))
turn_first Options name MaxRules t h p e s = rw s refl
turn_first Options name MaxLength t h p e s = rw s refl
turn_first OptionsAndNumber name MaxRules t h p e s = rw s refl
turn_first OptionsAndNumber name MaxLength t h p e s = rw s refl

short_too : (s : Shape) (t : Text) (h : Held) → IsPlainWord t → option_map_or (λ flags. bundle_passes s.rules s.args_override_self flags h)
    (option_and_then short_of_rest (strip_byte 45 t)) true ≡ true
short_too s t h plain =
    ap (λ o. option_map_or (λ flags. bundle_passes s.rules s.args_override_self flags h) (option_and_then short_of_rest o) true) plain.0

-- a word that is no flag passes if no subcommand can be called
plain_passes : (may : Follows) (name : Text) (w : Waiting) (t : Text) (h : Held) → IsPlainWord t
    → word_passes (shape may name) [] false w t h ≡ true
unfolding clap_on_literals
plain_passes may name idle t h plain = rw (plain.0, plain.1) (short_too (shape may name) t h plain)
plain_passes may name (option o) t h plain = rw (plain.0, plain.1) (short_too (shape may name) t h plain)
plain_passes may name positional t h plain = rw (plain.0, plain.1) (short_too (shape may name) t h plain)

second_step : (may : Follows) (name : Text) (l : Limit) (t : Text) (h : Held) (p : ℕ) → may_follow may (apart l t) ≡ true
    → step_passes (shape may name) p
    (plain_word (shape may name).rules (option (limit_name l)) t (within may l h p).held).0
    (plain_word (shape may name).rules (option (limit_name l)) t (within may l h p).held).1 ≡ true
unfolding clap_on_literals
second_step Nothing name l t h p e = absurd (true≢false (sym e))
second_step Options name MaxRules t h p e = refl
second_step Options name MaxLength t h p e = refl
second_step OptionsAndNumber name MaxRules t h p e = refl
second_step OptionsAndNumber name MaxLength t h p e = refl

pub turn_second : (may : Follows) (name : Text) (l : Limit) (t : Text) (h : Held) (p : ℕ) → IsOf may (apart l t)
    → turn_passes (shape may name) [] (within may l h p) t ≡ true
turn_second may name l t h p of = ap₂ (λ a b. a && b) (plain_passes may name (option (limit_name l)) t (within may l h p).held of.1)
    (ap (λ (m : Held × Step). step_passes (shape may name) p m.0 m.1)
    (met (shape may name).rules (option (limit_name l)) p t (within may l h p).held of.1)
    ∙ second_step may name l t h p of.0)

number_asks : (pending s : Bool) → s ≡ true → ((pending && false) || s) ≡ true
number_asks false s e = e
number_asks true s e = e

number_step : (name : Text) (t : Text) (h : Held) → Settles OptionsAndNumber h → step_passes (shape OptionsAndNumber name) 1
    (plain_word (shape OptionsAndNumber name).rules idle t h).0
    (plain_word (shape OptionsAndNumber name).rules idle t h).1 ≡ true
unfolding clap_on_literals
number_step name t h s = number_asks (is_pending built_number h.pending) (settle_passes (built_rules OptionsAndNumber) false h) s

pub turn_number : (name : Text) (t : Text) (h : Held) → IsPlainWord t → Settles OptionsAndNumber h
    → turn_passes (shape OptionsAndNumber name) [] (between h 1) t ≡ true
turn_number name t h plain s = ap₂ (λ a b. a && b) (plain_passes OptionsAndNumber name idle t h plain)
    (ap (λ (m : Held × Step). step_passes (shape OptionsAndNumber name) 1 m.0 m.1)
    (met (shape OptionsAndNumber name).rules idle 1 t h plain)
    ∙ number_step name t h s)

-- ---- the settled rows if a use waits

pub rows_of_value : (may : Follows) (part : Part) (h : Held) → may_follow may part ≡ true
    → rows_in may (with_value may part h) ≡ set_row part (rows_in may h)
unfolding clap_on_literals
rows_of_value Nothing part h e = absurd (true≢false (sym e))
rows_of_value Options (apart MaxRules t) h e = refl
rows_of_value Options (apart MaxLength t) h e = refl
rows_of_value OptionsAndNumber (apart MaxRules t) h e = refl
rows_of_value OptionsAndNumber (apart MaxLength t) h e = refl
rows_of_value Options (joined MaxRules t) h e = refl
rows_of_value Options (joined MaxLength t) h e = refl
rows_of_value OptionsAndNumber (joined MaxRules t) h e = refl
rows_of_value OptionsAndNumber (joined MaxLength t) h e = refl
rows_of_value Options (number t) h e = absurd (true≢false (sym e))
rows_of_value OptionsAndNumber (number t) h e = refl
rows_of_value Options trace h e = refl
rows_of_value OptionsAndNumber trace h e = refl

pub settles_value : (may : Follows) (l : Limit) (t : Text) (h : Held) → may_follow may (apart l t) ≡ true → IsNew may (apart l t) h
    → Settles may (with_value may (apart l t) h)
unfolding clap_on_literals
settles_value Nothing l t h e n = absurd (true≢false (sym e))
settles_value Options MaxRules t h e n = rw n refl
settles_value Options MaxLength t h e n = rw n refl
settles_value OptionsAndNumber MaxRules t h e n = rw n refl
settles_value OptionsAndNumber MaxLength t h e n = rw n refl

pub settles_number : (t : Text) (h : Held) → IsNew OptionsAndNumber (number t) h
    → Settles OptionsAndNumber (with_value OptionsAndNumber (number t) h)
unfolding clap_on_literals
settles_number t h n = rw n refl

pub on_shape : (may : Follows) (name : Text) (w next : Walk) (word : Text) → walked (built_rules may) [] w word ≡ next
    → walked (shape may name).rules [] w word ≡ next
on_shape may name w next word e = ap (λ c. walked c [] w word) (same_rules may name) ∙ e
