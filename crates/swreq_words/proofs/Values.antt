-- What the rows of parts say.
use Rattle.std.proofs.Common.{ap, refl, sym, codes, true, false, Bool, map, not, ◌||◌, if◌then◌else◌, option_and_then, true≢false, find, slice_get, List, Option, Some, None, [], ◌∷◌, ◌++◌, ◌≡◌, ◌∙◌}
use Rattle.std.specs.Str.{bytes_eq}
use Rattle.std.specs.Option.{option_map_or}
use Rattle.std.specs.List.{list_any}
use Rattle.std.proofs.lemmas.Bool.{and_parts, not-true}
use Rattle.clap.specs.Words.{Row, first_of}
use Rattle.clap.specs.Facts.{explicit_source}
use Rattle.clap.specs.Walk.{has_row}
use Rattle.clap.specs.Takes.{is_given}
use Rattle.swreq_words.specs.declared.command.Follows.{Follows}
use Rattle.swreq_words.specs.declared.command.Follows.TheVariants.{Nothing, Options, OptionsAndNumber}
use Rattle.swreq_words.specs.declared.limits.Limit.TheVariants.{MaxRules, MaxLength}
use Rattle.swreq_words.specs.Form.{Text, Part, apart, joined, trace, number, sets, is_each_once, is_set, text_set, text_of}
use Rattle.swreq_words.specs.Found.{is_true}
use Rattle.swreq_words.proofs.Walks.{row_of}
use Rattle.swreq_words.proofs.Parts.{AreNew, no_trace}
use Rattle.swreq_words.proofs.TopCommand.{trace_row, rows_of_parts}

-- ---- no row is there twice

or_last : (a b c : Bool) → (a || (b || c)) ≡ (b || (a || c))
or_last true true c = refl
or_last true false c = refl
or_last false b c = refl

row_last : (id : Text) (rows : List Row) (r : Row) → has_row id (rows ++ r ∷ []) ≡ (bytes_eq r.id id || has_row id rows)
row_last id [] r = refl
row_last id (x ∷ xs) r = ap (λ b. bytes_eq x.id id || b) (row_last id xs r) ∙ or_last (bytes_eq x.id id) (bytes_eq r.id id) (has_row id xs)

-- the rows are those of what was set before
abbrev AreOfThese : List Row → List Text → Type 0
AreOfThese rows before = (id : Text) → has_row id rows ≡ list_any (λ other. bytes_eq other id) before

pub are_new : (rows : List Row) (before : List Text) (parts : List Part) → AreOfThese rows before
    → is_each_once before parts ≡ true → AreNew rows parts
are_new rows before [] same once = tt
are_new rows before (p ∷ ps) same once =
    let o = and_parts (not (list_any (λ other. bytes_eq other (sets p)) before)) (is_each_once (sets p ∷ before) ps) once in (
      same (sets p) ∙ not-true _ o.0,
      are_new (rows ++ row_of p ∷ []) (sets p ∷ before) ps
          (λ id. row_last id rows (row_of p) ∙ ap (λ b. bytes_eq (sets p) id || b) (same id)) o.1,
    )

-- ---- what is set

given_if : (b : Bool) (x : Row) (rest : Option Row) (set : Bool) → explicit_source x.source ≡ true
    → (set ≡ true → option_map_or (λ (r : Row). explicit_source r.source) rest false ≡ true) → (b || set) ≡ true
    → option_map_or (λ (r : Row). explicit_source r.source) (if b then Some x else rest) false ≡ true
given_if true x rest set explicit more e = explicit
given_if false x rest set explicit more e = more e

pub given : (what : Text) (ps : List Part) → is_set what ps ≡ true → is_given what (map row_of ps) ≡ true
given what [] e = absurd (true≢false (sym e))
given what (p ∷ ps) e =
    given_if (bytes_eq (sets p) what) (row_of p) (find (λ r. bytes_eq r.id what) (map row_of ps)) (is_set what ps) refl (given what ps) e

abbrev value : Row → Option Text
value r = slice_get r.values 0

found_if : (b : Bool) (x : Row) (t : Text) (rest : Option Row) (text : Option Text) → (b ≡ true → value x ≡ Some t)
    → option_and_then value rest ≡ text
    → option_and_then value (if b then Some x else rest) ≡ (if b then Some t else text)
found_if true x t rest text here more = here refl
found_if false x t rest text here more = more

-- the value of a part other than the trace is its text
value_is : (what : Text) (p : Part) → bytes_eq (codes "trace") what ≡ false → bytes_eq (sets p) what ≡ true
    → value (row_of p) ≡ Some (text_of p)
value_is what (apart l t) differs e = refl
value_is what (joined l t) differs e = refl
value_is what (number t) differs e = refl
value_is what trace differs e = absurd (true≢false (sym e ∙ differs))

text_found : (what : Text) (ps : List Part) (last : List Row) → bytes_eq (codes "trace") what ≡ false → first_of what last ≡ None
    → first_of what (map row_of ps ++ last) ≡ text_set what ps
text_found what [] last differs none = none
text_found what (p ∷ ps) last differs none =
    found_if (bytes_eq (sets p) what) (row_of p) (text_of p) (find (λ r. bytes_eq r.id what) (map row_of ps ++ last)) (text_set what ps)
    (value_is what p differs) (text_found what ps last differs none)

last_if : (what : Text) (b : Bool) → bytes_eq (codes "trace") what ≡ false → first_of what (if b then [] else no_trace ∷ []) ≡ None
last_if what true differs = refl
last_if what false differs = ap (λ b. option_and_then value (if b then Some no_trace else None)) differs

last_none : (what : Text) (may : Follows) (rows : List Row) → bytes_eq (codes "trace") what ≡ false
    → first_of what (trace_row may rows) ≡ None
last_none what Nothing rows differs = refl
last_none what Options rows differs = last_if what (has_row (codes "trace") rows) differs
last_none what OptionsAndNumber rows differs = last_if what (has_row (codes "trace") rows) differs

-- the text that is found for anything but the trace is the text that the parts set
pub found : (what : Text) (may : Follows) (ps : List Part) → bytes_eq (codes "trace") what ≡ false
    → first_of what (rows_of_parts may ps) ≡ text_set what ps
found what may ps differs = text_found what ps (trace_row may (map row_of ps)) differs (last_none what may (map row_of ps) differs)

-- ---- the trace

has_row_is : (what : Text) (ps : List Part) → has_row what (map row_of ps) ≡ is_set what ps
has_row_is what [] = refl
has_row_is what (p ∷ ps) = ap (λ b. bytes_eq (sets p) what || b) (has_row_is what ps)

trace_there : (ps : List Part) (last : List Row) → is_set (codes "trace") ps ≡ true
    → is_true (first_of (codes "trace") (map row_of ps ++ last)) ≡ true
trace_there [] last e = absurd (true≢false (sym e))
trace_there (trace ∷ ps) last e = refl
trace_there (apart MaxRules t ∷ ps) last e = trace_there ps last e
trace_there (apart MaxLength t ∷ ps) last e = trace_there ps last e
trace_there (joined MaxRules t ∷ ps) last e = trace_there ps last e
trace_there (joined MaxLength t ∷ ps) last e = trace_there ps last e
trace_there (number t ∷ ps) last e = trace_there ps last e

trace_away : (ps : List Part) (last : List Row) → is_set (codes "trace") ps ≡ false → is_true (first_of (codes "trace") last) ≡ false
    → is_true (first_of (codes "trace") (map row_of ps ++ last)) ≡ false
trace_away [] last e none = none
trace_away (trace ∷ ps) last e none = absurd (true≢false e)
trace_away (apart MaxRules t ∷ ps) last e none = trace_away ps last e none
trace_away (apart MaxLength t ∷ ps) last e none = trace_away ps last e none
trace_away (joined MaxRules t ∷ ps) last e none = trace_away ps last e none
trace_away (joined MaxLength t ∷ ps) last e none = trace_away ps last e none
trace_away (number t ∷ ps) last e none = trace_away ps last e none

last_trace_if : (b : Bool) → is_true (first_of (codes "trace") (if b then [] else no_trace ∷ [])) ≡ false
last_trace_if true = refl
last_trace_if false = refl

last_trace : (may : Follows) (rows : List Row) → is_true (first_of (codes "trace") (trace_row may rows)) ≡ false
last_trace Nothing rows = refl
last_trace Options rows = last_trace_if (has_row (codes "trace") rows)
last_trace OptionsAndNumber rows = last_trace_if (has_row (codes "trace") rows)

trace_by : (may : Follows) (ps : List Part) (b : Bool) → is_set (codes "trace") ps ≡ b
    → is_true (first_of (codes "trace") (rows_of_parts may ps)) ≡ b
trace_by may ps true e = trace_there ps (trace_row may (map row_of ps)) e
trace_by may ps false e = trace_away ps (trace_row may (map row_of ps)) e (last_trace may (map row_of ps))

pub trace_found : (may : Follows) (ps : List Part) → is_true (first_of (codes "trace") (rows_of_parts may ps)) ≡ is_set (codes "trace") ps
trace_found may ps = trace_by may ps (is_set (codes "trace") ps) refl
