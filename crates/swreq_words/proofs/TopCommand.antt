-- The command takes the words of a command and its parts, and this is what it finds in them.
use Rattle.std.proofs.Common.{ap, ap₂, refl, sym, codes, true, false, Bool, map, fold, ◌&&◌, if◌then◌else◌, option_map, true≢false, subst, find, is_some, List, Some, [], ◌∷◌, ◌++◌, ◌≡◌, ◌∙◌}
use Rattle.std.specs.Str.{bytes_eq}
use Rattle.std.specs.Option.{option_map_or}
use Rattle.std.specs.List.{list_all, flat_map}
use Rattle.std.proofs.lemmas.List.{append_assoc, append-nil}
use Rattle.std.proofs.lemmas.Bool.{and_from}
use Rattle.clap.specs.Words.{Row, Rule, is_simple, takes, built, subcommand_of}
use Rattle.clap.specs.Simple.{Shape, names_of, label_of, entered, rows_at}
use Rattle.clap.specs.Facts.{explicit_source}
use Rattle.clap.specs.Walk.{Walk, walk, walked, walk_from, answers_to, has_row, nothing_held, finished, rows_after, with_values, more_values}
use Rattle.clap.specs.Values.{reading_of}
use Rattle.clap.specs.declared.builder.value_parser.ValueParser.TheVariants as vp
use Rattle.clap.specs.declared.parser.matches.ValueSource.TheVariants.{DefaultValue}
use Rattle.clap.specs.Takes.{walk_passes, turn_passes, settle_passes, level_passes, entered_passes, default_passes, is_valid, is_given}
use Rattle.clap.proofs.OnLiterals.{clap_on_literals}
use Rattle.swreq_words.specs.declared.command.Command.{Command}
use Rattle.swreq_words.specs.declared.command.Follows.{Follows}
use Rattle.swreq_words.specs.declared.command.Follows.TheVariants.{Nothing, Options, OptionsAndNumber}
use Rattle.swreq_words.specs.Form.{Text, Part, words_of}
use Rattle.swreq_words.specs.Commands.{follows, word_of}
use Rattle.swreq_words.specs.Taken.{genreq}
use Rattle.swreq_words.proofs.Each.{alike}
use Rattle.swreq_words.proofs.Walks.{shape, row_of, between, built_rules, same_rules, rows_in, Settles}
use Rattle.swreq_words.proofs.Parts.{added, AreOf, AreNew, gone, with_trace, no_trace, finished_as}

-- ---- the row of the trace

-- the row that is added at the end
abbrev pub trace_row : Follows → List Row → List Row
trace_row Nothing rows = []
trace_row _ rows = if has_row (codes "trace") rows then [] else no_trace ∷ []

trace_if : (rows : List Row) (b : Bool) → has_row (codes "trace") rows ≡ b
    → (if b then rows else with_values (codes "trace") (reading_of vp.Bool) DefaultValue (codes "false" ∷ []) rows)
    ≡ rows ++ (if b then [] else no_trace ∷ [])
trace_if rows true e = sym (append-nil rows)
trace_if rows false e = added (codes "trace") (more_values DefaultValue (codes "false" ∷ [])) no_trace rows e

trace_added : (may : Follows) (rows : List Row) → with_trace may rows ≡ rows ++ trace_row may rows
trace_added Nothing rows = sym (append-nil rows)
trace_added Options rows = trace_if rows (has_row (codes "trace") rows) refl
trace_added OptionsAndNumber rows = trace_if rows (has_row (codes "trace") rows) refl

given_if : (b : Bool) (x : Row) (xs ys : List Row) (id : Text) → (is_given id xs ≡ true → is_given id ys ≡ true)
    → option_map_or (λ (r : Row). explicit_source r.source) (if b then Some x else find (λ r. bytes_eq r.id id) xs) false ≡ true
    → option_map_or (λ (r : Row). explicit_source r.source) (if b then Some x else find (λ r. bytes_eq r.id id) ys) false ≡ true
given_if true x xs ys id more e = e
given_if false x xs ys id more e = more e

given_on : (id : Text) (rows more : List Row) → is_given id rows ≡ true → is_given id (rows ++ more) ≡ true
given_on id [] more e = absurd (true≢false (sym e))
given_on id (x ∷ xs) more e = given_if (bytes_eq x.id id) x xs (xs ++ more) id (given_on id xs more) e

-- ---- the words after the first

-- the number is there if the command takes one
abbrev pub HasNumber : Follows → List Part → Type 0
HasNumber may ps = may ≡ OptionsAndNumber → is_given (codes "number") (map row_of ps) ≡ true

-- the rows of a command after these parts
abbrev pub rows_of_parts : Follows → List Part → List Row
rows_of_parts may ps = map row_of ps ++ trace_row may (map row_of ps)

defaults_pass : (may : Follows) → list_all default_passes (built_rules may) ≡ true
defaults_pass Nothing = refl
defaults_pass Options = refl
defaults_pass OptionsAndNumber = refl

valid_at : (may : Follows) (name : Text) (rows : List Row) → (may ≡ OptionsAndNumber → is_given (codes "number") rows ≡ true)
    → is_valid (shape may name) rows false ≡ true
valid_at Nothing name rows e = refl
valid_at Options name rows e = refl
valid_at OptionsAndNumber name rows e = rw (e refl) refl

nothing_yet : (may : Follows) → [] ≡ rows_in may nothing_held
nothing_yet Nothing = refl
nothing_yet Options = refl
nothing_yet OptionsAndNumber = refl

nothing_settles : (may : Follows) → Settles may nothing_held
nothing_settles Nothing = refl
nothing_settles Options = refl
nothing_settles OptionsAndNumber = refl

same_again : (may : Follows) (name : Text) → (shape may name).args_override_self ≡ false
same_again Nothing name = refl
same_again Options name = refl
same_again OptionsAndNumber name = refl

-- the test at the end of the words, by these rules
abbrev end_passes : List Rule → Bool → Shape → Walk → Bool
end_passes c again s w = settle_passes c again w.held && (list_all default_passes c && is_valid s (finished c w.held) false)

abbrev run_by : List Rule → List Text → Walk
run_by c words = fold (walked c []) (between nothing_held 1) words

record Leaf (may : Follows) (name : Text) (ps : List Part) : Type 0 where
  pub passes : level_passes (shape may name) [] nothing_held (flat_map words_of ps) false ≡ true
  pub rows : rows_after (shape may name).rules [] (flat_map words_of ps) ≡ rows_of_parts may ps

leaf_at : (may : Follows) (name : Text) (ps : List Part) → AreOf may ps → AreNew [] ps → HasNumber may ps → Leaf may name ps
leaf_at may name ps of new has_number =
    let words = flat_map words_of ps in
    let all = gone may name ps nothing_held 1 of (subst (λ rs. AreNew rs ps) (nothing_yet may) new) (nothing_settles may) (λ _. refl) in
    let end : finished (built_rules may) all.held ≡ rows_of_parts may ps =
    finished_as may all.held ∙ ap (with_trace may) (all.rows ∙ ap (λ rs. rs ++ map row_of ps) (sym (nothing_yet may)))
    ∙ trace_added may (map row_of ps) in
    record {
      passes = and_from _ _ all.passes
          (ap₂ (λ c again. end_passes c again (shape may name) (run_by c words)) (same_rules may name) (same_again may name)
          ∙ ap (λ (w : Walk). end_passes (built_rules may) false (shape may name) w) all.moves
          ∙ and_from _ _ all.settles (and_from _ _ (defaults_pass may)
          (ap (λ rs. is_valid (shape may name) rs false) end
          ∙ valid_at may name (rows_of_parts may ps)
          (λ e. given_on (codes "number") (map row_of ps) (trace_row may (map row_of ps)) (has_number e)))));
      rows = ap (λ c. finished c (run_by c words).held) (same_rules may name)
          ∙ ap (λ (w : Walk). finished (built_rules may) w.held) all.moves ∙ end;
    }

-- ---- the first word, and the top command

abbrev top_names : List (Text × List Text)
top_names = names_of (built genreq)

abbrev top_shape : Shape
top_shape = (built genreq).top

simple : is_simple genreq ≡ true
unfolding clap_on_literals
simple = refl

-- the walk has met a subcommand
abbrev met_at : Text → List Text → Walk
met_at name words = record (between nothing_held 1) { stopped = Some (name, words) }

stays : (name : Text) (so_far words : List Text)
    → fold (walked top_shape.rules top_names) (met_at name so_far) words ≡ met_at name (so_far ++ words)
unfolding walked
stays name so_far [] = ap (met_at name) (sym (append-nil so_far))
stays name so_far (w ∷ ws) = stays name (so_far ++ w ∷ []) ws ∙ ap (met_at name) (append_assoc so_far (w ∷ []) ws)

stays_passes : (name : Text) (so_far words : List Text) → walk_passes top_shape top_names (met_at name so_far) words ≡ true
unfolding walk_passes walked
stays_passes name so_far [] = refl
stays_passes name so_far (w ∷ ws) = stays_passes name (so_far ++ w ∷ []) ws

top_passes : (name : Text) (ws : List Text) → walked top_shape.rules top_names (between nothing_held 1) name ≡ met_at name []
    → turn_passes top_shape top_names (between nothing_held 1) name ≡ true
    → walk_passes top_shape top_names (walk_from nothing_held) (name ∷ ws) ≡ true
unfolding walk_passes
top_passes name ws step turn = and_from _ _ turn (ap (λ (w : Walk). walk_passes top_shape top_names w ws) step ∙ stays_passes name [] ws)

step_of : (n : Command) → walked top_shape.rules top_names (between nothing_held 1) (word_of n) ≡ met_at (word_of n) []
unfolding clap_on_literals
step_of = alike (λ n. walked top_shape.rules top_names (between nothing_held 1) (word_of n)) (λ n. met_at (word_of n) []) refl

turn_of : (n : Command) → turn_passes top_shape top_names (between nothing_held 1) (word_of n) ≡ true
unfolding clap_on_literals
turn_of = alike (λ n. turn_passes top_shape top_names (between nothing_held 1) (word_of n)) (λ n. true) refl

found_of : (n : Command) → find (λ s. answers_to (word_of n) (label_of s)) (built genreq).subs ≡ Some (shape (follows n) (word_of n))
found_of = alike (λ n. find (λ s. answers_to (word_of n) (label_of s)) (built genreq).subs) (λ n. Some (shape (follows n) (word_of n))) refl

name_of_shape : (may : Follows) (name : Text) → (shape may name).name ≡ name
name_of_shape Nothing name = refl
name_of_shape Options name = refl
name_of_shape OptionsAndNumber name = refl

pub record Taken (n : Command) (ps : List Part) : Type 0 where
  pub takes_words : takes genreq (word_of n ∷ flat_map words_of ps) ≡ true
  pub finds : subcommand_of genreq (word_of n ∷ flat_map words_of ps) ≡ Some (word_of n, rows_of_parts (follows n) ps)

pub simple_command : is_simple genreq ≡ true
simple_command = simple

pub taken : (n : Command) (ps : List Part) → AreOf (follows n) ps → AreNew [] ps → HasNumber (follows n) ps → Taken n ps
taken n ps of new has_number =
    let name = word_of n in
    let s = shape (follows n) name in
    let ws = flat_map words_of ps in
    let leaf = leaf_at (follows n) name ps of new has_number in
    let end : walk top_shape.rules top_names nothing_held (name ∷ ws) ≡ met_at name ws =
    ap (λ (w : Walk). fold (walked top_shape.rules top_names) w ws) (step_of n) ∙ stays name [] ws in
    record {
      takes_words = and_from _ _ simple
          (and_from _ _
          (ap (λ (w : Walk). entered_passes (built genreq) w.stopped) end
          ∙ ap (λ o. option_map_or (λ s. level_passes s [] nothing_held ws false) o true) (found_of n) ∙ leaf.passes)
          (and_from _ _ (top_passes name ws (step_of n) (turn_of n))
          (ap (λ (w : Walk). settle_passes top_shape.rules top_shape.args_override_self w.held && (list_all default_passes top_shape.rules
          && is_valid top_shape (finished top_shape.rules w.held) (is_some (entered (built genreq) w.stopped)))) end
          ∙
          ap (λ o. is_valid top_shape (finished top_shape.rules nothing_held) (is_some (option_map (λ s. rows_at s ws) o))) (found_of n))));
      finds = ap (λ (w : Walk). entered (built genreq) w.stopped) end ∙ ap (option_map (λ s. rows_at s ws)) (found_of n)
          ∙ ap₂ (λ a b. Some (a, b)) (name_of_shape (follows n) name) leaf.rows;
    }
