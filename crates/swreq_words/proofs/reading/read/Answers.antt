use Rattle.std.proofs.Common.{◌≡◌, ◌∙◌, Err, IfSome, map, string_bytes, sym, ap, rules, subst}
use Rattle.std.proofs.lemmas.Result.{err_from_is_err_and}
use Rattle.clap.specs.Words.{subcommand_of, subcommand_rows_of}
use Rattle.swreq_words.specs.declared.reading.UsageErr.TheVariants.{Memory}
use Rattle.swreq_words.specs.Found.{HasLimits, line_found}
use Rattle.swreq_words.specs.Taken.{genreq}
use Rattle.swreq_words.proofs.Lines.{IsUsage, limits_found, ok_found, usage_found, usage_memory, usage_without}
use Rattle.swreq_words.proofs.reading.read.Goals as goal

pub returns-then-not-has_form-clause-usage : goal.returns-then-not-has_form-clause-usage
returns-then-not-has_form-clause-usage c =
    usage_without (map string_bytes c.args.words.now) (sym c.has_form.ensures ∙ c.if-not-has_form.true)

pub returns-in_err-matches-clause-usage : goal.returns-in_err-matches-clause-usage
returns-in_err-matches-clause-usage c =
    let memory : c.in_err-matches.field-0.0 ≡ Memory = search rules in
    let failed = err_from_is_err_and c.from_residual.result c.from_residual.ensures.1 in
    subst (IsUsage (map string_bytes c.args.words.now)) (sym (failed.1 ∙ ap Err (search (rules, failed, memory))))
    (usage_memory (map string_bytes c.args.words.now) (sym c.has_form.ensures ∙ c.if-not-has_form.false))

pub line_found-requires : goal.line_found-requires
line_found-requires c =
    let found : subcommand_rows_of c.in_ok-matches.matches ≡ subcommand_of genreq (map string_bytes c.args.words.now) = search rules in
    subst (λ o. IfSome o (λ found. HasLimits found.1)) (sym found)
    (limits_found (map string_bytes c.args.words.now) (sym c.has_form.ensures ∙ c.if-not-has_form.false))

pub returns-clause-ok : goal.returns-clause-ok
returns-clause-ok c =
    let found : subcommand_rows_of c.in_ok-matches.matches ≡ subcommand_of genreq (map string_bytes c.args.words.now) = search rules in
    ok_found (map string_bytes c.args.words.now) c.ok_or.result c.line_found.result
    (sym c.has_form.ensures ∙ c.if-not-has_form.false) c.ok_or.ensures.value (c.line_found.ensures ∙ ap line_found found)

pub returns-clause-usage : goal.returns-clause-usage
returns-clause-usage c =
    let found : subcommand_rows_of c.in_ok-matches.matches ≡ subcommand_of genreq (map string_bytes c.args.words.now) = search rules in
    usage_found (map string_bytes c.args.words.now) c.ok_or.result c.line_found.result
    (sym c.has_form.ensures ∙ c.if-not-has_form.false) c.ok_or.ensures.value (c.line_found.ensures ∙ ap line_found found)
