use Rattle.std.proofs.Common.{rules, ◌≡◌, ◌∙◌, ◌||◌, false, ap}
use Rattle.std.proofs.lemmas.Result.{IfOk-weaker}
use Rattle.std.proofs.Math.Bool.{or-false}
use Rattle.clap.specs.Words.{app_of, rule_of, with_rule}
use Rattle.clap.specs.declared.builder.arg.Arg.{Arg}
use Rattle.clap.specs.declared.builder.command.Command.TheViews.{out-Command}
use Rattle.swreq_words.specs.Taken.{number_rule}
use Rattle.swreq_words.proofs.parse.with_number.Goals as goal

pub returns : goal.returns
returns c =
    let is : rule_of c.required-number.result ≡ number_rule = search rules in
    let local : (c.required-number.result).global ≡ false =
    ap (λ (a : Arg). a.global) c.required-number.ensures ∙ c.new.ensures.optional.1 in
    record {
      app = IfOk-weaker c.arg.result _ _ (λ r h. h.shape local ∙ ap (with_rule (app_of c.args.command)) is) c.arg.ensures;
      globals = IfOk-weaker c.arg.result _ _
          (λ r h. h.globals ∙ ap (λ b. (out-Command c.args.command).has_globals || b) local ∙ or-false _) c.arg.ensures;
    }
