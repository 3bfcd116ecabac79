use Rattle.std.proofs.Common.{◌∙◌, ap, map, string_bytes}
use Rattle.std.proofs.lemmas.Result.{IfErr-weaker, IfOk-weaker}
use Rattle.clap.specs.Words.{takes, App, is_simple, subcommand_of}
use Rattle.swreq_words.proofs.TopCommand.{simple_command}
use Rattle.swreq_words.proofs.parse.matches_of.Goals as goal

pub returns : goal.returns
returns c =
    let words = map string_bytes c.args.words.now in
    record {
      found = IfOk-weaker c.try_get_matches_from.result _ _ (λ m h. (h (ap is_simple c.in_ok-command.ensures ∙ simple_command)).1
          ∙ ap (λ (a : App). subcommand_of a words) c.in_ok-command.ensures) c.try_get_matches_from.ensures.matches;
      memory = IfErr-weaker c.try_get_matches_from.result _ _
          (λ e h t. h (ap (λ (a : App). takes a words) c.in_ok-command.ensures ∙ t)) c.try_get_matches_from.ensures.passes;
    }
