use Rattle.std.proofs.Common.{◌∙◌, ap, get_or, sym, rules}
use Rattle.std.proofs.lemmas.List.Sums.{fold_more}
use Rattle.swreq_words.specs.declared.command.TheConstants.{COMMANDS}
use Rattle.swreq_words.specs.Taken.{bare, with_leaf}
use Rattle.swreq_words.proofs.Each.{first}
use Rattle.swreq_words.proofs.parse.genreq.Goals as goal

pub loop-of-preserved : goal.loop-of-preserved
loop-of-preserved c =
    c.in_ok-command.ensures ∙ ap (λ a. with_leaf a (get_or COMMANDS c.loop-of.of-index first)) c.loop-of.invariant
    ∙ sym (fold_more with_leaf bare COMMANDS c.loop-of.of-index first (search rules))
