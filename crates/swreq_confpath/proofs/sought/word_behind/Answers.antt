use Rattle.std.proofs.Common.{◌∙◌, sym, subst}
use Rattle.swreq_machine.specs.swreq_symbols.Texts.{term_of}
use Rattle.swreq_machine.specs.swreq_symbols.Vanishing.{IsLeastBy}
use Rattle.swreq_machine.specs.swreq_valid.Rounds.{last_rules}
use Rattle.swreq_confpath.proofs.Standing.{next_word}
use Rattle.swreq_confpath.proofs.sought.word_behind.Goals as goal

pub least-requires : goal.least-requires
least-requires c =
    subst (λ z. IsLeastBy z c.symbols-2.result.now) (sym c.rules.ensures)
    (subst (IsLeastBy (last_rules c.args.sought.now.machine.now.rounds)) (sym c.symbols-2.ensures) c.requires.base)

pub returns : goal.returns
returns c u h =
    next_word c.args.sought.now c.args.owner u
    (term_of c.args.sought.now.text c.args.t) c.in_ok-word.word c.behind_first-steps.result.now c.args.base.now
    c.symbols-2.result.now c.rules.result.now c.least.result c.in_ok-word.ensures.right
    (λ x ys e. c.behind_first-steps.ensures x ys (c.symbols.ensures ∙ e))
    c.symbols-2.ensures c.rules.ensures c.least.ensures.linked c.least.ensures.least h
