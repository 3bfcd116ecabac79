use Rattle.std.proofs.Common.{subst₂, ◌↔◌, IsTrue}
use Rattle.std.specs.Bool.{OnTrue}
use Rattle.swreq_valid.specs.swreq_param.Tables.{term_at}
use Rattle.swreq_valid.specs.swreq_correspondence.Shown.{ShowsValid}
use Rattle.swreq_valid.specs.swreq_correspondence.Symbols.{word_of}
use Rattle.swreq_valid.specs.swreq_symbols.Meaning.{facts_of, symbols_of}
use Rattle.swreq_valid.specs.swreq_symbols.Overs.{source_over}
use Rattle.swreq_valid.specs.swreq_symbols.declared.over.Over.TheVariants.{Signature}
use Rattle.swreq_valid.specs.swreq_symbols.Vanishing.{IsLeastBy, Links}
use Rattle.swreq_machine.proofs.Answering.{on_true}
use Rattle.swreq_valid.specs.swreq_symbols.Texts.{world_of}
use Rattle.swreq_machine.proofs.machine.Machine.walk.Goals as goal

pub returns-clause-valid : goal.returns-clause-valid
returns-clause-valid c =
    let w = world_of c.args.text.now in
    subst₂ (λ r p. IsTrue c.least_word.result
    ↔ ShowsValid (symbols_of w.lexicon) (facts_of w) (source_over (Signature p)) (Links r)
    (term_at c.args.text.now.table.now c.args.subject))
    c.rules.ensures c.params.ensures c.least_word.ensures.valid

pub returns-clause-least : goal.returns-clause-least
returns-clause-least c =
    let w = world_of c.args.text.now in
    subst₂ (λ r p. OnTrue c.least_word.result (IsLeastBy r c.least_word.new.word.items
    × Links r (word_of (symbols_of w.lexicon) (source_over (Signature p)) (term_at c.args.text.now.table.now c.args.subject))
    c.least_word.new.word.items))
    c.rules.ensures c.params.ensures
    (on_true c.least_word.result (λ read. (read.least, read.linked)) c.least_word.ensures.read)
