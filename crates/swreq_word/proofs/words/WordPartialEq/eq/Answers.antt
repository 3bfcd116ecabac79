use Rattle.std.proofs.Common.{◌∙◌}
use Rattle.std.specs.Cmp.Lexicographic.{pointwise}
use Rattle.swreq_word.specs.contracts.symbols.SymbolPartialEq.TheImpl as eq-impl
use Rattle.swreq_word.proofs.Comparing.{symbols_equal}
use Rattle.swreq_word.proofs.words.WordPartialEq.eq.Goals as goal

pub returns : goal.returns
returns c =
    c.eq.ensures ∙ (λ i. pointwise eq-impl.eq-value.it (c.symbols.ensures i) (c.symbols-2.ensures i))
    ∙ symbols_equal c.args.self.now c.args.other.now
