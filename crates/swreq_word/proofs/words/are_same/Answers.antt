use Rattle.std.specs.Cmp.Lexicographic.{pointwise}
use Rattle.std.proofs.lemmas.Bool.Decides.{Decides-at}
use Rattle.swreq_word.specs.contracts.symbols.SymbolPartialEq.TheImpl as eq-impl
use Rattle.swreq_word.proofs.Comparing.{symbols_decide}
use Rattle.swreq_word.proofs.words.are_same.Goals as goal

pub returns : goal.returns
returns c =
    Decides-at c.eq.result (pointwise eq-impl.eq-value.it c.args.u.now c.args.v.now) c.eq.ensures (symbols_decide c.args.u.now c.args.v.now)
