use Rattle.std.proofs.Common.{subst}
use Rattle.std.proofs.lemmas.List.{take_all}
use Rattle.swreq_map.specs.Follows.{AreConforming}
use Rattle.swreq_map.proofs.map.conforming.Goals as goal

pub returns-clause-found : goal.returns-clause-found
returns-clause-found c =
    subst (λ xs. AreConforming c.args.class.now.rules.now c.args.class.now.protocols c.args.class.now.word.now xs c.loop-k.found.items)
    (take_all c.loop-k.k c.args.symbols.now c.loop-k-test.false)
    c.loop-k.invariant.found
