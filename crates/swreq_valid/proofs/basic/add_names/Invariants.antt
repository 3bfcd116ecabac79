use Rattle.std.proofs.Common.{◌++◌}
use Rattle.swreq_rounds.specs.Given.{named_from}
use Rattle.swreq_symbols.specs.Meaning.{symbols_of}
use Rattle.swreq_valid.proofs.Naming.{AreNamedTo}
use Rattle.swreq_valid.proofs.basic.add_names.Given as goal

abbrev pub invariant-loop-rank : goal.invariant-loop-rank
invariant-loop-rank l =
    AreNamedTo l.world.lexicon l.protocol (l.initial.equations.items ++ named_from l.protocol 0 (symbols_of l.world.lexicon).members)
    l.equations.items l.rank
