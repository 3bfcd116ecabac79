use Rattle.std.proofs.Common.{◌≡◌, ◌++◌, drop, map}
use Rattle.swreq_machine.specs.swreq_symbols.Meaning.{symbols_of}
use Rattle.swreq_explain.specs.Numbering.{AreBasic, sides_of}
use Rattle.swreq_machine.specs.swreq_rounds.Given.{named_from}
use Rattle.swreq_explain.proofs.equations.add_protocol.Given as goal

abbrev pub invariant-loop-rank : goal.invariant-loop-rank
invariant-loop-rank l = record {
  basic : AreBasic l.world.lexicon.symbols l.given.items;
  sides : map sides_of l.given.items ++ named_from l.p l.rank (drop l.rank (symbols_of l.world.lexicon).members)
      ≡ map sides_of l.initial.given.items ++ named_from l.p 0 (symbols_of l.world.lexicon).members;
}
