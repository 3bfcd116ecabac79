use Rattle.std.proofs.Common.{◌≡◌, ◌++◌, drop, map}
use Rattle.swreq_machine.specs.swreq_symbols.Meaning.{symbols_of}
use Rattle.swreq_explain.specs.Numbering.{AreBasic, sides_of}
use Rattle.swreq_machine.specs.swreq_rounds.Given.{basic_equations, basic_of}
use Rattle.swreq_explain.proofs.equations.basic.Given as goal

abbrev pub invariant-loop-k : goal.invariant-loop-k
invariant-loop-k l = record {
  basic : AreBasic l.makings.text.world.now.lexicon.symbols l.given.items;
  sides : map sides_of l.given.items ++ basic_of (symbols_of l.makings.text.world.now.lexicon)
      (drop l.k l.makings.text.world.now.lexicon.written_order)
      ≡ basic_equations (symbols_of l.makings.text.world.now.lexicon);
}
