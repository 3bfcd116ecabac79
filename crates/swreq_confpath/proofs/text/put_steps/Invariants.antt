use Rattle.std.proofs.Common.{◌≡◌, ◌++◌, drop}
use Rattle.swreq_machine.specs.swreq_lexicon.Views.{IsProtocol}
use Rattle.swreq_machine.specs.swreq_world.FactsAt.{facts_of}
use Rattle.swreq_confpath.specs.Numbers.{AreNumbersBehind, steps_text}
use Rattle.swreq_machine.specs.swreq_symbols.Texts.{world_of}
use Rattle.swreq_confpath.proofs.text.put_steps.Given as goal

-- what is written so far and what is left are all
abbrev pub invariant-loop-k : goal.invariant-loop-k
invariant-loop-k l = record {
  proto : IsProtocol l.text.world.now.lexicon l.at;
  left : AreNumbersBehind (facts_of (world_of l.text)) l.at (drop l.k l.steps);
  text : l.out.items ++ steps_text l.text.world.now.lexicon (facts_of (world_of l.text)) l.at (drop l.k l.steps)
      ≡ l.initial.out.items ++ steps_text l.text.world.now.lexicon (facts_of (world_of l.text)) l.fn.proto l.steps;
}
