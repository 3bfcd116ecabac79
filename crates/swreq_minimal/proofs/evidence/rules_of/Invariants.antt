use Rattle.std.proofs.Common.{[]}
use Rattle.swreq_candidates.specs.Evidence.{AreRulesOfRest}
use Rattle.swreq_machine.specs.swreq_symbols.Meaning.{facts_of, symbols_of}
use Rattle.swreq_machine.specs.swreq_valid.Plans.{listed}
use Rattle.swreq_machine.specs.swreq_symbols.Texts.{world_of}
use Rattle.swreq_minimal.proofs.evidence.rules_of.Given as goal

abbrev pub invariant-loop-k : goal.invariant-loop-k
invariant-loop-k l =
    let text = l.checked.text in
    AreRulesOfRest (symbols_of text.world.now.lexicon) (facts_of (world_of text)) [] (listed text.table.now l.list) l.rules.items
