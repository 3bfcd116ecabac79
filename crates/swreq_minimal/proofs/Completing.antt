-- What the machines and the world give: the completions of the protocols and of the list have ended.
use Rattle.std.proofs.Common.{List}
use Rattle.swreq_machine.specs.swreq_derive.Derivation.{TermRequirement}
use Rattle.swreq_machine.specs.swreq_derive.Facts.{generic_params}
use Rattle.swreq_machine.specs.swreq_rule.declared.rules.Rule.{Rule}
use Rattle.swreq_machine.specs.swreq_complete.Complete.{IsComplete}
use Rattle.swreq_machine.specs.swreq_correspondence.Equations.{UsableEquation}
use Rattle.swreq_machine.specs.swreq_derive.Derivation.Source.{Written}
use Rattle.swreq_machine.specs.swreq_rounds.Presents.{ProtocolEquation}
use Rattle.swreq_candidates.specs.Completed.{IsCompleted}
use Rattle.swreq_candidates.proofs.RulesGive.{least_words}
use Rattle.swreq_machine.specs.swreq_symbols.Meaning.{facts_of, symbols_of}
use Rattle.swreq_machine.proofs.swreq_symbols.Symbols.{ranks_law, symbols_law, text_law}
use Rattle.swreq_machine.specs.swreq_world.Closed.{IsClosed}
use Rattle.swreq_machine.specs.swreq_world.Worlds.{TextWorld}
use Rattle.swreq_machine.specs.swreq_valid.Protocols.{AreRulesOf}
use Rattle.swreq_machine.specs.Machines.{IsMachineOf, MachineView}
use Rattle.swreq_machine.specs.swreq_valid.Rounds.{last_rules}
use Rattle.swreq_minimal.proofs.Named.{members_named}

pub completed : (w : TextWorld) → IsClosed w
    → (protocols : List Rule) → IsComplete protocols → AreRulesOf w protocols
    → (list : List TermRequirement) (machine : MachineView) → IsComplete (last_rules machine.rounds) → IsMachineOf w list machine
    → IsCompleted (symbols_of w.lexicon) (facts_of w) (generic_params machine.params) list
completed w closed protocols complete rules list machine complete_too is = record {
  symbols = symbols_law w closed;
  of_text = text_law w closed;
  in_text = is.in_text;
  ranked = ranks_law w closed;
  named = members_named w closed;
  protocols = least_words protocols (ProtocolEquation (symbols_of w.lexicon) (facts_of w)) rules complete.meet;
  of_list = least_words (last_rules machine.rounds)
      (UsableEquation (symbols_of w.lexicon) (facts_of w) (Written (generic_params machine.params) list)) is.rules complete_too.meet;
}
