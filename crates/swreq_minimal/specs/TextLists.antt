-- Lists of requirements of a text.
use Rattle.std.specs.Prelude.{List}
use Rattle.swreq_machine.specs.swreq_derive.Derivation.{TermFacts, TermRequirement}
use Rattle.swreq_machine.specs.swreq_symbols.Meaning.{facts_of}
use Rattle.swreq_machine.specs.swreq_symbols.Texts.{world_of}
use Rattle.swreq_machine.specs.swreq_valid.Plans.{listed}
use Rattle.swreq_minimal.specs.declared.text_lists.TextList.{TextList}

-- what one derives from
abbrev pub facts_by : TextList → TermFacts
facts_by l = facts_of (world_of l.text)

-- what its members say
abbrev pub said_by : TextList → List TermRequirement
said_by l = listed l.text.table.now l.list.now
