use Rattle.swreq_machine.specs.swreq_derive.Facts.{generic_params}
use Rattle.swreq_candidates.specs.Evidence.{IsPlainIn}
use Rattle.swreq_machine.specs.swreq_symbols.Texts.{IsTypeOfText, term_of}
use Rattle.swreq_minimal.specs.TextLists.{facts_by, said_by}
use Rattle.swreq_minimal.proofs.plain.is_plain.Given as goal

abbrev pub invariant-loop : goal.invariant-loop
invariant-loop l =
    IsTypeOfText l.among.text l.at
    × (IsPlainIn (facts_by l.among) (generic_params l.among.params) (said_by l.among) (term_of l.among.text l.at)
    → IsPlainIn (facts_by l.among) (generic_params l.among.params) (said_by l.among) (term_of l.among.text l.fn.t))
