use Rattle.swreq_machine.specs.swreq_derive.Facts.{generic_params}
use Rattle.swreq_minimal.specs.TextLists.{facts_by}
use Rattle.swreq_minimal.proofs.PlainTypes.{ArePlainTo}
use Rattle.swreq_minimal.proofs.plain.are_plain.Given as goal

abbrev pub invariant-loop-k : goal.invariant-loop-k
invariant-loop-k l = ArePlainTo (facts_by l.among) (generic_params l.among.params) l.among.text.table.now l.among.list.now l.k
