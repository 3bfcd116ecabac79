use Rattle.swreq_rounds.specs.swreq_param.Tables.{term_at}
use Rattle.swreq_symbols.proofs.Giving.{NoneGiven}
use Rattle.swreq_valid.specs.ByReduction.{ReducesConformance}
use Rattle.swreq_valid.proofs.by_reduction.has_name.Given as goal

abbrev pub invariant-loop-rank : goal.invariant-loop-rank
invariant-loop-rank l =
    let by = l.by in
    NoneGiven by.text.world.now.lexicon (ReducesConformance by.text.world.now.lexicon by.rules.now by.over
    (term_at by.text.table.now l.subject)) l.name
    l.rank
