use Rattle.std.proofs.Common.{sym}
use Rattle.swreq_lowering.specs.Words.{words_by}
use Rattle.swreq_lowering.proofs.Growing.{adds_same, adds_then, on_ok}
use Rattle.swreq_lowering.proofs.Walked.{signature_walked}
use Rattle.swreq_lowering.proofs.signatures.add_signature.Goals as goal

pub returns-clause-adds : goal.returns-clause-adds
returns-clause-adds c =
    on_ok c.add_clause.result
    (λ a. adds_same c.args.table.now c.add_clause.new.table c.args.into.now.items c.add_clause.new.into.items _ _
    (adds_then c.args.table.now c.add_params.new.table c.add_clause.new.table c.args.into.now.items c.add_params.new.into.items
    c.add_clause.new.into.items _ _ c.in_ok-add_params.ensures.adds a)
    (sym (signature_walked (words_by c.args.words.now) c.args.signature c.args.params.now c.args.clause.now)))
    c.add_clause.ensures.adds
