use Rattle.std.proofs.Common.{◌++◌, ◌∙◌, ap, codes}
use Rattle.std.proofs.lemmas.Result.{on_err_weaker}
use Rattle.swreq_text.proofs.Grown.{piece_grew}
use Rattle.swreq_print.specs.swreq_derive.Facts.{generic_params}
use Rattle.swreq_print.specs.swreq_lexicon.Views.{LexiconView}
use Rattle.swreq_machine.specs.swreq_valid.Plans.{listed}
use Rattle.swreq_print.specs.Signatures.{signature_text}
use Rattle.swreq_query.proofs.minimised.put_signature.Goals as goal

pub returns-clause-err : goal.returns-clause-err
returns-clause-err c =
    let text = λ (x : LexiconView). signature_text x (generic_params c.args.params) (listed c.args.text.now.table.now c.args.list.now) in
    on_err_weaker c.append_bytes.result
    (λ same. piece_grew c.args.out.now.items c.append_bytes.new.out.items (text c.args.text.now.world.now.lexicon) (codes "\n")
    (same ∙ c.in_ok-signature_text.ensures.ok ∙ ap (λ (x : LexiconView). c.args.out.now.items ++ text x) c.lexicon.ensures))
    c.append_bytes.ensures.err
