use Rattle.std.proofs.Common.{◌++◌, ◌∙◌, ◌∷◌, [], ℕ, List, ap, codes, decimal}
use Rattle.std.proofs.lemmas.Result.{on_err_weaker}
use Rattle.swreq_text.proofs.Grown.{on_err}
use Rattle.swreq_print.proofs.Failing.{fails_after, fails_after_three, fails_after_two}
use Rattle.swreq_print.proofs.types.put_param.Goals as goal

pub returns-in_err-append_number-clause-err : goal.returns-in_err-append_number-clause-err
returns-in_err-append_number-clause-err c =
    let tau = c.in_ok-append_bytes.ensures.ok ∙ ap (λ (bytes : List ℕ). c.args.out.now.items ++ bytes) c.as_bytes.ensures.value in
    on_err c.from_residual-in_err-append_number.result
    (fails_after c.args.out.now.items c.append_bytes.new.out.items c.append_number.new.out.items
    (207 ∷ 132 ∷ 95 ∷ []) (decimal c.args.param.depth ++ (codes "_" ++ decimal c.args.param.index))
    tau c.in_err-append_number.ensures.err)

pub returns-in_err-append_bytes-2-clause-err : goal.returns-in_err-append_bytes-2-clause-err
returns-in_err-append_bytes-2-clause-err c =
    let tau = c.in_ok-append_bytes.ensures.ok ∙ ap (λ (bytes : List ℕ). c.args.out.now.items ++ bytes) c.as_bytes.ensures.value in
    on_err c.from_residual-in_err-append_bytes-2.result
    (fails_after_two c.args.out.now.items c.append_bytes.new.out.items c.append_number.new.out.items c.append_bytes-2.new.out.items
    (207 ∷ 132 ∷ 95 ∷ []) (decimal c.args.param.depth) (codes "_" ++ decimal c.args.param.index)
    tau c.in_ok-append_number.ensures.ok c.in_err-append_bytes-2.ensures.err)

pub returns-clause-err : goal.returns-clause-err
returns-clause-err c =
    let tau = c.in_ok-append_bytes.ensures.ok ∙ ap (λ (bytes : List ℕ). c.args.out.now.items ++ bytes) c.as_bytes.ensures.value in
    on_err_weaker c.append_number-2.result
    (fails_after_three c.args.out.now.items c.append_bytes.new.out.items c.append_number.new.out.items c.append_bytes-2.new.out.items
    c.append_number-2.new.out.items
    (207 ∷ 132 ∷ 95 ∷ []) (decimal c.args.param.depth) (codes "_") (decimal c.args.param.index)
    tau c.in_ok-append_number.ensures.ok c.in_ok-append_bytes-2.ensures.ok)
    c.append_number-2.ensures.err
