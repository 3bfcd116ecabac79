use Rattle.std.proofs.Common.{◌++◌, ◌∙◌, ℕ, List, ap, codes}
use Rattle.std.proofs.lemmas.Result.{on_err_weaker}
use Rattle.swreq_text.proofs.Grown.{grew_next, on_err}
use Rattle.swreq_print.specs.Names.{name_text, protocol_name}
use Rattle.swreq_print.proofs.Failing.{fails_after_three, fails_after_two}
use Rattle.swreq_print.proofs.rules.put_member.Goals as goal

pub returns-in_err-append_bytes-3-clause-err : goal.returns-in_err-append_bytes-3-clause-err
returns-in_err-append_bytes-3-clause-err c =
    let named = c.in_ok-append_bytes-2.ensures.ok ∙ ap (λ (name : List ℕ). c.append_bytes.new.out.items ++ name) c.protocol_name.ensures in
    on_err c.from_residual-in_err-append_bytes-3.result
    (fails_after_two c.args.out.now.items c.append_bytes.new.out.items c.append_bytes-2.new.out.items c.append_bytes-3.new.out.items
    (codes "[") (protocol_name c.args.names.now c.args.pair.proto) (codes ":" ++ (name_text c.args.names.now c.args.pair.name ++ codes "]"))
    c.in_ok-append_bytes.ensures.ok named c.in_err-append_bytes-3.ensures.err)

pub returns-in_err-append_bytes-4-clause-err : goal.returns-in_err-append_bytes-4-clause-err
returns-in_err-append_bytes-4-clause-err c =
    let named = c.in_ok-append_bytes-2.ensures.ok ∙ ap (λ (name : List ℕ). c.append_bytes.new.out.items ++ name) c.protocol_name.ensures in
    on_err c.from_residual-in_err-append_bytes-4.result
    (fails_after_three c.args.out.now.items c.append_bytes.new.out.items c.append_bytes-2.new.out.items c.append_bytes-3.new.out.items
    c.append_bytes-4.new.out.items
    (codes "[") (protocol_name c.args.names.now c.args.pair.proto) (codes ":") (name_text c.args.names.now c.args.pair.name ++ codes "]")
    c.in_ok-append_bytes.ensures.ok named c.in_ok-append_bytes-3.ensures.ok c.in_err-append_bytes-4.ensures.err)

pub returns-clause-err : goal.returns-clause-err
returns-clause-err c =
    let named = c.in_ok-append_bytes-2.ensures.ok ∙ ap (λ (name : List ℕ). c.append_bytes.new.out.items ++ name) c.protocol_name.ensures in
    let own = c.in_ok-append_bytes-4.ensures.ok ∙ ap (λ (name : List ℕ). c.append_bytes-3.new.out.items ++ name) c.name_text.ensures in
    on_err_weaker c.append_bytes-5.result
    (λ same. grew_next c.args.out.now.items c.append_bytes.new.out.items c.append_bytes-5.new.out.items (codes "[")
    (protocol_name c.args.names.now c.args.pair.proto ++ (codes ":" ++ (name_text c.args.names.now c.args.pair.name ++ codes "]")))
    c.in_ok-append_bytes.ensures.ok
    (fails_after_three c.append_bytes.new.out.items c.append_bytes-2.new.out.items c.append_bytes-3.new.out.items
    c.append_bytes-4.new.out.items
    c.append_bytes-5.new.out.items
    (protocol_name c.args.names.now c.args.pair.proto) (codes ":") (name_text c.args.names.now c.args.pair.name) (codes "]")
    named c.in_ok-append_bytes-3.ensures.ok own same))
    c.append_bytes-5.ensures.err
