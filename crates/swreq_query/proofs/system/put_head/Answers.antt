use Rattle.std.proofs.Common.{◌++◌, codes, decimal}
use Rattle.std.proofs.lemmas.Result.{on_err_weaker}
use Rattle.swreq_text.proofs.Grown.{grew_next, none_grew, on_err}
use Rattle.swreq_machine.specs.swreq_world.Worlds.{signature_at}
use Rattle.swreq_query.specs.Signatures.{full_name}
use Rattle.swreq_machine.specs.swreq_symbols.Texts.{world_of}
use Rattle.swreq_query.proofs.system.put_head.Goals as goal

pub returns-in_err-append_number-clause-err : goal.returns-in_err-append_number-clause-err
returns-in_err-append_number-clause-err c =
    let w = world_of c.args.text.now in
    let name = full_name w (signature_at w c.args.f) in
    let count = decimal c.args.rules ++ codes " rules\n" in
    on_err c.from_residual-in_err-append_number.result
    (grew_next c.args.out.now.items c.full_name.new.out.items c.append_number.new.out.items name (codes ": " ++ count)
    c.in_ok-full_name.ensures.ok
    (grew_next c.full_name.new.out.items c.append_bytes.new.out.items c.append_number.new.out.items (codes ": ") count
    c.in_ok-append_bytes.ensures.ok
    (none_grew c.append_bytes.new.out.items count c.append_number.new.out.items c.in_err-append_number.ensures.err)))

pub returns-clause-err : goal.returns-clause-err
returns-clause-err c =
    let w = world_of c.args.text.now in
    let name = full_name w (signature_at w c.args.f) in
    let count = decimal c.args.rules ++ codes " rules\n" in
    on_err_weaker c.append_bytes-2.result
    (λ same. grew_next c.args.out.now.items c.full_name.new.out.items c.append_bytes-2.new.out.items name (codes ": " ++ count)
    c.in_ok-full_name.ensures.ok
    (grew_next c.full_name.new.out.items c.append_bytes.new.out.items c.append_bytes-2.new.out.items (codes ": ") count
    c.in_ok-append_bytes.ensures.ok
    (grew_next c.append_bytes.new.out.items c.append_number.new.out.items c.append_bytes-2.new.out.items (decimal c.args.rules)
    (codes " rules\n")
    c.in_ok-append_number.ensures.ok
    (none_grew c.append_number.new.out.items (codes " rules\n") c.append_bytes-2.new.out.items same))))
    c.append_bytes-2.ensures.err
