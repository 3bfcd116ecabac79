use Rattle.std.proofs.Common.{◌∙◌}
use Rattle.std.proofs.lemmas.Result.{on_err_weaker, on_ok_weaker}
use Rattle.swreq_text.proofs.Grown.{grew_first, on_err, piece_grew}
use Rattle.swreq_query.proofs.Reading.{name_appended, name_grew}
use Rattle.swreq_query.proofs.names.full_name.Goals as goal

pub returns-in_err-put_outer-clause-err : goal.returns-in_err-put_outer-clause-err
returns-in_err-put_outer-clause-err c =
    on_err c.from_residual.result
    (name_grew c.args.text.now.table.now c.args.text.now.world.now c.args.f c.args.out.now.items c.put_outer.new.out.items
    (grew_first _ _ _ _ c.in_err-put_outer.ensures.err))

pub returns-clause-err : goal.returns-clause-err
returns-clause-err c = on_err_weaker c.append_bytes.result
    (λ same. name_grew c.args.text.now.table.now c.args.text.now.world.now c.args.f c.args.out.now.items c.append_bytes.new.out.items
    (piece_grew _ _ _ _ (same ∙ c.in_ok-put_outer.ensures.ok)))
    c.append_bytes.ensures.err

pub returns-clause-ok : goal.returns-clause-ok
returns-clause-ok c = on_ok_weaker c.append_bytes.result
    (name_appended c.args.text.now.table.now c.args.text.now.world.now c.args.f c.args.out.now.items _ _ _ c.in_ok-put_outer.ensures.ok
    c.func_name.ensures)
    c.append_bytes.ensures.ok
