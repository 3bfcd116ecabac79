use Rattle.swreq_text.proofs.Grown.{on_err, first_part, rest_part, joined_at}
use Rattle.std.proofs.lemmas.Result.{on_err_weaker}
use Rattle.swreq_text.proofs.joined.put_joined.Goals as goal

pub returns-in_err-put-in-len1-up-clause-err : goal.returns-in_err-put-in-len1-up-clause-err
returns-in_err-put-in-len1-up-clause-err g c =
    let whole = joined_at (g.P.Print.text c.args.printer.now) c.args.separator.now
    c.args.items.now c.first-item.result c.in-len1-up.len_at_least c.first-item.is in
    on_err c.from_residual.result (first_part _ _ _ _ _ whole c.in_err-put-in-len1-up.ensures.err)

pub returns-in_ok-put-in-len1-up-clause-err : goal.returns-in_ok-put-in-len1-up-clause-err
returns-in_ok-put-in-len1-up-clause-err g c =
    let whole = joined_at (g.P.Print.text c.args.printer.now) c.args.separator.now
    c.args.items.now c.first-item.result c.in-len1-up.len_at_least c.first-item.is in
    on_err_weaker c.put_followed.result
    (λ part. rest_part _ _ _ _ _ _ whole c.in_ok-put-in-len1-up.ensures.ok part)
    c.put_followed.ensures.err
