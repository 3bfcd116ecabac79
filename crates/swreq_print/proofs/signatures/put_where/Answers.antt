use Rattle.std.proofs.Common.{arith}
use Rattle.std.proofs.lemmas.Grind.{common_steps}
use Rattle.swreq_print.proofs.Where.{where_of_some}
use Rattle.swreq_print.proofs.signatures.put_where.Goals as goal

pub returns-in_ok-append_bytes-in-len1-up : goal.returns-in_ok-append_bytes-in-len1-up
returns-in_ok-append_bytes-in-len1-up c =
    rw (where_of_some c.args.names.now c.args.table.now c.args.list.now c.in-len1-up.len_at_least) (grind (arith, common_steps))
