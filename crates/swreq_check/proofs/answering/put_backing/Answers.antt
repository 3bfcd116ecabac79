use Rattle.std.proofs.Common.{subst}
use Rattle.swreq_explain.specs.Asked.{IsYes}
use Rattle.swreq_check.proofs.answering.put_backing.Goals as goal

pub put_path-requires-clause-yes : goal.put_path-requires-clause-yes
put_path-requires-clause-yes c =
    subst (IsYes c.args.table.now c.args.means.now.own.s.now.world.now c.args.means.now.own.f) c.in-Conf.is c.requires.yes
