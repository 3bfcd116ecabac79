use Rattle.std.proofs.Common.{ap, subst}
use Rattle.swreq_derive.{specs.swreq_param.Tables.{AreDistinct, term_at}, proofs.InstanceLemmas.{same_id, id_same}}
use Rattle.swreq_derivation.proofs.equalities.are_one.Goals as goal

pub returns : goal.returns
returns c = (
  (λ e. ap (term_at c.args.derivation.now.table) (same_id c.args.left c.args.right e)),
  λ e. id_same c.args.left c.args.right
      (subst AreDistinct c.table.ensures c.len-count.ensures.distinct c.args.left c.args.right c.requires.left c.requires.right e),
)
