use Rattle.swreq_subst.proofs.Ids.{associated, referred}
use Rattle.swreq_subst.proofs.laws.names_have_ids.Goals as goal

pub returns : goal.returns
returns c terms s w stands is resolve = record {
  signatures = c.signatures_are_found_by_name.ensures.by_table terms s w stands is resolve;
  referred = referred c.args.text.now s terms w is;
  associated = associated c.args.text.now s terms w is resolve.names;
}
