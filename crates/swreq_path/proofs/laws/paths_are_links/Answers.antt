use Rattle.swreq_path.proofs.Links.{paths_are_links}
use Rattle.swreq_path.proofs.laws.paths_are_links.Goals as goal

pub returns : goal.returns
returns c = paths_are_links c.args.rules.now
