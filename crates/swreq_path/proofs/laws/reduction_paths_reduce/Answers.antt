use Rattle.swreq_path.proofs.Reducing.{path_reduces}
use Rattle.swreq_path.proofs.laws.reduction_paths_reduce.Goals as goal

pub returns : goal.returns
returns c = path_reduces c.args.rules.now
