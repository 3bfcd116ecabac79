use Rattle.swreq_rank.proofs.Names.{bytes_apart}
use Rattle.swreq_rank.proofs.ranks.Ranks.of.Goals as goal

pub of-requires : goal.of-requires
of-requires c = bytes_apart
