use Rattle.swreq_rank.specs.Ranks.{bytes_cmp}
use Rattle.swreq_rank.proofs.Rising.{rising_from_sorted}
use Rattle.swreq_lexicon.proofs.Positions.{rank_of_there, rank_of_none}
use Rattle.swreq_lexicon.proofs.protocols.rank_or_first.Goals as goal

pub returns-in-Some : goal.returns-in-Some
returns-in-Some c = rank_of_there c.args.ranks.now c.args.name.now c.in-Some.rank
    (rising_from_sorted bytes_cmp c.args.ranks.now c.len-count.ensures.sorted) c.in-Some.ensures

pub returns-in-None : goal.returns-in-None
returns-in-None c = rank_of_none c.args.ranks.now c.args.name.now c.in-None.ensures
