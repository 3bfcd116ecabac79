use Rattle.swreq_lexicon.specs.Views.{inherits, assoc_cmp}
use Rattle.swreq_lexicon.proofs.RankLaws.{ranked, one_to_one, assoc_total}
use Rattle.swreq_lexicon.proofs.laws.associated_types_are_one_to_one.Goals as goal

pub returns-clause-ranked : goal.returns-clause-ranked
returns-clause-ranked c = ranked

pub returns-clause-one_to_one : goal.returns-clause-one_to_one
returns-clause-one_to_one c s x is = one_to_one (assoc_cmp x) (assoc_total (inherits x) x.associated) x.associated is.associated.sorted
