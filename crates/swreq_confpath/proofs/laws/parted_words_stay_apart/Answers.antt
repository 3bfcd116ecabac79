use Rattle.swreq_confpath.proofs.Spared.{stays_apart}
use Rattle.swreq_confpath.proofs.laws.parted_words_stay_apart.Goals as goal

pub returns : goal.returns
returns c rules complete u v tail least_u least_v parted links = stays_apart rules complete u v tail least_u least_v parted links
