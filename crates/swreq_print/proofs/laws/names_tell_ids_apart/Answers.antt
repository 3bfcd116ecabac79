use Rattle.swreq_print.proofs.Telling.{names_tell}
use Rattle.swreq_print.proofs.laws.names_tell_ids_apart.Goals as goal

pub returns : goal.returns
returns c s x stands is = names_tell c.args.text.now s x stands is
