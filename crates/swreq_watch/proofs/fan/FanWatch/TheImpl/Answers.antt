use Rattle.std.proofs.Common.{refl}
use Rattle.swreq_watch.proofs.Telling.{either}
use Rattle.swreq_watch.proofs.fan.FanWatch.TheImpl.Goals as goal

pub tell-tells : goal.tell-tells
tell-tells g x c = let both = either c.result refl refl in record { ok = both.0; err = both.1 }
