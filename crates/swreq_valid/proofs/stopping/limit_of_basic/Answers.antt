use Rattle.std.proofs.Common.{subst, sym}
use Rattle.swreq_rounds.specs.Given.{basic_equations}
use Rattle.swreq_symbols.specs.Meaning.{symbols_of}
use Rattle.swreq_valid.specs.Early.{IsFront}
use Rattle.swreq_valid.proofs.Early.{fails_by_front}
use Rattle.swreq_valid.proofs.stopping.limit_of_basic.Goals as goal

pub returns-in-Ok : goal.returns-in-Ok
returns-in-Ok g c =
    let all = basic_equations (symbols_of c.args.world.now.lexicon) in
    fails_by_front c.args.limits all c.deref.result.now c.stop_among.result (g.W.Watch.told c.args.watch.now)
    (g.W.Watch.told c.stop_among.new.watch)
    (subst (λ z. IsFront z all) (sym c.deref.ensures.value) c.in-Ok.ensures) c.stop_among.ensures
