use Rattle.std.proofs.Common.{refl}
use Rattle.swreq_check.proofs.answering.history_for.Goals as goal

pub history_of-requires-clause-rounds : goal.history_of-requires-clause-rounds
history_of-requires-clause-rounds c =
    let s = c.args.own.now.s.now in
    let h = c.requires.own.machine in record {
      signature = h.signature;
      params = h.params;
      protocols = (s.limits, c.requires.own.ready.rounds);
      list = (s.limits, h.rounds);
      machine = h.machine;
    }

pub returns-in_ok-history-in-Some : goal.returns-in_ok-history-in-Some
returns-in_ok-history-in-Some c = λ e. (c.in_ok-history-in-Some.history, refl, c.in_ok-history-in-Some.ensures)
