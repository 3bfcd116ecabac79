use Rattle.std.proofs.Common.{◌&&◌, ap, sym}
use Rattle.swreq_closure.specs.Bits.{has, room}
use Rattle.swreq_closure.specs.Chains.{leads}
use Rattle.swreq_closure.proofs.Counts.{count_none}
use Rattle.swreq_closure.proofs.closure.Closure.count.Goals as goal

pub returns-in-None : goal.returns-in-None
returns-in-None c =
    let among = c.args.among.now in
    sym (count_none (λ to. leads c.args.self.now c.args.from to && has among to) (room among)
    (λ to. ap (λ b. b && has among to) (c.in-None.ensures to)))
