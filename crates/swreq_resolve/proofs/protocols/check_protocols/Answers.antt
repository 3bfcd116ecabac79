use Rattle.swreq_closure.specs.Chains.{leads}
use Rattle.swreq_resolve.specs.First.{least}
use Rattle.swreq_resolve.specs.Refusals.{by_place, of_protocol}
use Rattle.swreq_resolve.proofs.Walks.{by_place_more, by_place_all}
use Rattle.swreq_resolve.proofs.protocols.check_protocols.Goals as goal

pub loop-i-preserved : goal.loop-i-preserved
loop-i-preserved c =
    by_place_more (of_protocol c.args.text.now c.args.declared.now (leads c.args.inherits.now))
    c.args.protocols.now c.loop-i.i c.index-protocols-i.result c.loop-i.best c.check_protocol-best.result
    (least c.args.best (by_place (of_protocol c.args.text.now c.args.declared.now (leads c.args.inherits.now)) 0 c.args.protocols.now))
    c.loop-i-test.true c.index-protocols-i.is
    c.check_protocol-best.ensures c.loop-i.invariant

pub returns : goal.returns
returns c = by_place_all (of_protocol c.args.text.now c.args.declared.now (leads c.args.inherits.now)) c.args.protocols.now c.loop-i.i
    c.loop-i.best (least c.args.best (by_place (of_protocol c.args.text.now c.args.declared.now (leads c.args.inherits.now)) 0
    c.args.protocols.now)) c.loop-i-test.false c.loop-i.invariant
