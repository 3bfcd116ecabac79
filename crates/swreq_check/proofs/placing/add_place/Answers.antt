use Rattle.std.proofs.Common.{arith}
use Rattle.swreq_check.proofs.Placed.{one_noted}
use Rattle.swreq_check.proofs.placing.add_place.Goals as goal

pub returns : goal.returns
returns c = λ made_by count makes h.
    one_noted made_by count c.args.k c.args.places.now.items h c.args.f makes (omega (arith, c.requires.f, h.counted))
    c.index_mut.result.now c.push.new.self c.index_mut.ensures.value c.in_ok-push.ensures.items
