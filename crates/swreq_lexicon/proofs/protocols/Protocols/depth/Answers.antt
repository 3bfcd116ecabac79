use Rattle.std.proofs.Common.{◌≡◌, ◌∙◌, ◌&&◌, length, ap, sym, arith}
use Rattle.swreq_closure.specs.Bits.{count_below, has, room}
use Rattle.swreq_closure.specs.Chains.{leads}
use Rattle.swreq_lexicon.specs.Associated.{depth}
use Rattle.swreq_lexicon.specs.Views.{inherits_by, place_by}
use Rattle.swreq_lexicon.proofs.PlaceSets.{depth_counted, depth_le}
use Rattle.swreq_lexicon.proofs.protocols.Protocols.depth.Goals as goal

counted : (c : goal.After-count)
    → c.count.result ≡ depth (inherits_by c.self.inside.places.items c.self.inside.resolved.inherits)
    (length c.self.inside.ranks) c.args.protocol
counted c =
    let is = c.self.inside in
    c.count.ensures
    ∙ (λ i. count_below (λ to. leads (c.inheritance-inheritance.ensures i)
    ((c.place.ensures ∙ ap (λ v. place_by v.places c.args.protocol) (sym c.self.view_is)) i) to && has is.firsts to) (room is.firsts))
    ∙ depth_counted is.resolved.inherits is.places.items is.firsts (length is.ranks) c.args.protocol c.self.invariant.2 c.self.invariant.4

pub overflow_cast-result : goal.overflow_cast-result
overflow_cast-result c =
    let is = c.self.inside in
    let count = counted c in
    let most = depth_le is.resolved.inherits is.places.items is.firsts
    (length is.ranks) c.args.protocol c.self.invariant.2 c.self.invariant.4 in
    let few = c.self.invariant.0 in
    omega (arith, count, most, few)

pub returns : goal.returns
returns c = counted c ∙ ap (λ v. depth (inherits_by v.places v.resolved.inherits) (length v.protocols) c.args.protocol) c.self.view_is
