use Rattle.std.proofs.Common.{◌++◌, ◌∷◌, [], map, refl}
use Rattle.swreq_valid.specs.Plans.{in_protocol}
use Rattle.swreq_valid.proofs.Listing.{part_more, parts_all}
use Rattle.swreq_valid.proofs.basic.add_requirements.Goals as goal

pub loop-k-preserved : goal.loop-k-preserved
loop-k-preserved c =
    part_more (map (in_protocol c.args.protocol)) (λ r. in_protocol c.args.protocol r ∷ []) refl
    (λ r rs. refl) c.args.list.now c.loop-k.k _ c.loop-k.wanted.items c.push.new.self.items
    (c.args.wanted.now.items ++ map (in_protocol c.args.protocol) c.args.list.now) c.loop-k-test.true c.in_ok-push.ensures.items
    c.loop-k.invariant

pub returns : goal.returns
returns c =
    parts_all (map (in_protocol c.args.protocol)) (λ r. in_protocol c.args.protocol r ∷ []) refl
    (λ r rs. refl) c.args.list.now c.loop-k.k c.loop-k.wanted.items
    (c.args.wanted.now.items ++ map (in_protocol c.args.protocol) c.args.list.now) c.loop-k-test.false c.loop-k.invariant
